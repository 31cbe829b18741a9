use Rattle.srm_crew.specs.Pieces.{IsAdvanced, IsAdvancedAs}
use Rattle.srm_interfaces.proofs.Zips.{zip_more}
use Rattle.std.proofs.lemmas.List.Elements.{All-tail}
use Rattle.srm_crew.proofs.pieces.advanced_of.Goals as goal

pub loop-worked-preserved : goal.loop-worked-preserved
loop-worked-preserved g c = (
  tt,
  tt,
  All-tail (λ w. IsAdvanced w) _ _ (rw c.in-Some.ensures.steps.0 at c.loop-worked.invariant.2),
  zip_more (λ w r. IsAdvancedAs r w) _ _ _ _ c.in-Some.worked c.unwrap.result
      (rw c.in-Some.ensures.steps.0 at c.loop-worked.invariant.3) (rw c.unwrap.ensures at c.into_advanced.ensures)
      c.in_ok-push.ensures.items,
)
