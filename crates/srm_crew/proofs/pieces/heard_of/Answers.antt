use Rattle.std.proofs.Common.{◌∙◌, ap}
use Rattle.std.proofs.lemmas.List.Elements.{All-tail}
use Rattle.srm_crew.specs.declared.worked.Worked.TheVariants.{Heard}
use Rattle.srm_crew.specs.Pieces.{IsHeard}
use Rattle.srm_crew.proofs.Hearers.{heard_more}
use Rattle.srm_crew.proofs.pieces.heard_of.Goals as goal

pub loop-worked-preserved : goal.loop-worked-preserved
loop-worked-preserved g c = (
  tt,
  tt,
  All-tail (λ w. IsHeard w) _ _ (rw c.in-Some.ensures.steps.0 at c.loop-worked.invariant.2),
  heard_more _ _ c.in-Some.worked _ _ c.in_ok-groups.groups (rw c.in-Some.ensures.steps.0 at c.loop-worked.invariant.3)
      ((rw c.unwrap.ensures at c.into_heard.ensures) ∙ ap Heard c.in_ok-groups.was) c.in_ok-append.ensures.items,
)
