use Rattle.std.proofs.Common.{rules, ◌≡◌, refl}
use Rattle.std.specs.Arc.{arc_value}
use Rattle.srm_crew.specs.declared.piece.Piece.TheVariants.{Hearers}
use Rattle.srm_crew.specs.Pieces.{AreHearersOf}
use Rattle.srm_interfaces.proofs.Zips.{zip_more}
use Rattle.srm_crew.proofs.pieces.to_hear.Goals as goal

pub loop-groups-preserved : goal.loop-groups-preserved
loop-groups-preserved g c =
    let same : (arc_value c.in_ok-sent.sent).items ≡ c.args.sent.items = search rules in (
      tt,
      tt,
      zip_more (λ gs p. AreHearersOf c.args.sent.items gs p) _ _ _ _ c.in-Some.groups (Hearers c.in_ok-sent.sent c.in-Some.groups)
          (rw c.in-Some.ensures.steps.0 at c.loop-groups.invariant.2) (same, refl) c.in_ok-push.ensures.items,
    )
