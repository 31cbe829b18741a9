use Rattle.std.proofs.Common.{[], sym, subst}
use Rattle.srm_cell.specs.declared.everywhere.Everywhere.{Everywhere}
use Rattle.srm_cell.specs.Tallies.{Tallies}
use Rattle.srm_cell.proofs.Tallying.{begun}
use Rattle.srm_cell.proofs.tally.Tally.new.Goals as goal

pub returns : goal.returns
returns c = λ s net many.
    subst (λ (e : Everywhere). Tallies s net [] (record { everywhere = e; stopped = c.in_ok-new.field-0 })) (sym c.none.ensures)
    (begun s net c.args.links c.in_ok-new.field-0 many c.in_ok-new.ensures)
