use Rattle.std.proofs.Common.{ℕ, map}
use Rattle.std.specs.Vec.Iter.{into_iter_items}
use Rattle.std.specs.Iterator.Adapters.{zip_first, zip_second}
use Rattle.srm_engine.specs.Openings.{HoldOpeningRecords}
use Rattle.srm_engine.proofs.Opened.{OpenSoFar}
use Rattle.srm_engine.proofs.cells.open_cells.Given as goal

abbrev pub invariant-loop-member : goal.invariant-loop-member
invariant-loop-member g l =
    (goal.iterator-loop-member g).can_next l.member-iterator
    × (goal.iterator-loop-member g).is_finite l.member-iterator
    × ((seed : ℕ) → HoldOpeningRecords l.scenario seed (map g.M.Participant.plain l.fn.members.items)
    → OpenSoFar g.M.Participant.plain l.scenario seed (into_iter_items (zip_first l.member-iterator))
    (into_iter_items (zip_second l.member-iterator)) l.cells.items)
