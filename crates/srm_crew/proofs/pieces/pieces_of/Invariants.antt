use Rattle.std.proofs.Common.{◌≡◌, ◌≤◌, ◌++◌, length}
use Rattle.std.specs.Vec.Iter.{into_iter_items}
use Rattle.srm_interfaces.proofs.InPieces.{all_in}
use Rattle.srm_crew.proofs.pieces.pieces_of.Given as goal

abbrev pub invariant-loop-job : goal.invariant-loop-job
invariant-loop-job g l =
    (goal.iterator-loop-job g).can_next l.job-iterator
    × (goal.iterator-loop-job g).is_finite l.job-iterator
    × ((all_in l.pieces.items ++ l.piece.items) ++ into_iter_items l.job-iterator ≡ l.fn.jobs.items)
    × (length l.pieces.items ≤ l.cuts)
