use Rattle.std.proofs.Common.{◌≡◌, ◌≤◌, ◌⊎◌, ◌*◌, ◌++◌, length}
use Rattle.std.specs.Vec.Iter.{into_iter_items}
use Rattle.srm_interfaces.proofs.InPieces.{all_in}
use Rattle.srm_crew.proofs.pieces.even_pieces.Given as goal

abbrev pub invariant-loop-group : goal.invariant-loop-group
invariant-loop-group g l =
    (goal.iterator-loop-group g).can_next l.group-iterator
    × (goal.iterator-loop-group g).is_finite l.group-iterator
    × ((all_in l.pieces.items ++ l.piece.items) ++ into_iter_items l.group-iterator ≡ l.fn.groups.items)
    × (length l.pieces.items * l.size ≤ length (all_in l.pieces.items))
    × ((length l.pieces.items ≡ 0) ⊎ (1 ≤ length l.piece.items))
