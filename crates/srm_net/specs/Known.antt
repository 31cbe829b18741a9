-- Lists of marks, one for each node.
use Rattle.std.specs.Prelude.{ℕ, Bool, false, List, slice_index_or}

-- whether a node is known
abbrev pub is_known : List Bool → ℕ → Bool
is_known known u = slice_index_or known u false
