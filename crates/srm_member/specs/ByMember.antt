-- The rows of each member.
use Rattle.std.specs.Prelude.{◌≡◌, ℕ, List, filter, ◌==◌}
use Rattle.srm_member.specs.declared.row.Row.{Row}

-- member m's rows
abbrev pub rows_of_member : ℕ → List Row → List Row
rows_of_member m rows = filter (λ r. r.key.member == m) rows

-- each member's rows stand in the same order in both
abbrev pub AreAlike : List Row → List Row → Type 0
AreAlike xs ys = (m : ℕ) → rows_of_member m xs ≡ rows_of_member m ys
