-- Tables that list rows, in the order of the trace.
use Rattle.std.specs.Prelude.{ℕ, List, ◌++◌}
use Rattle.std.specs.List.{flat_map}
use Rattle.srm_member.specs.declared.row.Row.{Row}

-- how a table lists rows: the line of its columns, and the lines of a row, which may be none
pub record Form : Type 0 where
  pub header : List ℕ
  pub line : Row → List ℕ

-- the lines of these rows
abbrev pub lines_in : Form → List Row → List ℕ
lines_in f rows = flat_map f.line rows

-- the table of these rows
abbrev pub text_in : Form → List Row → List ℕ
text_in f rows = f.header ++ lines_in f rows
