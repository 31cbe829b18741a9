-- Tables as text: a line of columns, and then the lines of the rows.
use Rattle.std.specs.Prelude.{ℕ, List, ◌++◌}
use Rattle.std.specs.List.{flat_map}
use Rattle.csv.specs.Writing.{row_text, default_writer}

-- the lines of these rows, each of which is its fields
unfoldable pub lines_of : List (List (List ℕ)) → List ℕ
lines_of rows = flat_map (row_text default_writer) rows

-- the table of these columns with these rows
unfoldable pub table_lines : List (List ℕ) → List (List (List ℕ)) → List ℕ
table_lines columns rows = row_text default_writer columns ++ lines_of rows
