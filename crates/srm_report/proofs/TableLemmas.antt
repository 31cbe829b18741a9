-- Tables, row by row.
use Rattle.std.proofs.Common.{arith}
use Rattle.std.proofs.Common.{◌≡◌, ◌∙◌, ℕ, ◌+◌, ◌<◌, List, [], ◌∷◌, ◌++◌, length, map, take, get_or, ap, sym, append-nil, append_assoc}
use Rattle.std.proofs.lemmas.Grind.{flat_map-append}
use Rattle.std.proofs.lemmas.List.{map-append, take_more}
use Rattle.csv.specs.Writing.{default_writer, row_text}
use Rattle.srm_report.specs.Tables.{lines_of, table_lines}

-- a table of no rows is the line of its columns
pub table_first : (columns : List (List ℕ)) → row_text default_writer columns ≡ table_lines columns []
unfolding table_lines lines_of
table_first columns = sym (append-nil (row_text default_writer columns))

-- the lines of one row more
pub lines_more : (rows : List (List (List ℕ))) (r : List (List ℕ)) → lines_of (rows ++ r ∷ []) ≡ lines_of rows ++ row_text default_writer r
unfolding lines_of
lines_more rows r = grind (arith, flat_map-append, append-nil)

-- a table with the line of one row more
pub table_more : (columns : List (List ℕ)) (rows : List (List (List ℕ))) (r : List (List ℕ))
    → table_lines columns rows ++ row_text default_writer r ≡ table_lines columns (rows ++ r ∷ [])
unfolding table_lines
table_more columns rows r = grind (arith, append_assoc, lines_more)

-- a table with the line of the next of some elements
pub mapped_more : {A : Type 0} (columns : List (List ℕ)) (f : A → List (List ℕ)) (xs : List A) (i : ℕ) (d : A) → i < length xs
    → table_lines columns (map f (take i xs)) ++ row_text default_writer (f (get_or xs i d)) ≡ table_lines columns (map f (take (i + 1) xs))
mapped_more columns f xs i d lt =
    table_more columns (map f (take i xs)) (f (get_or xs i d))
    ∙ ap (table_lines columns) (sym (ap (map f) (take_more xs i d lt) ∙ map-append f (take i xs) (get_or xs i d ∷ [])))
