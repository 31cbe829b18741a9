-- The table of links, link by link.
use Rattle.std.proofs.Common.{◌≡◌, ◌∙◌, ℕ, ◌<◌, ◌+◌, ◌/◌, List, ◌++◌, length, map, ap, sym, arith, slice_index, slice_index_or}
use Rattle.std.specs.List.{range_with_len, concat}
use Rattle.std.proofs.lemmas.List.FromFn.{map-range_with_len_more}
use Rattle.csv.specs.Writing.{default_writer, row_text}
use Rattle.srm_ledger.specs.declared.kind.Kind.{Kind}
use Rattle.srm_ledger.specs.Counts.{place_of, counted_at}
use Rattle.srm_report.proofs.Fives.{FiveEach, length_joined, index_joined}
use Rattle.srm_report.specs.Links.{link_columns, link_fields, links_table}
use Rattle.srm_report.specs.Tables.{table_lines}
use Rattle.srm_report.proofs.TableLemmas.{table_more}

-- the rows of the first n links
abbrev pub first_rows : List ℕ → ℕ → List (List (List ℕ))
first_rows totals n = map (λ l. link_fields l (counted_at totals l)) (range_with_len 0 n)

module _ (ls : List (List ℕ)) (five : FiveEach ls) (totals : List ℕ) (joined : concat ls ≡ totals) where
  -- the five numbers at place i are those of link i
  numbers_are : (i : ℕ) (d : List ℕ) → i < length ls → (k : Kind) → slice_index (slice_index_or ls i d) (place_of k) ≡ counted_at totals i k
  numbers_are i d lt k = grind (arith, index_joined)

  pub links_are : length totals / 5 ≡ length ls
  links_are = let long = length_joined ls five in let same : length (concat ls) ≡ length totals = ap length joined in omega arith

  pub text_more : (i : ℕ) (d : List ℕ) → i < length ls → table_lines link_columns (first_rows totals i)
      ++ row_text default_writer (link_fields i (λ k. slice_index (slice_index_or ls i d) (place_of k)))
      ≡ table_lines link_columns (first_rows totals (i + 1))
  text_more i d lt =
      (λ t. table_lines link_columns (first_rows totals i) ++ row_text default_writer (link_fields i (λ k. numbers_are i d lt k t)))
      ∙ table_more link_columns (first_rows totals i) (link_fields i (counted_at totals i))
      ∙ ap (table_lines link_columns) (sym (map-range_with_len_more (λ l. link_fields l (counted_at totals l)) 0 i i (omega arith)))

  pub text_all : (i : ℕ) → i ≡ length ls → table_lines link_columns (first_rows totals i) ≡ links_table totals
  unfolding links_table
  text_all i whole = ap (λ n. table_lines link_columns (first_rows totals n)) (whole ∙ sym links_are)
