-- The table of members, member by member.
use Rattle.std.proofs.Common.{◌≡◌, ◌∙◌, ℕ, ◌+◌, List, [], ◌∷◌, ◌++◌, length, Some, ap, sym, take, slice_get, arith}
use Rattle.std.proofs.Math.Seq.{take-length}
use Rattle.std.proofs.lemmas.List.{take_more, length-take-le}
use Rattle.std.proofs.lemmas.Option.{get_or_from_slice_get, slice_get_within}
use Rattle.srm_member.specs.ByMember.{rows_of_member}
use Rattle.csv.specs.Writing.{default_writer, row_text}
use Rattle.srm_scenario.specs.declared.parts.MemberSpec.{MemberSpec}
use Rattle.srm_scenario.specs.Plain.{PlainScenario}
use Rattle.srm_member.specs.declared.row.Row.{Row}
use Rattle.srm_report.specs.declared.members.counts.Counts.{Counts}
use Rattle.srm_report.specs.declared.members.member_count.MemberCount.{MemberCount}
use Rattle.srm_report.specs.MemberCounts.{AreCounts, counts_at}
use Rattle.srm_report.specs.Members.{counts_of, member_columns, member_fields, member_rows, members_table}
use Rattle.srm_report.specs.Tables.{table_lines}
use Rattle.srm_report.proofs.TableLemmas.{table_more}
use Rattle.srm_report.proofs.CountLemmas.{member_rows-more}

module _ (rows : List Row) (ks : List MemberSpec) (cs : List MemberCount)
    (counts : AreCounts (length ks) rows cs) where
  pub text_more : (m : ℕ) (k : MemberSpec) (n : Counts) → slice_get ks m ≡ Some k → n ≡ counts_at cs m
      → table_lines member_columns (member_rows rows 0 (take m ks)) ++ row_text default_writer (member_fields m k n)
      ≡ table_lines member_columns (member_rows rows 0 (take (m + 1) ks))
  text_more m k n here is =
      let lt = slice_get_within ks m k here in
      let own : n ≡ counts_of (rows_of_member m rows) = is ∙ counts m lt in
      let long = length-take-le m ks (omega arith) in
      let one : take (m + 1) ks ≡ take m ks ++ k ∷ [] = take_more ks m k lt
      ∙ ap (λ q. take m ks ++ q ∷ []) (get_or_from_slice_get ks m k k here) in
      ap (λ q. table_lines member_columns (member_rows rows 0 (take m ks)) ++ row_text default_writer (member_fields m k q)) own
      ∙ table_more member_columns (member_rows rows 0 (take m ks)) (member_fields m k (counts_of (rows_of_member m rows)))
      ∙ ap (table_lines member_columns) (sym (member_rows-more rows 0 (take m ks) k m (omega arith)) ∙ ap (member_rows rows 0) (sym one))

pub text_all : (rows : List Row) (s : PlainScenario) (m : ℕ) → m ≡ length s.members
    → table_lines member_columns (member_rows rows 0 (take m s.members)) ≡ members_table s rows
unfolding members_table
text_all rows s m whole = ap (λ n. table_lines member_columns (member_rows rows 0 (take n s.members))) whole
    ∙ ap (λ ks. table_lines member_columns (member_rows rows 0 ks)) (take-length s.members)
