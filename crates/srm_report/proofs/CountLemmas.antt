-- Counts of rows, row by row.
use Rattle.std.proofs.Common.{◌≡◌, ◌∙◌, ℕ, ◌+◌, ◌<◌, Bool, cond, ◌&&◌, List, [], ◌∷◌, ◌++◌, length, Option}
use Rattle.std.proofs.Common.{ap, sym, zero, suc, arith}
use Rattle.std.specs.List.{count_by}
use Rattle.std.proofs.lemmas.List.Sums.{sum_by_push}
use Rattle.std.proofs.lemmas.List.Folds.{find-append}
use Rattle.srm_member.specs.ByMember.{rows_of_member}
use Rattle.srm_member.specs.declared.row.Word.{Word}
use Rattle.srm_member.specs.declared.row.Row.{Row}
use Rattle.srm_interfaces.specs.Watches.{KeepMembers}
use Rattle.srm_member.specs.Kinds.{is_join, is_leave, is_draw, is_ask, is_answer, is_report, is_arrival, is_sent, is_fixed}
use Rattle.srm_scenario.specs.declared.parts.MemberSpec.{MemberSpec}
use Rattle.srm_report.specs.declared.members.counts.Counts.{Counts}
use Rattle.srm_report.specs.declared.members.member_count.MemberCount.{MemberCount}
use Rattle.srm_report.specs.Counted.{first_known}
use Rattle.srm_report.specs.MemberCounts.{IsCountOf, counts_at}
use Rattle.srm_report.specs.Members.{counts_of, member_fields, member_rows}
use Rattle.srm_report.specs.Rows.{time_of_first}

-- ---- one row more

time_more : (kind : Word → Bool) (rows : List Row) (r : Row)
    → first_known (time_of_first (λ q. kind q.cause) rows) r.key.time (kind r.cause)
    ≡ time_of_first (λ q. kind q.cause) (rows ++ r ∷ [])
time_more kind rows r = grind (arith, find-append)

count_more : (p : Row → Bool) (rows : List Row) (r : Row) → count_by p rows + cond (p r) 1 0 ≡ count_by p (rows ++ r ∷ [])
count_more p rows r = sym (sum_by_push (λ q. cond (p q) 1 0) rows r)

-- what rows say, with one row more, of which each number tells its part
pub counts_more : (rows : List Row) (r : Row) (c : Counts) (joined left : Option ℕ) (drawn heard lost fixed requests repairs sessions : ℕ)
    → c ≡ counts_of rows
    → joined ≡ first_known c.joined r.key.time (is_join r.cause) → left ≡ first_known c.left r.key.time (is_leave r.cause)
    → drawn ≡ cond (is_draw r.cause && is_sent r.told) 1 0 → heard ≡ cond (is_arrival r.cause) 1 0 → lost ≡ length r.lost → fixed
    ≡ cond (is_fixed r.told) 1 0
    → requests ≡ cond (is_ask r.cause && is_sent r.told) 1 0 → repairs ≡ cond (is_answer r.cause && is_sent r.told) 1 0 → sessions
    ≡ cond (is_report r.cause && is_sent r.told) 1 0
    → ◌≡◌ {A = Counts} (record {
      joined = joined;
      left = left;
      drawn = c.drawn + drawn;
      heard = c.heard + heard;
      lost =
          c.lost + lost;
      fixed = c.fixed + fixed;
      requests = c.requests + requests;
      repairs = c.repairs + repairs;
      sessions =
          c.sessions + sessions;
    }) (counts_of (rows ++ r ∷ []))
unfolding counts_of
counts_more rows r c joined left drawn heard lost fixed requests repairs sessions e j l d h n f q a s =
    let J = j ∙ ap (λ (x : Counts). first_known x.joined r.key.time (is_join r.cause)) e ∙ time_more is_join rows r in
    let L = l ∙ ap (λ (x : Counts). first_known x.left r.key.time (is_leave r.cause)) e ∙ time_more is_leave rows r in
    let D = (λ i. (e i).drawn + d i) ∙ count_more (λ q. is_draw q.cause && is_sent q.told) rows r in
    let H = (λ i. (e i).heard + h i) ∙ count_more (λ q. is_arrival q.cause) rows r in
    let N = (λ i. (e i).lost + n i) ∙ sym (sum_by_push (λ (q : Row). length q.lost) rows r) in
    let F = (λ i. (e i).fixed + f i) ∙ count_more (λ q. is_fixed q.told) rows r in
    let Q = (λ i. (e i).requests + q i) ∙ count_more (λ q. is_ask q.cause && is_sent q.told) rows r in
    let A = (λ i. (e i).repairs + a i) ∙ count_more (λ q. is_answer q.cause && is_sent q.told) rows r in
    let S = (λ i. (e i).sessions + s i) ∙ count_more (λ q. is_report q.cause && is_sent q.told) rows r in
    λ i. record {
      joined = J i;
      left = L i;
      drawn = D i;
      heard = H i;
      lost = N i;
      fixed = F i;
      requests = Q i;
      repairs = A i;
      sessions =
          S i;
    }

-- ---- members

-- the rows of one member more
pub member_rows-more : (rows : List Row) (m : ℕ) (ks : List MemberSpec) (k : MemberSpec) (n : ℕ) → m + length ks ≡ n
    → member_rows rows m (ks ++ k ∷ []) ≡ member_rows rows m ks ++ member_fields n k (counts_of (rows_of_member n rows)) ∷ []
member_rows-more rows m [] k n e =
    let same : m ≡ n = omega arith in ap (λ j. member_fields j k (counts_of (rows_of_member j rows)) ∷ []) same
member_rows-more rows m (q ∷ ks) k n e = ap (λ l. member_fields m q (counts_of (rows_of_member m rows)) ∷ l)
    (member_rows-more rows (m + 1) ks k n (omega arith))

-- ---- the counts of all members

-- what is kept of each member is counted of its rows
pub kept_counted : (rows : List Row) (k : ℕ) (ks : List MemberCount) → KeepMembers (λ c own. IsCountOf own c) k ks rows → (m : ℕ)
    → m < length ks → counts_at ks m ≡ counts_of (rows_of_member (k + m) rows)
kept_counted rows k [] h m lt = absurd (omega arith)
kept_counted rows k (c ∷ cs) h zero lt = h.0 ∙ ap (λ n. counts_of (rows_of_member n rows)) (omega arith)
kept_counted rows k (c ∷ cs) h (suc m) lt =
    kept_counted rows (suc k) cs h.1 m (omega arith) ∙ ap (λ n. counts_of (rows_of_member n rows)) (omega arith)
