-- The jobs of a window, and the crossings of their rows.
use Rattle.std.proofs.lemmas.Grind.{common_steps}
use Rattle.std.proofs.Common.{◌≡◌, ℕ, zero, suc, ◌<◌, ◌≤◌, ◌+◌, ◌*◌, Bool, cond, inl, inr, slice_get, zero-add, le_refl, ◌&&◌, ◌==◌, List}
use Rattle.std.proofs.Common.{[], ◌∷◌, ◌++◌, length, take, drop, map, refl, sym, ap, ◌∙◌, subst, arith, Option, Some, None}
use Rattle.std.proofs.Common.{length-drop, add-zero}
use Rattle.std.proofs.Math.Nat.{suc-mul}
use Rattle.std.specs.List.{count_by, sum_by, flat_map, range_with_len, cons_option}
use Rattle.std.specs.List.Sorted.{IsPermutation}
use Rattle.std.proofs.lemmas.List.{drop-drop, map-append, take-append-drop}
use Rattle.std.proofs.lemmas.List.Sums.{sum_by-cons}
use Rattle.std.proofs.lemmas.List.Sorted.{sum_by-IsPermutation}
use Rattle.std.proofs.lemmas.Option.{same_Some}
use Rattle.srm_net.specs.declared.packet.Packet.{Packet}
use Rattle.srm_net.proofs.Basics.{zip_append}
use Rattle.srm_member.specs.declared.row.Row.{Row}
use Rattle.srm_cell.specs.Setting.{Setting}
use Rattle.srm_cell.specs.Cells.{PlainCell}
use Rattle.srm_cell.specs.OwnRuns.{IsOwnRun, MeetsFull}
use Rattle.srm_ledger.specs.declared.kind.Kind.{Kind}
use Rattle.srm_ledger.specs.declared.kind.Kind.TheVariants.{Drawop, Request, Repair, Session}
use Rattle.srm_ledger.specs.Counts.{place_of}
use Rattle.srm_cell.specs.Crossings.{packets_of, kind_of, crossings_at, crossings, added_each, joined}
use Rattle.srm_cell.specs.Cells.{OwnCell}
use Rattle.srm_cell.specs.Jobs.{PlainJob}
use Rattle.srm_cell.proofs.CrossingLemmas.{crossings_add}
use Rattle.srm_cell.proofs.RowPackets.{joined-append}
use Rattle.srm_model.specs.WindowRuns.{OwnResult, cells_from, AreRunsOf, rows_in, crossings_of_all, jobs_within, jobs_of, AreJobRuns}
use Rattle.srm_model.specs.WindowRuns.{job_rows, SomeMeetsFull, SomeJobMeetsFull}
use Rattle.srm_model.specs.WindowLaws.{JobsAreRuns, JobsAreInPlace, JobsRunAll, JobsRefuse, CrossingsKeep, CrossingsAreTotals}

-- ---- cells with their members

pub length_own_cells : (i : ℕ) (cs : List PlainCell) → length (cells_from i cs) ≡ length cs
length_own_cells i [] = refl
length_own_cells i (c ∷ cs) = ap suc (length_own_cells (suc i) cs)

-- each is the cell of its member
pub own_cell_at : (i : ℕ) (cs : List PlainCell) (j : ℕ) (q : OwnCell) → slice_get (cells_from i cs) j ≡ Some q → (c : PlainCell)
    × (slice_get cs j ≡ Some c) × (record { member = i + j; cell = c } ≡ q)
own_cell_at i [] j q h = cc
own_cell_at i (c ∷ cs) zero q h =
    (c, refl, let at : i + 0 ≡ i = add-zero i in ap (λ m. record { member = m; cell = c }) at ∙ same_Some _ _ h)
own_cell_at i (c ∷ cs) (suc j) q h =
    let r = own_cell_at (suc i) cs j q h in
    let at : i + suc j ≡ suc i + j = omega arith in
    (r.0, r.1, ap (λ m. record { member = m; cell = r.0 }) at ∙ r.2)

-- ---- jobs

pub shorter : (cut n : ℕ) (q : OwnCell) (qs : List OwnCell) → 0 < cut → length (q ∷ qs) ≤ suc n → length (drop cut (q ∷ qs)) ≤ n
shorter cut n q qs pos le = let e = length-drop cut (q ∷ qs) in omega arith

-- more than enough is enough
enough : (n k cut till place : ℕ) (qs : List OwnCell) → 0 < cut → length qs ≤ n → length qs ≤ k → jobs_within n cut till place qs
    ≡ jobs_within k cut till place qs
enough n k cut till place [] pos le ge = refl
enough zero k cut till place (q ∷ qs) pos le ge = absurd (omega arith)
enough (suc n) zero cut till place (q ∷ qs) pos le ge = absurd (omega arith)
enough (suc n) (suc k) cut till place (q ∷ qs) pos le ge =
    ap (λ js. record { place = place; till = till; cells = take cut (q ∷ qs) } ∷ js)
    (enough n k cut till (suc place) (drop cut (q ∷ qs)) pos (shorter cut n q qs pos le) (shorter cut k q qs pos ge))

pub jobs_are_runs : JobsAreRuns
jobs_are_runs cut till place pos = grind (arith, common_steps, enough)

few_jobs : (n cut till place : ℕ) (qs : List OwnCell) → 0 < cut → length (jobs_within n cut till place qs) ≤ length qs
few_jobs n cut till place [] pos = le_refl 0
few_jobs zero cut till place (q ∷ qs) pos = omega arith
few_jobs (suc n) cut till place (q ∷ qs) pos =
    let more = few_jobs n cut till (suc place) (drop cut (q ∷ qs)) pos in
    let short = shorter cut (length qs) q qs pos (le_refl (length (q ∷ qs))) in
    omega arith

nth_job : (n cut till place : ℕ) (qs : List OwnCell) (k : ℕ) (j : PlainJob) → slice_get (jobs_within n cut till place qs) k ≡ Some j → j
    ≡ record { place = place + k; till = till; cells = take cut (drop (k * cut) qs) }
nth_job n cut till place [] k j h = cc
nth_job zero cut till place (q ∷ qs) k j h = cc
nth_job (suc n) cut till place (q ∷ qs) zero j h =
    let now : place ≡ place + 0 = omega arith in
    let none : 0 * cut ≡ 0 = omega arith in
    sym (same_Some _ _ h) ∙ (λ i. record { place = now i; till = till; cells = take cut (drop (sym none i) (q ∷ qs)) })
nth_job (suc n) cut till place (q ∷ qs) (suc k) j h =
    let now : suc place + k ≡ place + suc k = omega arith in
    let at : cut + k * cut ≡ suc k * cut = omega (arith, suc-mul k cut) in
    nth_job n cut till (suc place) (drop cut (q ∷ qs)) k j h ∙
    (λ i. record { place = now i; till = till; cells = take cut ((drop-drop (k * cut) cut (q ∷ qs) ∙ ap (λ m. drop m (q ∷ qs)) at) i) })

all_cells : (n cut till place : ℕ) (qs : List OwnCell) → 0 < cut → length qs ≤ n
    → joined (map (λ (j : PlainJob). j.cells) (jobs_within n cut till place qs)) ≡ qs
all_cells n cut till place [] pos le = refl
all_cells zero cut till place (q ∷ qs) pos le = absurd (omega arith)
all_cells (suc n) cut till place (q ∷ qs) pos le = ap (λ l. take cut (q ∷ qs) ++ l)
    (all_cells n cut till (suc place) (drop cut (q ∷ qs)) pos (shorter cut n q qs pos le)) ∙ take-append-drop cut (q ∷ qs)

pub jobs_are_in_place : JobsAreInPlace
jobs_are_in_place cut till w pos =
    let all = cells_from 0 w.cells in (
      subst (λ n. length (jobs_of cut till w) ≤ n) (length_own_cells 0 w.cells) (few_jobs (length all) cut till 0 all pos),
      λ k j h. nth_job (length all) cut till 0 all k j h ∙
          ap (λ p. record { place = p; till = till; cells = take cut (drop (k * cut) all) }) (zero-add k),
      all_cells (length all) cut till 0 all pos (le_refl (length all)),
    )

-- ---- the results of jobs

jobs_run : (n cut till place : ℕ) (qs : List OwnCell) (rss : List (List OwnResult)) → 0 < cut → length qs ≤ n
    → AreJobRuns (jobs_within n cut till place qs) rss → AreRunsOf till qs (joined rss)
jobs_run n cut till place [] [] pos le h = tt
jobs_run n cut till place [] (rs ∷ rss) pos le h = absurd h
jobs_run zero cut till place (q ∷ qs) rss pos le h = absurd (omega arith)
jobs_run (suc n) cut till place (q ∷ qs) [] pos le h = absurd h
jobs_run (suc n) cut till place (q ∷ qs) (rs ∷ rss) pos le h =
    let all = q ∷ qs in
    let more = jobs_run n cut till (suc place) (drop cut all) rss pos (shorter cut n q qs pos le) h.1 in
    subst (λ l. AreRunsOf till l (rs ++ joined rss)) (take-append-drop cut all)
    (zip_append (λ (o : OwnCell) (r : OwnResult). IsOwnRun till o.member o.cell r.rows r.cell) (take cut all) rs (drop cut all)
    (joined rss) h.0 more)

pub jobs_run_all : JobsRunAll
jobs_run_all w cut till rss pos h =
    let all = cells_from 0 w.cells in
    jobs_run (length all) cut till 0 all rss pos (le_refl (length all)) h

-- ---- jobs that meet a step without a result

pub get_first : {A : Type 0} (xs ys : List A) (j : ℕ) (x : A) → slice_get xs j ≡ Some x → slice_get (xs ++ ys) j ≡ Some x
get_first [] ys j x h = cc
get_first (z ∷ xs) ys zero x h = h
get_first (z ∷ xs) ys (suc j) x h = get_first xs ys j x h

pub get_second : {A : Type 0} (xs ys : List A) (j : ℕ) → slice_get (xs ++ ys) (length xs + j) ≡ slice_get ys j
get_second [] ys j = ap (slice_get ys) (zero-add j)
get_second (z ∷ xs) ys j = let e : suc (length xs) + j ≡ suc (length xs + j) = omega arith in rw e (get_second xs ys j)

jobs_full : (n cut till place : ℕ) (qs : List OwnCell) → SomeJobMeetsFull (jobs_within n cut till place qs) → SomeMeetsFull till qs
jobs_full n cut till place [] h = absurd h
jobs_full zero cut till place (q ∷ qs) h = absurd h
jobs_full (suc n) cut till place (q ∷ qs) (inl h) = (
  h.0,
  h.1,
  subst (λ l. slice_get l h.0 ≡ Some h.1) (take-append-drop cut (q ∷ qs))
      (get_first (take cut (q ∷ qs)) (drop cut (q ∷ qs)) h.0 h.1 h.2),
  h.3,
)
jobs_full (suc n) cut till place (q ∷ qs) (inr h) =
    let all = q ∷ qs in
    let r = jobs_full n cut till (suc place) (drop cut all) h in (
      length (take cut all) + r.0,
      r.1,
      subst (λ l. slice_get l (length (take cut all) + r.0) ≡ Some r.1) (take-append-drop cut all)
          (get_second (take cut all) (drop cut all) r.0 ∙ r.2),
      r.3,
    )

pub jobs_refuse : JobsRefuse
jobs_refuse w cut till h =
    let all = cells_from 0 w.cells in
    let r = jobs_full (length all) cut till 0 all h in
    let own = own_cell_at 0 w.cells r.0 r.1 r.2 in
    let met = subst (λ (q : OwnCell). MeetsFull till q.member q.cell) (sym own.2) r.3 in
    (r.0, (own.0, own.1, subst (λ m. MeetsFull till m own.0) (zero-add r.0) met))

-- ---- crossings in any order

-- what a row's packet counts for
abbrev counts_for : (Packet → Bool) → Option Packet → ℕ
counts_for p None = 0
counts_for p (Some x) = cond (p x) 1 0

count_sent : (p : Packet → Bool) (rows : List Row) → count_by p (packets_of rows) ≡ sum_by (λ (r : Row). counts_for p r.sent) rows
count_sent p [] = refl
count_sent p (r ∷ rows) = by r.sent ∙ ap (λ n. counts_for p r.sent + n) (count_sent p rows)
    ∙ sym (sum_by-cons (λ (q : Row). counts_for p q.sent) r rows)
  where
    by : (o : Option Packet) → count_by p (cons_option o (packets_of rows)) ≡ counts_for p o + count_by p (packets_of rows)
    by None = omega arith
    by (Some x) = sum_by-cons (λ y. cond (p y) 1 0) x (packets_of rows)

count_keeps : (p : Packet → Bool) (qs rs : List Row) → IsPermutation qs rs → count_by p (packets_of qs) ≡ count_by p (packets_of rs)
count_keeps p qs rs h = count_sent p qs ∙ sym (sum_by-IsPermutation (λ (r : Row). counts_for p r.sent) qs rs h) ∙ sym (count_sent p rs)

links_keep : (s : Setting) (qs rs : List Row) → IsPermutation qs rs → (ls : List ℕ) → flat_map (crossings_at s.traffic (packets_of qs)) ls
    ≡ flat_map (crossings_at s.traffic (packets_of rs)) ls
links_keep s qs rs h [] = refl
links_keep s qs rs h (l ∷ ls) =
    let c = λ (kind : Kind). count_keeps (λ p. (place_of (kind_of p.body) == place_of kind) && s.traffic.crosses p l) qs rs h in
    let d = count_keeps (λ p. s.traffic.drops_at p l) qs rs h in
    let more = links_keep s qs rs h ls in
    λ i. c Drawop i ∷ c Request i ∷ c Repair i ∷ c Session i ∷ d i ∷ more i

pub crossings_keep : CrossingsKeep
unfolding crossings
crossings_keep s qs rs h = links_keep s qs rs h (range_with_len 0 s.traffic.links)

-- ---- crossings of jobs

joined-jobs : (rss : List (List OwnResult)) → joined (job_rows rss) ≡ joined (rows_in (joined rss))
joined-jobs [] = refl
joined-jobs (rs ∷ rss) =
    ap (λ l. joined (rows_in rs) ++ l) (joined-jobs rss) ∙ sym (joined-append (rows_in rs) (rows_in (joined rss)))
    ∙ ap joined (sym (map-append (λ (r : OwnResult). r.rows) rs (joined rss)))

crossings-joined : (s : Setting) (lists : List (List Row)) → crossings_of_all s.traffic lists ≡ crossings s.traffic (joined lists)
crossings-joined s [] = refl
crossings-joined s (rows ∷ lists) = ap (added_each (crossings s.traffic rows)) (crossings-joined s lists)
    ∙ sym (crossings_add s.traffic rows (joined lists))

pub crossings_are_totals : CrossingsAreTotals
crossings_are_totals s trace rows rss merge = grind (arith, crossings-joined, joined-jobs, crossings_keep, crossings_add)
