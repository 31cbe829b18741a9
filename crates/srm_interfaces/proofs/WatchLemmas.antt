-- What is kept of each cell's rows, cell after cell.
use Rattle.std.proofs.Common.{◌≡◌, ◌∙◌, ◌≢◌, ℕ, zero, suc, ◌+◌, ◌<◌, ◌≤◌, ◌==◌, cond, List, [], ◌∷◌, ◌++◌, refl, sym, ap, subst}
use Rattle.std.proofs.Common.{All, append-nil, arith, eq-eqb, get_or, length, ne_eqb, set}
use Rattle.std.proofs.lemmas.List.Elements.{All-head, All-tail, filter-append}
use Rattle.srm_member.specs.Record.{Record}
use Rattle.srm_member.specs.declared.row.Row.{Row}
use Rattle.srm_cell.specs.declared.cell.Cell.{Cell}
use Rattle.srm_cell.specs.declared.job.Done as job
use Rattle.srm_cell.specs.Jobs.{IsDone, MayAdvance, RanEach}
use Rattle.srm_cell.specs.Setting.{Traffic}
use Rattle.srm_cell.specs.Totalled.{IsSentBelow}
use Rattle.srm_cell.proofs.SentRows.{rows_below}
use Rattle.srm_interfaces.specs.declared.watched.WatchedJob.{WatchedJob}
use Rattle.srm_member.specs.ByMember.{rows_of_member}
use Rattle.srm_interfaces.specs.Watches.{IsSoundJob, KeepEach, KeepMembers, job_in}

-- ---- the rows of a member, with one more row

own_row : (m : ℕ) (before : List Row) (r : Row) → r.key.member ≡ m → rows_of_member m (before ++ r ∷ []) ≡ rows_of_member m before ++ r ∷ []
own_row m before r is = filter-append (λ (q : Row). q.key.member == m) before (r ∷ [])
    ∙ ap (λ b. rows_of_member m before ++ cond b (r ∷ []) []) (eq-eqb r.key.member m is)

other_row : (m : ℕ) (before : List Row) (r : Row) → r.key.member ≢ m → rows_of_member m (before ++ r ∷ []) ≡ rows_of_member m before
other_row m before r other = filter-append (λ (q : Row). q.key.member == m) before (r ∷ [])
    ∙ ap (λ b. rows_of_member m before ++ cond b (r ∷ []) []) (ne_eqb r.key.member m other) ∙ append-nil (rows_of_member m before)

module _ {K : Type 0} (keeps : K → List Row → Type 0) where
  pub none_kept : (m : ℕ) (ks : List K) → All (λ k. keeps k []) ks → KeepMembers keeps m ks []
  none_kept m [] h = tt
  none_kept m (k ∷ ks) h = (All-head (λ k. keeps k []) k ks h, none_kept (suc m) ks (All-tail (λ k. keeps k []) k ks h))

  -- a row of a member before these, and one of a member after these, leave what is kept as it is
  of_earlier : (m : ℕ) (ks : List K) (before : List Row) (r : Row) → r.key.member < m → KeepMembers keeps m ks before
      → KeepMembers keeps m ks (before ++ r ∷ [])
  of_earlier m [] before r lt h = tt
  of_earlier m (k ∷ ks) before r lt h =
      let other : r.key.member ≢ m = omega arith in
      (subst (keeps k) (sym (other_row m before r other)) h.0, of_earlier (suc m) ks before r (omega arith) h.1)

  pub of_later : (m : ℕ) (ks : List K) (before : List Row) (r : Row) → m + length ks ≤ r.key.member → KeepMembers keeps m ks before
      → KeepMembers keeps m ks (before ++ r ∷ [])
  of_later m [] before r le h = tt
  of_later m (k ∷ ks) before r le h =
      let other : r.key.member ≢ m = omega arith in
      (subst (keeps k) (sym (other_row m before r other)) h.0, of_later (suc m) ks before r (omega arith) h.1)

  -- what is kept of one of these members is replaced, once its row was taken in
  pub one_more_row : (m i : ℕ) (ks : List K) (before : List Row) (r : Row) (d new : K) → r.key.member ≡ m + i → i < length ks
      → ((own : List Row) → keeps (get_or ks i d) own → keeps new (own ++ r ∷ [])) → KeepMembers keeps m ks before
      → KeepMembers keeps m (set ks i new) (before ++ r ∷ [])
  one_more_row m i [] before r d new at lt more h = absurd (omega arith)
  one_more_row m zero (k ∷ ks) before r d new at lt more h = (
    subst (keeps new) (sym (own_row m before r (omega arith))) (more (rows_of_member m before) h.0),
    of_earlier (suc m) ks before r (omega arith) h.1,
  )
  one_more_row m (suc i) (k ∷ ks) before r d new at lt more h =
      let other : r.key.member ≢ m = omega arith in (
        subst (keeps k) (sym (other_row m before r other)) h.0,
        one_more_row (suc m) i ks before r d new (omega arith) (omega arith) more h.1,
      )

  pub keep_one_more : (old : List K) (lists : List (List Row)) (new : List K) (a : K) (rows : List Row) (b : K)
      → KeepEach keeps old lists new → ((before : List Row) → keeps a before → keeps b (before ++ rows))
      → KeepEach keeps (old ++ a ∷ []) (lists ++ rows ∷ []) (new ++ b ∷ [])
  keep_one_more [] [] [] a rows b h g = (g, tt)
  keep_one_more [] [] (y ∷ new) a rows b h g = absurd h
  keep_one_more [] (l ∷ lists) new a rows b h g = absurd h
  keep_one_more (x ∷ old) [] new a rows b h g = absurd h
  keep_one_more (x ∷ old) (l ∷ lists) [] a rows b h g = absurd h
  keep_one_more (x ∷ old) (l ∷ lists) (y ∷ new) a rows b h g = (h.0, keep_one_more old lists new a rows b h.1 g)

-- what is done of a job may be left: its cells have as many lists of rows as something is kept of, and their packets are of members
module _ {M K : Type 0} (f : M → Record) (members : ℕ) (t : Traffic) (j : WatchedJob M K) (d : job.Done M) where
  lists_many : (till : ℕ) (cs : List (Cell M)) (rows : List (List Row)) (ds : List (Cell M)) → RanEach f till cs rows ds
      → length rows ≡ length cs
  lists_many till [] [] [] h = refl
  lists_many till [] [] (d ∷ ds) h = absurd h
  lists_many till [] (r ∷ rs) ds h = absurd h
  lists_many till (c ∷ cs) [] ds h = absurd h
  lists_many till (c ∷ cs) (r ∷ rs) [] h = absurd h
  lists_many till (c ∷ cs) (r ∷ rs) (d ∷ ds) h = ap suc (lists_many till cs rs ds h.1)

  pub as_many_kept : IsSoundJob f j → IsDone f t (job_in j) d → length d.rows.items ≡ length j.kept.items
  as_many_kept sound done = lists_many j.till j.cells.items d.rows.items d.cells.items done.runs ∙ sym sound.kept

  pub sent_below : MayAdvance f members (job_in j) → IsDone f t (job_in j) d
      → All (λ rs. All (λ r. IsSentBelow members r.sent) rs) d.rows.items
  sent_below h done = rows_below f j.till members j.cells.items d.rows.items d.cells.items h.till h.of_members done.runs
