-- Own runs are finite: a step at a tick leaves fewer events at that tick, and nothing before it.
use Rattle.std.proofs.Common.{◌≡◌, ℕ, zero, suc, ◌<◌, ◌≤◌, ◌+◌, true, false, refl, sym, ap, ◌∙◌, subst, ◌≢◌, ◌⊎◌, inl, inr, arith, Option}
use Rattle.std.proofs.Common.{Some, None, nat_lt, lt-ltb, le-ltb, eqb-true, ◌==◌, le_refl}
use Rattle.std.proofs.lemmas.Bool.{eqb-false}
use Rattle.srm_cell.proofs.CellLemmas.{keep}
use Rattle.srm_cell.proofs.CellSteps.{some_not_idle}
use Rattle.srm_cell.proofs.Counts.{Taken, above_weaker, fewer_pending, from_zero, next_taken, rest_sound, sound_step}
use Rattle.srm_cell.proofs.Leaving.{Stays, not_spent, rest_active, stays_step}
use Rattle.srm_cell.proofs.OwnRunLemmas.{end_done}
use Rattle.srm_cell.proofs.Rising.{Above, IsAbove, OnEvent, OnStep, next_above, step_above}
use Rattle.srm_cell.proofs.Tidy.{IsTidy, Least, NotBefore, RestTidy, above_least, next_tidy, not_before_time, tidy_step}
use Rattle.srm_cell.specs.Cells.{Done, Event, Full, Idle, PlainCell, Silent, Spent, Stepped, before, handle, next_event, own_step}
use Rattle.srm_cell.specs.Cells.{pending_at, step_at}
use Rattle.srm_cell.specs.OwnRuns.{own_end}
use Rattle.srm_member.proofs.LawProofs.{as_listener}
use Rattle.srm_member.proofs.OrderLemmas.{from_refl}
use Rattle.srm_member.specs.declared.cause.Cause.{Cause}
use Rattle.srm_net.specs.Keys.{key_cmp}
use Rattle.srm_net.specs.declared.key.Key.{Key}
use Rattle.srm_net.proofs.TotalOrders.{key_total}
use Rattle.srm_member.specs.Record.{MemberState}
use Rattle.srm_cell.proofs.Rising.{SoundHeld}

-- ---- an own run ends

module _ (leave : Option ℕ) (till m : ℕ) where
  abbrev pub Ended : PlainCell → Type 0
  Ended c = (n : ℕ) × ((own_end till m n c ≡ Idle) ⊎ (own_end till m n c ≡ Full))

  ended_now : (c : PlainCell) → (own_step till m c ≡ Idle) ⊎ (own_step till m c ≡ Full) → Ended c
  unfolding own_end
  ended_now c h = (0, h)

  ended_next : (c : PlainCell) (d : Stepped) → own_step till m c ≡ Done d → Ended d.cell → Ended c
  ended_next c d h r = (suc r.0, elim r.1 [ inl e ↦ inl (end_done till m r.0 c d h ∙ e) | inr e ↦ inr (end_done till m r.0 c d h ∙ e) ])

  none_before : (x : Option Event) → OnEvent (λ e. till ≤ e.key.time) x → before till x ≡ None
  none_before None h = refl
  none_before (Some e) h = let no : nat_lt e.key.time till ≡ false = le-ltb _ _ h in ap (λ b. keep b e) no

  abbrev FromTick : ℕ → Key → Type 0
  FromTick t k = t ≤ k.time

  past_end : (c : PlainCell) → Above (FromTick till) m c → own_step till m c ≡ Idle
  unfolding own_step
  past_end c a = ap step_at (none_before (next_event m c) (weak (next_event m c) (next_above (FromTick till) m c a)))
    where
      weak : (x : Option Event) → OnEvent (IsAbove (FromTick till) m) x → OnEvent (λ e. till ≤ e.key.time) x
      weak None h = tt
      weak (Some e) h = h.0

  one_tick : (t : ℕ) → t < till → (c : PlainCell) → IsTidy c → SoundHeld c.holds → Stays leave c → Above (FromTick t) m c
      → ((b : PlainCell) → IsTidy b → SoundHeld b.holds → Stays leave b → Above (FromTick (suc t)) m b → Ended b)
      → ((b : PlainCell) → pending_at t b < pending_at t c → IsTidy b → SoundHeld b.holds → Stays leave b → Above (FromTick t) m b
      → Ended b)
      → (o : Option Event) → next_event m c ≡ o → Ended c
  unfolding own_step
  one_tick t lt c tidy sound stays above later again None h = ended_now c (inl (ap (λ o. step_at (before till o)) h))
  one_tick t lt c tidy sound stays above later again (Some e) h =
      let facts = subst (OnEvent (IsAbove (FromTick t) m)) h (next_above (FromTick t) m c above) in
      let rest_tidy = subst (OnEvent RestTidy) h (next_tidy m c tidy) in
      let taken = subst (OnEvent (Taken c)) h (next_taken m c) in
      elim (e.key.time == t) as (λ b. (e.key.time == t) ≡ b → Ended c) [
        | true ↦ λ q.
            let now : e.key.time ≡ t = eqb-true _ _ q in
            let yes : nat_lt e.key.time till ≡ true = lt-ltb _ _ (omega arith) in
            let own : own_step till m c ≡ step_at (Some e) = ap (λ o. step_at (before till o)) h ∙ ap (λ b. step_at (keep b e)) yes in
            elim (step_at (Some e)) as (λ o. step_at (Some e) ≡ o → Ended c) [
              | Idle ↦ λ x. absurd (some_not_idle e x)
              | Full ↦ λ x. ended_now c (inr (own ∙ x))
              | Spent ↦ λ x. absurd (not_spent e (rest_active leave m c stays e h) x)
              | Done d ↦ λ x. ended_next c d (own ∙ x) (again d.cell
                  (subst (λ u. pending_at u d.cell < pending_at u c) now (fewer_pending c e d sound taken x))
                  (subst (OnStep (λ d. IsTidy d.cell)) x (tidy_step e rest_tidy))
                  (subst (OnStep (λ d. SoundHeld d.cell.holds)) x (sound_step e (rest_sound c e taken sound)))
                  (stays_step leave m c e d tidy stays h x)
                  (subst (OnStep (λ d. Above (FromTick t) m d.cell)) x
                  (step_above (FromTick t) m e.key.time (λ k l. omega arith) e refl facts.1)))
            ] refl
        | false ↦ λ q.
            let ne : e.key.time ≢ t = eqb-false _ _ q in
            let from : t ≤ e.key.time = facts.0 in
            let least : Least e.key (next_event m c) = subst (Least e.key) (sym h) (from_refl key_cmp key_total e.key) in
            later c tidy sound stays (above_weaker (NotBefore e.key) (FromTick (suc t))
            (λ k n. let le = not_before_time e.key k n in omega arith) m c (above_least e.key m c tidy least))
      ] refl

  at_tick : (t : ℕ) → t < till → ((b : PlainCell) → IsTidy b → SoundHeld b.holds → Stays leave b → Above (FromTick (suc t)) m b → Ended b)
      → (j : ℕ) (c : PlainCell) → pending_at t c ≤ j → IsTidy c → SoundHeld c.holds → Stays leave c → Above (FromTick t) m c → Ended c
  at_tick t lt later zero c le tidy sound stays above = one_tick t lt c tidy sound stays above later
      (λ b less bt bs bl ba. absurd (omega arith)) (next_event m c) refl
  at_tick t lt later (suc j) c le tidy sound stays above = one_tick t lt c tidy sound stays above later
      (λ b less bt bs bl ba. at_tick t lt later j b (omega arith) bt bs bl ba) (next_event m c) refl

  ended_from : (k t : ℕ) → t + k ≡ till → (c : PlainCell) → IsTidy c → SoundHeld c.holds → Stays leave c
      → Above (FromTick t) m c → Ended c
  ended_from zero t e c tidy sound stays above = ended_now c
      (inl (past_end c (above_weaker (FromTick t) (FromTick till) (λ k h. omega arith) m c above)))
  ended_from (suc k) t e c tidy sound stays above = at_tick t (omega arith)
      (λ b bt bs bl ba. ended_from k (suc t) (omega arith) b bt bs bl ba) (pending_at t c) c (le_refl _) tidy sound stays above

  pub own_run_ends : (c : PlainCell) → IsTidy c → SoundHeld c.holds → Stays leave c → Ended c
  own_run_ends c tidy sound stays = ended_from till 0 (omega arith) c tidy sound stays (from_zero m c)

-- ---- a listener sends nothing

abbrev pub SentNothing : Stepped → Type 0
SentNothing d = (d.row.sent ≡ None) × Silent d.cell.holds

silent_handle : (e : Event) (holds : Option MemberState) (cause : Option Cause) → e.rest.holds ≡ holds → Silent holds
    → OnStep SentNothing (handle e holds cause)
unfolding handle
silent_handle e holds cause q h = grind (arith, as_listener)

pub silent_step : (e : Event) → Silent e.rest.holds → OnStep SentNothing (step_at (Some e))
silent_step e h = silent_handle e e.rest.holds e.cause refl h

pub rest_silent : (c : PlainCell) (e : Event) → Taken c e → Silent c.holds → Silent e.rest.holds
rest_silent c e (inl h) s = subst Silent (sym h.0) s
rest_silent c e (inr h) s = subst (λ (b : PlainCell). Silent b.holds) (sym h.0) s
