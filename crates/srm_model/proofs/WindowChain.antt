-- Windows one after the other are the sequential run.
use Rattle.std.proofs.Common.{◌≡◌, ℕ, zero, suc, ◌<◌, ◌≤◌, ◌+◌, ◌-◌, true, false, List, [], ◌∷◌, ◌++◌, length, refl, sym, ap, ◌∙◌, subst}
use Rattle.std.proofs.Common.{arith, Some, None, nat_lt, ltb-true, ltb-false, slice_get, le_refl, length-append, ◌⊎◌, inl, inr, zero-add}
use Rattle.std.proofs.lemmas.List.{map-append}
use Rattle.srm_cell.specs.Setting.{Setting, IsFit}
use Rattle.srm_cell.specs.Cells.{PlainCell, Event, Idle, Full, Done, before}
use Rattle.srm_cell.specs.OwnRuns.{own_end}
use Rattle.srm_model.specs.World.{World, least_event, step, run, opening, IsReached, IsLast, RunMeetsFull}
use Rattle.srm_model.specs.Windows.{IsFirstQuiet}
use Rattle.srm_model.specs.WindowChains.{IsNext, IsOver, start_of, IsEndRule, AreWindows, no_window, next_window}
use Rattle.srm_model.specs.WindowRuns.{jobs_of}
use Rattle.srm_model.specs.WindowLaws.{WindowsAreReached, WindowsFollow, CallsFollow, RefusedWindowsMeetFull, WindowTracesArePrefixes}
use Rattle.srm_model.specs.WindowLaws.{WindowsAreOne, WindowsEnd}
use Rattle.srm_model.proofs.LawProofs.{own_runs_end, refusals_are_met, run_on, schedules_agree}
use Rattle.srm_model.proofs.OneWindow.{part_rows, reached_on, windows_agree}
use Rattle.srm_model.proofs.RunLemmas.{run_by, run_first, shifted, step_none}
use Rattle.srm_model.proofs.WindowEnds.{start_is, starts_after}

module _ (s : Setting) (rule : World → ℕ) where
  chain_reached : {begins : List World} {w : World} → AreWindows s rule begins w → IsReached s w
  unfolding run
  chain_reached no_window = (0, refl)
  chain_reached (next_window {w = w} {v = v} chain h first) = reached_on s first.steps w v (chain_reached chain) first.comes

  over_is_last : (w : World) → IsReached s w → IsOver s w → IsLast s w
  over_is_last w reached over = record { reached = reached; idle = step_none s s.traffic.until (le_refl s.traffic.until) w over }

  -- ---- a run has one list of windows

  first_is_one : (till : ℕ) (w v u : World) → IsFirstQuiet s till w v → IsFirstQuiet s till w u → v ≡ u
  first_is_one till w v u a b = grind arith

  longer : (begins : List World) (w : World) → length (begins ++ w ∷ []) ≡ suc (length begins)
  longer begins w = omega (arith, length-append begins (w ∷ []))

  as_many : {begins starts : List World} {w v : World} → AreWindows s rule begins w → AreWindows s rule starts v → length begins
      ≡ length starts → (begins ≡ starts) × (w ≡ v)
  as_many no_window no_window many = (refl, refl)
  as_many no_window (next_window {begins = starts} {w = u} chain h first) many = absurd (omega (arith, longer starts u))
  as_many (next_window {begins = begins} {w = w} chain h first) no_window many = absurd (omega (arith, longer begins w))
  as_many (next_window {begins = begins} {w = w} {v = w'} a h first) (next_window {begins = starts} {w = v} {v = v'} b g second) many =
      let r = as_many a b (omega (arith, longer begins w, longer starts v)) in
      (λ i. r.0 i ++ r.1 i ∷ [], first_is_one (rule v) v w' v' (subst (λ u. IsFirstQuiet s (rule u) u w') r.1 first) second)

  -- after fewer windows something was still pending
  earlier : {begins : List World} {w : World} → AreWindows s rule begins w → (n : ℕ) → n < length begins → (starts : List World)
      × (u : World) × (e : Event) × AreWindows s rule starts u × (length starts ≡ n) × IsNext s u e
  earlier no_window n lt = absurd (omega arith)
  earlier (next_window {begins = begins} {w = w} {e = e} chain h first) n lt =
      elim (nat_lt n (length begins)) as (λ b. nat_lt n (length begins) ≡ b → (starts : List World) × (u : World) × (e : Event)
      × AreWindows s rule starts u × (length starts ≡ n) × IsNext s u e) [
        | true ↦ λ q. earlier chain n (ltb-true _ _ q)
        | false ↦ λ q. let le : length begins ≤ n = ltb-false _ _ q in (begins, w, e, chain, omega (arith, longer begins w), h)
      ] refl

  not_fewer : {begins starts : List World} {w v : World} → AreWindows s rule begins w → IsOver s w → AreWindows s rule starts v
      → length begins < length starts → ⊥
  not_fewer a over b lt =
      let r = earlier b _ lt in
      let same = as_many a r.3 (sym r.4) in
      let x : None ≡ Some r.2 = sym over ∙ ap (λ (u : World). before s.traffic.until (least_event 0 u.cells)) same.1 ∙ r.5 in cc

  one_list : {begins starts : List World} {w v : World} → AreWindows s rule begins w → IsOver s w → AreWindows s rule starts v → IsOver s v
      → (begins ≡ starts) × (w ≡ v)
  one_list {begins} {starts} {w} {v} a over b done = grind (arith, not_fewer, as_many)

  module _ (fit : IsFit s) (ends : IsEndRule s rule) where
    moves_on : (w v : World) (e : Event) → IsReached s w → IsNext s w e → IsFirstQuiet s (rule w) w v → start_of s w < start_of s v
    moves_on w v e reached h first =
        let a = start_is s w e h in
        let b = starts_after s (rule w) v first.quiet (ends.within w) in
        let c = ends.later w e reached h in
        let d = a.0 in omega arith

    -- ---- windows come to the end

    AllResults : ℕ → ℕ → List PlainCell → Type 0
    AllResults till i cs = (j : ℕ) (c : PlainCell) → slice_get cs j ≡ Some c → (n : ℕ) × (own_end till (i + j) n c ≡ Idle)

    SomeFull : ℕ → ℕ → List PlainCell → Type 0
    SomeFull till i cs = (j : ℕ) × (c : PlainCell) × (slice_get cs j ≡ Some c) × (n : ℕ) × (own_end till (i + j) n c ≡ Full)

    Come : Type 0
    Come = ((begins : List World) × (w : World) × AreWindows s rule begins w × IsLast s w) ⊎ RunMeetsFull s

    all_or_full : (till i : ℕ) (cs : List PlainCell) → ((j : ℕ) (c : PlainCell) → slice_get cs j ≡ Some c → (n : ℕ)
        × ((own_end till (i + j) n c ≡ Idle) ⊎ (own_end till (i + j) n c ≡ Full))) → AllResults till i cs ⊎ SomeFull till i cs
    unfolding AllResults SomeFull
    all_or_full till i [] f = inl (λ j c g. cc)
    all_or_full till i (c ∷ cs) f = elim (all_or_full till (suc i) cs (λ j b g. rw (← shifted i j) (f (suc j) b g))) [
      | inr r ↦ inr (suc r.0, r.1, r.2, r.3, rw (shifted i r.0) r.4)
      | inl r ↦
          let now = f 0 c refl in
          elim now.1 [
            | inr full ↦ inr (0, c, refl, now.0, full)
            | inl idle ↦ inl (each now.0 idle r)
          ]
    ]
      where
        each : (n : ℕ) → own_end till (i + 0) n c ≡ Idle →
            ((j : ℕ) (b : PlainCell) → slice_get cs j ≡ Some b → (k : ℕ) × (own_end till (suc i + j) k b ≡ Idle)) → (j : ℕ) (b : PlainCell)
            → slice_get (c ∷ cs) j ≡ Some b → (k : ℕ) × (own_end till (i + j) k b ≡ Idle)
        each n idle r zero b g = let same : c ≡ b = cc in (n, subst (λ x. own_end till (i + 0) n x ≡ Idle) same idle)
        each n idle r (suc j) b g = rw (shifted i j) (r j b g)

    one_window : (begins : List World) (w : World) (e : Event) → AreWindows s rule begins w → IsNext s w e
        → ((v : World) → AreWindows s rule (begins ++ w ∷ []) v → start_of s w < start_of s v → Come) → Come
    unfolding AllResults SomeFull Come
    one_window begins w e chain h again =
        let reached = chain_reached chain in
        let safe = ends.safe w e reached h in
        let within = ends.within w in
        elim (all_or_full (rule w) 0 w.cells (λ j c g. rw (zero-add j) (own_runs_end s w (rule w) fit reached j c g))) [
          | inl all ↦
              let r = schedules_agree s w (rule w) fit reached within safe (λ m c g. rw (zero-add m) at (all m c g)) in
              again r.0 (next_window chain h r.1) (moves_on w r.0 e reached h r.1)
          | inr full ↦
              inr (refusals_are_met s w (rule w) fit reached within safe full.0
              (full.1, full.2, (full.3, rw (zero-add full.0) at full.4))).1
        ]

    come_from : (k : ℕ) (begins : List World) (w : World) → AreWindows s rule begins w → s.traffic.until ≤ start_of s w + k → Come
    unfolding Come
    come_from zero begins w chain room = elim (before s.traffic.until (least_event 0 w.cells)) as
        (λ o. before s.traffic.until (least_event 0 w.cells) ≡ o → Come) [
          | None ↦ λ over. inl (begins, w, chain, over_is_last w (chain_reached chain) over)
          | Some e ↦ λ h. let a = start_is s w e h in absurd (omega (arith, a.0, a.1))
        ] refl
    come_from (suc k) begins w chain room = elim (before s.traffic.until (least_event 0 w.cells)) as
        (λ o. before s.traffic.until (least_event 0 w.cells) ≡ o → Come) [
          | None ↦ λ over. inl (begins, w, chain, over_is_last w (chain_reached chain) over)
          | Some e ↦ λ h. one_window begins w e chain h (λ v more lt. come_from k (begins ++ w ∷ []) v more (omega arith))
        ] refl

pub windows_are_reached : WindowsAreReached
windows_are_reached s rule begins w chain = let reached = chain_reached s rule chain in (reached, over_is_last s rule w reached)

pub windows_follow : WindowsFollow
windows_follow s rule begins w v e fit ends chain h window =
    let reached = chain_reached s rule chain in
    let agree = windows_agree s w v (rule w) fit reached (ends.within w) (ends.safe w e reached h) window in
    (next_window chain h agree.0, moves_on s rule fit ends w v e reached h agree.0)

pub calls_follow : CallsFollow
calls_follow rule cut = (refl, λ begins w. map-append (λ (u : World). jobs_of cut (rule u) u) begins (w ∷ []))

pub refused_windows_meet_full : RefusedWindowsMeetFull
refused_windows_meet_full s rule begins w e fit ends chain h m none =
    let reached = chain_reached s rule chain in
    (refusals_are_met s w (rule w) fit reached (ends.within w) (ends.safe w e reached h) m none).1

-- ---- a complete run goes on from each of its worlds

idle_stays : (s : Setting) (k : ℕ) (v : World) → step s v ≡ Idle → run s (suc k) v ≡ Idle
idle_stays s k v e = run_first s s.traffic.until (le_refl s.traffic.until) k v ∙ ap (run_by s s.traffic.until (le_refl s.traffic.until) k) e

pub rest_of_run : (s : Setting) (n m : ℕ) (w v : World) → run s n (opening s) ≡ Done w → run s m (opening s) ≡ Done v → step s v ≡ Idle
    → (k : ℕ) × (run s k w ≡ Done v)
rest_of_run s n m w v h g idle = elim (nat_lt m n) as (λ b. nat_lt m n ≡ b → (k : ℕ) × (run s k w ≡ Done v)) [
  | true ↦ λ q.
      let lt : m < n = ltb-true _ _ q in
      let k = n - suc m in
      let e : m + suc k ≡ n = omega arith in
      let x : Done w ≡ Idle = sym h ∙ ap (λ i. run s i (opening s)) (sym e) ∙ run_on s m (suc k) (opening s) v g
      ∙ idle_stays s k v idle in cc
  | false ↦ λ q.
      let le : n ≤ m = ltb-false _ _ q in
      let e : n + (m - n) ≡ m = omega arith in
      (m - n, sym (run_on s n (m - n) (opening s) w h) ∙ ap (λ i. run s i (opening s)) e ∙ g)
] refl

pub window_traces_are_prefixes : WindowTracesArePrefixes
window_traces_are_prefixes s rule begins w v fit chain last = grind (arith, chain_reached, rest_of_run, part_rows)

pub windows_are_one : WindowsAreOne
windows_are_one s rule begins starts w v a over b done = one_list s rule a over b done

pub windows_end : WindowsEnd
unfolding Come
windows_end s rule fit ends = come_from s rule fit ends s.traffic.until [] (opening s) no_window (omega arith)
