-- A complete run has one last world.
use Rattle.std.proofs.Common.{ltb-true, ltb-false, suc-add, ◌≡◌, ℕ, zero, suc, ◌≤◌, ◌<◌, ◌+◌, ◌-◌, true, false, refl, sym, ap, ◌∙◌, nat_lt}
use Rattle.std.proofs.Common.{arith, le_refl}
use Rattle.srm_cell.specs.Cells.{Done, Full, Idle, Spent, StepOutcome}
use Rattle.srm_cell.specs.Setting.{Setting}
use Rattle.srm_model.proofs.LawProofs.{run_on}
use Rattle.srm_model.proofs.RunLemmas.{run_by, run_first}
use Rattle.srm_model.specs.Laws.{OutcomesAreOne}
use Rattle.srm_model.specs.World.{World, opening, run, step_to}

idle_stays : (s : Setting) (k : ℕ) (w : World) → step_to s s.traffic.until w ≡ Idle → run s (suc k) w ≡ Idle
idle_stays s k w e = run_first s s.traffic.until (le_refl s.traffic.until) k w ∙ ap (run_by s s.traffic.until (le_refl s.traffic.until) k) e

full_stays : (s : Setting) (b k : ℕ) (w : World) → run s b w ≡ Full → run s (b + k) w ≡ Full
unfolding run
full_stays s zero k w h = cc
full_stays s (suc b) k w h =
    let within = le_refl s.traffic.until in
    let first = λ (n : ℕ) (o : StepOutcome World) (e : step_to s s.traffic.until w ≡ o). run_first s s.traffic.until within n w
    ∙ ap (run_by s s.traffic.until within n) e in
    ap (λ n. run s n w) (suc-add b k) ∙ (elim (step_to s s.traffic.until w) as
    (λ o. step_to s s.traffic.until w ≡ o → run s (suc (b + k)) w ≡ Full) [
      | Idle ↦ λ e. let x : Idle ≡ Full = sym (first b Idle e) ∙ h in cc
      | Full ↦ λ e. first (b + k) Full e
      | Spent ↦ λ e. let x : Spent ≡ Full = sym (first b Spent e) ∙ h in cc
      | Done u ↦ λ e. first (b + k) (Done u) e ∙ full_stays s b k u (sym (first b (Done u) e) ∙ h)
    ] refl)

module _ (s : Setting) where
  -- after the last world there is no step
  over : (a b : ℕ) (w : World) → run s a (opening s) ≡ Done w → step_to s s.traffic.until w ≡ Idle → a < b → run s b (opening s) ≡ Idle
  over a b w h idle lt =
      let k = b - suc a in
      let e : a + suc k ≡ b = omega arith in
      ap (λ n. run s n (opening s)) (sym e) ∙ run_on s a (suc k) (opening s) w h ∙ idle_stays s k w idle

  one_last : (a b : ℕ) (w v : World) → run s a (opening s) ≡ Done w → step_to s s.traffic.until w ≡ Idle → run s b (opening s) ≡ Done v
      → step_to s s.traffic.until v ≡ Idle → w ≡ v
  one_last a b w v h idle g quiet = grind (arith, over)

  no_full : (a b : ℕ) (w : World) → run s a (opening s) ≡ Done w → step_to s s.traffic.until w ≡ Idle → run s b (opening s) ≡ Full → ⊥
  no_full a b w h idle g = elim (nat_lt a b) as (λ t. nat_lt a b ≡ t → ⊥) [
    | true ↦ λ q. let x : Full ≡ Idle = sym g ∙ over a b w h idle (ltb-true _ _ q) in cc
    | false ↦ λ q.
        let le : b ≤ a = ltb-false _ _ q in
        let e : b + (a - b) ≡ a = omega arith in
        let x : Done w ≡ Full = sym h ∙ ap (λ n. run s n (opening s)) (sym e) ∙ full_stays s b (a - b) (opening s) g in cc
  ] refl

pub outcomes_are_one : OutcomesAreOne
outcomes_are_one s w last = grind (arith, one_last, no_full)
