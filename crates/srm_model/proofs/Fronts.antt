-- The rows of a world of the sequential run begin those of each later one.
use Rattle.std.proofs.Common.{◌≡◌, ◌∙◌, ◌≤◌, ◌+◌, ◌-◌, ℕ, zero, suc, List, [], ◌++◌, refl, sym, ap}
use Rattle.std.proofs.Common.{append-nil, append_assoc, arith, le_refl}
use Rattle.srm_member.specs.declared.row.Row.{Row}
use Rattle.srm_cell.specs.Setting.{Setting}
use Rattle.srm_cell.specs.Cells.{StepOutcome, Idle, Full, Spent, Done, Stepped}
use Rattle.srm_model.specs.World.{World, after_step, step_of, step_to, run, opening}
use Rattle.srm_model.specs.Laws.{TracesAreFronts, TracesAreNested}
use Rattle.srm_model.proofs.LawProofs.{run_on}
use Rattle.srm_model.proofs.RunLemmas.{run_by, run_first}
use Rattle.srm_model.proofs.WindowChain.{rest_of_run}

-- v has the rows of w, and more after them
abbrev pub GoesOn : World → World → Type 0
GoesOn w v = (rest : List Row) × (v.trace ≡ w.trace ++ rest)

-- a step adds its row
row_added : (s : Setting) (w v : World) (m : ℕ) (o : StepOutcome Stepped) → after_step s w m o ≡ Done v → GoesOn w v
unfolding after_step
row_added s w v m o h = grind arith

step_goes_on : (s : Setting) (till : ℕ) (w v : World) → step_to s till w ≡ Done v → GoesOn w v
unfolding step_to step_of
step_goes_on s till w v h = grind (arith, row_added)

-- so do the steps of a run
pub goes_on : (s : Setting) (k : ℕ) (w v : World) → run s k w ≡ Done v → GoesOn w v
unfolding run
goes_on s zero w v h = let e : w ≡ v = cc in ([], ap (λ (x : World). x.trace) (sym e) ∙ sym (append-nil w.trace))
goes_on s (suc k) w v h =
    let first = λ (o : StepOutcome World) (e : step_to s s.traffic.until w ≡ o). run_first s s.traffic.until (le_refl s.traffic.until) k w
    ∙ ap (run_by s s.traffic.until (le_refl s.traffic.until) k) e in
    elim (step_to s s.traffic.until w) as (λ o. step_to s s.traffic.until w ≡ o → GoesOn w v) [
      | Idle ↦ λ e. let x : Idle ≡ Done v = sym (first Idle e) ∙ h in cc
      | Full ↦ λ e. let x : Full ≡ Done v = sym (first Full e) ∙ h in cc
      | Spent ↦ λ e. let x : Spent ≡ Done v = sym (first Spent e) ∙ h in cc
      | Done u ↦ λ e.
          let one = step_goes_on s s.traffic.until w u e in
          let more = goes_on s k u v (sym (first (Done u) e) ∙ h) in
          (one.0 ++ more.0, more.1 ∙ ap (λ l. l ++ more.0) one.1 ∙ append_assoc w.trace one.0 more.0)
    ] refl

-- of two worlds of a run, the later one goes on from the earlier
later_goes_on : (s : Setting) (n m : ℕ) (w v : World) → n ≤ m → run s n (opening s) ≡ Done w → run s m (opening s) ≡ Done v → GoesOn w v
later_goes_on s n m w v le h g =
    let e : n + (m - n) ≡ m = omega arith in
    goes_on s (m - n) w v (sym (run_on s n (m - n) (opening s) w h) ∙ ap (λ i. run s i (opening s)) e ∙ g)

pub traces_are_fronts : TracesAreFronts
traces_are_fronts s w v reached last = grind (arith, rest_of_run, goes_on)

pub traces_are_nested : TracesAreNested
traces_are_nested s w v a b = grind (arith, later_goes_on)
