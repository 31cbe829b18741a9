-- No schedule to a safe end is refused where every own run has a result.
use Rattle.std.proofs.Common.{◌≡◌, ℕ, true, false, List, [], ◌∷◌, ◌++◌, Option, Some, None, option_map, refl, sym, ap, ◌∙◌}
use Rattle.std.proofs.Common.{subst, slice_get, eqb-true, ◌==◌, cond, true≢false}
use Rattle.srm_cell.specs.Setting.{Setting}
use Rattle.srm_cell.specs.Cells.{PlainCell, StepOutcome, Idle, Full, Spent, Done, Stepped, own_step}
use Rattle.srm_cell.specs.OwnRuns.{own_end, told_to}
use Rattle.srm_model.specs.Laws.{IsRefusal, SchedulesAreAnswered}
use Rattle.srm_model.specs.Schedules.{own_of, scheduled}
use Rattle.srm_model.specs.World.{World, after_step, cells_after}
use Rattle.srm_model.proofs.RunLemmas.{end_late, fewer, full_flag, spent_flag}
use Rattle.srm_model.proofs.ScheduleLemmas.{Safe, safe_after, step_late, then_schedule}
use Rattle.srm_model.proofs.Settled.{at_member, get_after}

pub mapped : {A B : Type 0} (f : A → B) (o : Option A) (x : B) → option_map f o ≡ Some x → (a : A) × (o ≡ Some a) × (f a ≡ x)
mapped f None x h = cc
mapped f (Some a) x h = (a, refl, cc)

present : (till m : ℕ) (o : Option PlainCell) (y : StepOutcome Stepped) → IsRefusal y → own_of till m o ≡ y → (c : PlainCell) × (o ≡ Some c)
    × (own_step till m c ≡ y)
present till m None y r e = absurd (subst IsRefusal (sym e) r)
present till m (Some c) y r e = (c, refl, e)

module _ (s : Setting) (till : ℕ) where
  -- the own run of each cell has a result
  abbrev Results : List PlainCell → Type 0
  Results cs = (m : ℕ) (c : PlainCell) → slice_get cs m ≡ Some c → (n : ℕ) × (own_end till m n c ≡ Idle)

  results_after : (cs : List PlainCell) → Safe s till cs → Results cs → (b : ℕ) (d : Stepped) → own_of till b (slice_get cs b) ≡ Done d
      → Results (cells_after s b d 0 cs)
  results_after cs safe has b d e m x g =
      let h = mapped (at_member s b d m) (slice_get cs m) x (sym (get_after s b d m cs) ∙ g) in
      let c = h.0 in
      let r = has m c h.1 in
      elim (m == b) as (λ t. (m == b) ≡ t → (n : ℕ) × (own_end till m n x ≡ Idle)) [
        | true ↦ λ mb.
            let own : own_step till m c ≡ Done d = sym (ap (own_of till m) h.1) ∙ ap (λ k. own_of till k (slice_get cs k)) (eqb-true _ _ mb)
            ∙ e in
            let is : d.cell ≡ x = sym (ap (λ t. cond t d.cell (told_to s.traffic d.row.sent m c)) mb) ∙ h.2 in
            let f = fewer s till m d r.0 c false own r.1 in
            (f.0, subst (λ y. own_end till m f.0 y ≡ Idle) is f.2)
        | false ↦ λ mb.
            let is : told_to s.traffic d.row.sent m c ≡ x = sym (ap (λ t. cond t d.cell (told_to s.traffic d.row.sent m c)) mb) ∙ h.2 in (
              r.0,
              subst (λ y. own_end till m r.0 y ≡ Idle) is
                  (end_late s till d.row.sent (step_late s till cs safe b d e) m r.0 c false r.1),
            )
      ] refl

  answered : (ms : List ℕ) (w : World) → Safe s till w.cells → Results w.cells → ¬ IsRefusal (scheduled s till ms w)
  unfolding scheduled after_step then_schedule
  answered [] w safe has h = h
  answered (m ∷ ms) w safe has h = elim (own_of till m (slice_get w.cells m)) as
      (λ o. own_of till m (slice_get w.cells m) ≡ o → IsRefusal (then_schedule s till ms (after_step s w m o)) → ⊥) [
        | Idle ↦ λ e r. r
        | Full ↦ λ e r.
            let p = present till m (slice_get w.cells m) Full tt e in
            let n = has m p.0 p.1 in
            true≢false (sym (full_flag s till m n.0 p.0 false p.2 n.1))
        | Spent ↦ λ e r.
            let p = present till m (slice_get w.cells m) Spent tt e in
            let n = has m p.0 p.1 in
            spent_flag s till m n.0 p.0 false p.2 n.1
        | Done d ↦ λ e r.
            answered ms (record { cells = cells_after s m d 0 w.cells; trace = w.trace ++ d.row ∷ [] })
            (safe_after s till w.cells safe m d e)
            (results_after w.cells safe has m d e) r
      ] refl h

pub schedules_are_answered : SchedulesAreAnswered
schedules_are_answered s w till safe has ms = answered s till ms w safe (λ m c g. has m c g)
