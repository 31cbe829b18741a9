-- A member that is gone has left its exit.
use Rattle.std.proofs.Common.{◌≡◌, ℕ, zero, suc, Bool, true, false, cond, List, [], ◌∷◌, ◌==◌, Option, Some, None}
use Rattle.std.proofs.Common.{refl, sym, ap, ◌∙◌, subst, le_refl, arith}
use Rattle.srm_net.specs.declared.packet.Packet.{Packet}
use Rattle.srm_member.specs.declared.cause.Cause.{Cause}
use Rattle.srm_member.specs.Record.{Record, MemberState}
use Rattle.std.proofs.lemmas.List.Elements.{All-nil, All-cons}
use Rattle.srm_member.proofs.AllIn.{AllIn}
use Rattle.srm_cell.specs.declared.cell.Cell.{Cell}
use Rattle.srm_cell.specs.Setting.{Setting, arrival_of}
use Rattle.srm_cell.specs.Cells.{PlainCell, Event, StepOutcome, Idle, Full, Spent, Done, Stepped, handle, step_at, before}
use Rattle.srm_cell.specs.Cells.{hear, hear_at}
use Rattle.srm_cell.specs.OwnRuns.{told_to}
use Rattle.srm_cell.specs.Views.{plain_cell}
use Rattle.srm_cell.proofs.Rising.{OnStep}
use Rattle.srm_model.specs.World.{World, IsReached, after_step, least_event, opening, opening_cells, run, cells_after, step, step_of}
use Rattle.srm_model.specs.World.{step_to}
use Rattle.srm_engine.specs.Outcomes.{HasEnd, AllEnd}
use Rattle.srm_engine.specs.Seen.{AreCellsInOrder, plain_cells}
use Rattle.srm_model.proofs.RunLemmas.{run_by, run_first}

abbrev Kept : PlainCell → Type 0
Kept c = HasEnd c.holds c.exit

-- ---- one step

kept_handle : (e : Event) (holds : Option MemberState) (cause : Option Cause) → OnStep (λ d. Kept d.cell) (handle e holds cause)
unfolding handle
kept_handle e holds cause = grind arith

kept_hear_at : (p : Packet) (o : Option ℕ) (c : PlainCell) → Kept c → Kept (hear_at p o c)
kept_hear_at p None c h = h
kept_hear_at p (Some at) c h = h

module _ (s : Setting) where
  kept_told : (x : Option Packet) (m : ℕ) (c : PlainCell) → Kept c → Kept (told_to s.traffic x m c)
  unfolding hear
  kept_told None m c h = h
  kept_told (Some p) m c h = kept_hear_at p (arrival_of s.traffic p m) c h

  kept_if : (b : Bool) (d : Stepped) (i : ℕ) (c : PlainCell) → Kept d.cell
      → Kept c → Kept (cond b d.cell (told_to s.traffic d.row.sent i c))
  kept_if true d i c h g = h
  kept_if false d i c h g = kept_told d.row.sent i c g

  kept_settled : (m : ℕ) (d : Stepped) (i : ℕ) (cs : List PlainCell) → Kept d.cell → AllIn Kept cs → AllIn Kept (cells_after s m d i cs)
  unfolding cells_after
  kept_settled m d i [] h g = tt
  kept_settled m d i (c ∷ cs) h g = (kept_if (i == m) d i c h g.0, kept_settled m d (suc i) cs h g.1)

  -- ---- the sequential run

  kept_after : (w v : World) (m : ℕ) (o : StepOutcome Stepped) → OnStep (λ d. Kept d.cell) o → after_step s w m o ≡ Done v
      → AllIn Kept w.cells → AllIn Kept v.cells
  unfolding after_step
  kept_after w v m o k h g = grind (arith, kept_settled)

  kept_step : (w v : World) (o : Option Event) → step_of s w o ≡ Done v → AllIn Kept w.cells → AllIn Kept v.cells
  unfolding step_of
  kept_step w v None h g = let q : Idle ≡ Done v = h in cc
  kept_step w v (Some e) h g = kept_after w v e.key.member (step_at (Some e)) (kept_handle e e.rest.holds e.cause) h g

  stepped : (w v : World) → step s w ≡ Done v → AllIn Kept w.cells → AllIn Kept v.cells
  unfolding step_to
  stepped w v h g = kept_step w v (before s.traffic.until (least_event 0 w.cells)) h g

  kept_run : (n : ℕ) (w v : World) → run s n w ≡ Done v → AllIn Kept w.cells → AllIn Kept v.cells
  unfolding run
  kept_run zero w v h g = let same : w ≡ v = cc in subst (λ (u : World). AllIn Kept u.cells) same g
  kept_run (suc n) w v h g =
      let first = sym (run_first s s.traffic.until (le_refl s.traffic.until) n w) ∙ h in
      elim (step s w) as (λ o. step s w ≡ o → AllIn Kept v.cells) [
        | Idle ↦ λ q. let x : Idle ≡ Done v = sym (ap (run_by s s.traffic.until (le_refl s.traffic.until) n) q) ∙ first in cc
        | Full ↦ λ q. let x : Full ≡ Done v = sym (ap (run_by s s.traffic.until (le_refl s.traffic.until) n) q) ∙ first in cc
        | Spent ↦ λ q. let x : Spent ≡ Done v = sym (ap (run_by s s.traffic.until (le_refl s.traffic.until) n) q) ∙ first in cc
        | Done u ↦ λ q. kept_run n u v (sym (ap (run_by s s.traffic.until (le_refl s.traffic.until) n) q) ∙ first) (stepped w u q g)
      ] refl

  kept_opening : (n i : ℕ) → AllIn Kept (opening_cells s n i)
  unfolding opening_cells
  kept_opening zero i = tt
  kept_opening (suc n) i = (tt, kept_opening n (suc i))

  kept_reached : (w : World) → IsReached s w → AllIn Kept w.cells
  unfolding opening
  kept_reached w r = kept_run r.0 (opening s) w r.1 (kept_opening s.traffic.members 0)

-- ---- the cells of the engine

module _ {M : Type 0} (f : M → Record) where
  -- each cell of an engine in a reached world has a member, or the exit of one that left
  pub all_end : (s : Setting) (cs : List (Cell M)) (w : World) → IsReached s w → AreCellsInOrder f cs w.cells → AllEnd f cs
  all_end s cs w r h = from_plain cs (subst (AllIn Kept) (sym h.1) (kept_reached s w r))
    where
      from_plain : (cs : List (Cell M)) → AllIn Kept (plain_cells f cs) → AllEnd f cs
      from_plain [] k = All-nil (λ (c : Cell M). HasEnd (plain_cell f c).holds (plain_cell f c).exit)
      from_plain (c ∷ cs) k = All-cons (λ (c : Cell M). HasEnd (plain_cell f c).holds (plain_cell f c).exit) c cs k.0 (from_plain cs k.1)
