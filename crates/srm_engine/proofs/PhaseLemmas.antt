-- What the phases of a run tell.
use Rattle.std.proofs.Common.{◌≡◌, ◌≢◌, ℕ, List, [], ◌∷◌, Some, refl}
use Rattle.std.proofs.Common.{ap, ◌∙◌, map, arith, IsSome}
use Rattle.srm_member.specs.declared.exit.Exit.{Exit}
use Rattle.srm_member.specs.Record.{Record}
use Rattle.srm_cell.specs.Setting.{Setting}
use Rattle.srm_cell.specs.declared.fault.CellFault.{CellFault}
use Rattle.srm_cell.specs.declared.fault.CellFault.TheVariants as cell
use Rattle.srm_cell.specs.Cells.{PlainCell, StepOutcome, Stepped}
use Rattle.srm_cell.specs.Views.{HasWork, Refuses, plain_cell}
use Rattle.srm_model.specs.World.{World, step, after_step, exit_at, exits_of}
use Rattle.srm_interfaces.specs.Faults.{crew_fault_of}
use Rattle.srm_engine.specs.Faults.{run_fault_of}
use Rattle.srm_engine.specs.declared.fault.RunFault.{RunFault}
use Rattle.srm_engine.specs.Engines.{MayRefuseStep}
use Rattle.srm_engine.specs.Outcomes.{ends_of}
use Rattle.srm_engine.specs.Seen.{AreCellsInOrder, plain_cells}
use Rattle.srm_cell.specs.declared.cell.Cell.{Cell}
use Rattle.srm_model.proofs.RunLemmas.{after_full}

-- a cell's refusal, but where its member left, is one of a step
pub of_a_step : (x : CellFault) → x ≢ cell.Spent → IsSome (run_fault_of (crew_fault_of x))
of_a_step cell.NoMemory ne = refl
of_a_step cell.CountFull ne = refl
of_a_step cell.Spent ne = absurd (ne refl)

-- a step of the run has work where the member's own step has
work_stays : (s : Setting) (w : World) (m : ℕ) (o : StepOutcome Stepped) → HasWork o → HasWork (after_step s w m o)
unfolding after_step
work_stays s w m o h = grind arith

-- what a member's refused step tells of the step of the run
pub refused : (s : Setting) (w : World) (m : ℕ) (o : StepOutcome Stepped) (x : CellFault) (y : RunFault)
    → run_fault_of (crew_fault_of x) ≡ Some y → Refuses o x → step s w ≡ after_step s w m o → MayRefuseStep (step s w) y
refused s w m o x y is h e = grind (arith, work_stays, after_full)

module _ {M : Type 0} where
  pub exits_are : (f : M → Record) (cs : List (Cell M)) (w : World) (xs : List Exit) → AreCellsInOrder f cs w.cells
      → xs ≡ ends_of f cs → xs ≡ exits_of w
  exits_are f cs w xs h e = e ∙ map_both cs ∙ ap (map (λ (p : PlainCell). exit_at p.holds p.exit)) h.1
    where
      map_both : (cs : List (Cell M)) → ends_of f cs ≡ map (λ (p : PlainCell). exit_at p.holds p.exit) (plain_cells f cs)
      map_both [] = refl
      map_both (c ∷ cs) = ap (λ l. exit_at (plain_cell f c).holds (plain_cell f c).exit ∷ l) (map_both cs)
