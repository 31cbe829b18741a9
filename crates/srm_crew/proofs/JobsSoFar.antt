-- Jobs advanced one after the other, of which one is refused.
use Rattle.std.proofs.Common.{◌≡◌, List, ◌∷◌, ◌++◌, sym, ap, ◌∙◌, subst, inl, Err}
use Rattle.std.proofs.lemmas.List.{map-append}
use Rattle.srm_net.specs.Network.{Network}
use Rattle.srm_scenario.specs.Plain.{PlainScenario}
use Rattle.srm_member.specs.Record.{Record}
use Rattle.srm_cell.specs.declared.job.Job.{Job}
use Rattle.srm_cell.specs.declared.fault.CellFault.{CellFault}
use Rattle.srm_cell.specs.declared.fault.CellFault.TheVariants as cell
use Rattle.srm_cell.specs.Cells.{StepOutcome, Stepped, Spent, Full}
use Rattle.srm_cell.specs.Jobs.{Advances, plain_job}
use Rattle.srm_interfaces.specs.Crews.{AdvanceEach, AnyEnds, plain_jobs}
use Rattle.srm_crew.proofs.JobPieces.{any_last}

module _ {M : Type 0} (f : M → Record) where
  -- what ends the runs of one of the jobs that are left ends those of one of all
  pub ends_left : (o : StepOutcome Stepped) (front left whole : List (Job M)) → front ++ left ≡ whole → AnyEnds o (plain_jobs f left)
      → AnyEnds o (plain_jobs f whole)
  ends_left o front left whole is h = subst (AnyEnds o) (sym (map-append (plain_job f) front left) ∙ ap (plain_jobs f) is)
      (any_last o (plain_jobs f front) (plain_jobs f left) h)

  pub refused_left : (k : PlainScenario) (net : Network) (front left whole : List (Job M)) (j : Job M) (e : CellFault)
      → front ++ j ∷ left ≡ whole → Advances f k net j (Err e) → AdvanceEach f k net whole (Err e)
  refused_left k net front left whole j cell.NoMemory is t = tt
  refused_left k net front left whole j cell.Spent is t = ends_left Spent front (j ∷ left) whole is (inl t)
  refused_left k net front left whole j cell.CountFull is t = ends_left Full front (j ∷ left) whole is (inl t)
