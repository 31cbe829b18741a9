use Rattle.std.proofs.Common.{◌≡◌, drop, length}
use Rattle.srm_scenario.specs.declared.fault.ScenarioFault.TheVariants.{BadLoss}
use Rattle.srm_scenario.specs.Faults.{faults_by, fits_loss}
use Rattle.srm_scenario.proofs.checks.check_losses.Given as goal

abbrev pub invariant-loop-place : goal.invariant-loop-place
invariant-loop-place l =
    faults_by BadLoss (fits_loss (length l.links)) l.place (drop l.place l.losses)
    ≡ faults_by BadLoss (fits_loss (length l.links)) 0 l.losses
