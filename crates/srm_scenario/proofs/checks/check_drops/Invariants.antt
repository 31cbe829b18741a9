use Rattle.std.proofs.Common.{◌≡◌, drop, length}
use Rattle.srm_scenario.specs.declared.fault.ScenarioFault.TheVariants.{BadDrop}
use Rattle.srm_scenario.specs.Faults.{faults_by, fits_drop}
use Rattle.srm_scenario.proofs.checks.check_drops.Given as goal

abbrev pub invariant-loop-place : goal.invariant-loop-place
invariant-loop-place l =
    faults_by BadDrop (fits_drop (length l.links) (length l.members)) l.place (drop l.place l.drops)
    ≡ faults_by BadDrop (fits_drop (length l.links) (length l.members)) 0 l.drops
