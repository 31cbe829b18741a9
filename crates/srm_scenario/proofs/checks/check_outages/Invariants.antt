use Rattle.std.proofs.Common.{◌≡◌, drop, length}
use Rattle.srm_scenario.specs.declared.fault.ScenarioFault.TheVariants.{BadOutage}
use Rattle.srm_scenario.specs.Faults.{faults_by, fits_outage}
use Rattle.srm_scenario.proofs.checks.check_outages.Given as goal

abbrev pub invariant-loop-place : goal.invariant-loop-place
invariant-loop-place l =
    faults_by BadOutage (fits_outage (length l.links)) l.place (drop l.place l.outages)
    ≡ faults_by BadOutage (fits_outage (length l.links)) 0 l.outages
