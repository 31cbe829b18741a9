use Rattle.std.proofs.Common.{◌≡◌, drop}
use Rattle.srm_scenario.specs.declared.fault.ScenarioFault.TheVariants.{BadSession}
use Rattle.srm_scenario.specs.Faults.{faults_by, fits_session}
use Rattle.srm_scenario.proofs.checks.check_sessions.Given as goal

abbrev pub invariant-loop-place : goal.invariant-loop-place
invariant-loop-place l = faults_by BadSession (fits_session l.until l.members) l.place (drop l.place l.sessions)
    ≡ faults_by BadSession (fits_session l.until l.members) 0 l.sessions
