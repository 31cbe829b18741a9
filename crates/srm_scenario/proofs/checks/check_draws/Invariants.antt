use Rattle.std.proofs.Common.{◌≡◌, drop}
use Rattle.srm_scenario.specs.declared.fault.ScenarioFault.TheVariants.{BadDraw}
use Rattle.srm_scenario.specs.Faults.{faults_by, fits_draw}
use Rattle.srm_scenario.proofs.checks.check_draws.Given as goal

abbrev pub invariant-loop-place : goal.invariant-loop-place
invariant-loop-place l = faults_by BadDraw (fits_draw l.until l.members) l.place (drop l.place l.draws)
    ≡ faults_by BadDraw (fits_draw l.until l.members) 0 l.draws
