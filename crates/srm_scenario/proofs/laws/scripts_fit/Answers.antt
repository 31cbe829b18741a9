use Rattle.srm_scenario.proofs.ScriptLemmas.{scripts_fit}
use Rattle.srm_scenario.proofs.laws.scripts_fit.Goals as goal

pub returns : goal.returns
returns c = scripts_fit
