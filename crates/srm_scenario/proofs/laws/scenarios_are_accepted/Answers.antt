use Rattle.srm_scenario.proofs.TableAnswers.{table_accepted}
use Rattle.srm_scenario.proofs.Texts.{text_accepted}
use Rattle.srm_scenario.proofs.laws.scenarios_are_accepted.Goals as goal

pub returns-clause-texts : goal.returns-clause-texts
returns-clause-texts c = text_accepted

pub returns-clause-tables : goal.returns-clause-tables
returns-clause-tables c = table_accepted
