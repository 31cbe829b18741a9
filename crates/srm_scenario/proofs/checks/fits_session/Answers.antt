use Rattle.std.proofs.Common.{arith}
use Rattle.std.proofs.lemmas.Grind.{elements}
use Rattle.srm_scenario.proofs.checks.fits_session.Goals as goal

pub returns-then-not-matches : goal.returns-then-not-matches
returns-then-not-matches c = grind (arith, elements)

pub returns-else-not-matches : goal.returns-else-not-matches
returns-else-not-matches c = grind (arith, elements)
