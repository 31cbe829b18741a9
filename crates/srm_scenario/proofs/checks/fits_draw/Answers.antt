use Rattle.std.proofs.Common.{arith}
use Rattle.std.proofs.lemmas.Grind.{elements}
use Rattle.srm_scenario.proofs.checks.fits_draw.Goals as goal

pub returns-then-matches : goal.returns-then-matches
returns-then-matches c = grind (arith, elements)

pub returns-else-matches : goal.returns-else-matches
returns-else-matches c = grind (arith, elements)
