use Rattle.std.proofs.Common.{sym, ap}
use Rattle.srm_model.specs.WindowChains.{width_rule}
use Rattle.srm_engine.specs.Starts.{setting_on}
use Rattle.srm_engine.proofs.ends.Ends.of.Goals as goal

pub returns-in-Least : goal.returns-in-Least
returns-in-Least c = (
  rw c.in-Least.is tt,
  (c.widest.ensures.some, c.widest.ensures.width),
  λ seed. rw c.in-Least.is (ap (width_rule (setting_on c.args.session seed)) (sym c.widest.ensures.least)),
)
