use Rattle.std.proofs.Common.{◌∙◌, ap}
use Rattle.srm_engine.specs.NextTimes.{least_of_times}
use Rattle.srm_engine.proofs.Index.{first_told}
use Rattle.srm_engine.proofs.next_times.NextTimes.least.Goals as goal

pub returns-then-time-lt-LATEST : goal.returns-then-time-lt-LATEST
returns-then-time-lt-LATEST c =
    first_told c.self.inside.size c.self.inside.times.items c.self.inside.words.items c.self.inside.least c.self.invariant
    c.if-time-lt-LATEST.true
    ∙ ap (least_of_times 0) c.self.view_is
