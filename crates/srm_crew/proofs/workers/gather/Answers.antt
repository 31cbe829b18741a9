use Rattle.std.proofs.Common.{subst}
use Rattle.srm_crew.specs.Passes.{TookEachAtMostOnce}
use Rattle.srm_crew.proofs.workers.gather.Goals as goal

pub returns-in-Err-join : goal.returns-in-Err-join
returns-in-Err-join g c = rw (c.in-Ok.is, c.in-Ok-second.is)
    (subst (λ p. TookEachAtMostOnce p) c.join-pass.ensures.both c.join-pass.ensures.fit, c.in-Err-join.ensures.past)
