use Rattle.std.proofs.Common.{sym}
use Rattle.srm_net.proofs.LawProofs.{least_delay_fits}
use Rattle.srm_engine.proofs.ends.widest.Goals as goal

pub returns-in-Some-clause-some : goal.returns-in-Some-clause-some
returns-in-Some-clause-some c =
    (least_delay_fits c.args.session.net.now c.in-Some.ensures.network c.in-Some.delay (sym c.in-Some.ensures.value)).0
