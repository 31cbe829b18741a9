use Rattle.std.proofs.Common.{arith}
use Rattle.srm_net.proofs.PathLaws.{delay_bounded}
use Rattle.srm_net.proofs.rooted.Rooted.round.Goals as goal

pub overflow_add-result : goal.overflow_add-result
overflow_add-result c =
    let q = c.requires.rooted in
    let is = c.there_and_back-there.ensures q.0 q.2 q.3 q.4 in
    omega (arith, is.0, is.1, delay_bounded q.0 q.1 c.args.from c.args.to q.3 q.4, delay_bounded q.0 q.1 c.args.to c.args.from q.4 q.3)
