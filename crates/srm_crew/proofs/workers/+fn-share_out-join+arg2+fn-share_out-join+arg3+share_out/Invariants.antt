use Rattle.std.proofs.Common.{◌+◌, ◌*◌}
use Rattle.srm_crew.proofs.workers.+fn-share_out-join+arg2+fn-share_out-join+arg3+share_out.Given as goal

abbrev pub decreases-share_out : goal.decreases-share_out
decreases-share_out g l = 2 * l.workers

abbrev pub decreases-join+arg2 : goal.decreases-join+arg2
decreases-join+arg2 g l = 2 * l.less + 1

abbrev pub decreases-join+arg3 : goal.decreases-join+arg3
decreases-join+arg3 g l = 2 * l.more + 1
