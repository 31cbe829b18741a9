use Rattle.std.proofs.Common.{◌≡◌, length}
use Rattle.srm_team.proofs.leader_ends.LeaderEnds.send_all.Given as goal

abbrev pub invariant-loop-item : goal.invariant-loop-item
invariant-loop-item g l = l.place ≡ length l.yielded
