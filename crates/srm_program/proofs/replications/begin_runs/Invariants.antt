use Rattle.std.proofs.Common.{◌≡◌, ◌≤◌, ◌-◌, ◌++◌}
use Rattle.std.specs.List.{range_with_len}
use Rattle.srm_program.proofs.replications.begin_runs.Given as goal

-- the runs that were begun here are under way behind the others
abbrev pub invariant-loop-seed : goal.invariant-loop-seed
invariant-loop-seed g l = record {
  further : l.next ≤ l.seed;
  within : l.seed ≤ l.end;
  work : l.relay.work ≡ l.initial.relay.work;
  begun : l.relay.under_way ≡ l.initial.relay.under_way ++ range_with_len l.next (l.seed - l.next);
}

abbrev pub decreases-loop-seed : goal.decreases-loop-seed
decreases-loop-seed g l = l.end - l.seed
