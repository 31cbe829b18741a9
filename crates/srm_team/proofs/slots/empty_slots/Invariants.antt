use Rattle.std.proofs.Common.{◌≡◌, length}
use Rattle.srm_team.specs.Tells.{AllNone}
use Rattle.srm_team.proofs.slots.empty_slots.Given as goal

abbrev pub invariant-loop : goal.invariant-loop
invariant-loop g l = record {
  long : length l.slots.items ≡ l.counter;
  none : AllNone l.slots.items;
}
