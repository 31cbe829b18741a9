use Rattle.std.proofs.Common.{◌≡◌, [], take, drop, length}
use Rattle.srm_scenario.specs.Faults.{member_faults}
use Rattle.srm_scenario.specs.Taken.{MarksNodes}
use Rattle.srm_scenario.proofs.checks.check_members.Given as goal

abbrev pub invariant-loop-place : goal.invariant-loop-place
invariant-loop-place l = record {
  faults : member_faults l.until l.nodes l.star (take l.place l.entries) l.place (drop l.place l.entries)
      ≡ member_faults l.until l.nodes l.star [] 0 l.entries;
  size : length l.taken.items ≡ l.nodes;
  marks : MarksNodes (take l.place l.entries) l.taken.items;
}
