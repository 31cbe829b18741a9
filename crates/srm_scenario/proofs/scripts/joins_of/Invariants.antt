use Rattle.std.proofs.Common.{◌≡◌, take, map}
use Rattle.srm_scenario.specs.ScriptLists.{joins_of}
use Rattle.srm_scenario.proofs.scripts.joins_of.Given as goal

abbrev pub invariant-loop-member : goal.invariant-loop-member
invariant-loop-member l = map (λ marks. marks.items) l.scripts.items ≡ joins_of (take l.member-index l.members)
