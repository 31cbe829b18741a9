use Rattle.std.proofs.Common.{◌≡◌, take, drop}
use Rattle.srm_interfaces.specs.Grouped.{all_in, sizes}
use Rattle.srm_engine.proofs.merge.merge.Given as goal

-- those of the groups so far are moved, and the others are as they were
abbrev pub invariant-loop-group : goal.invariant-loop-group
invariant-loop-group l =
    (sizes l.groups ≡ sizes l.fn.groups) × (drop l.group-index l.groups ≡ drop l.group-index l.fn.groups)
    × (l.lists.items ≡ all_in (take l.group-index l.fn.groups))
