use Rattle.std.proofs.Common.{◌≡◌, ◌++◌, length, take, drop}
use Rattle.srm_engine.proofs.merge.take_out.Given as goal

-- those so far are moved, and the others are as they were
abbrev pub invariant-loop-own : goal.invariant-loop-own
invariant-loop-own l =
    (length l.group ≡ length l.fn.group) × (drop l.own-index l.group ≡ drop l.own-index l.fn.group)
    × (l.lists.items ≡ l.fn.lists.items ++ take l.own-index l.fn.group)
