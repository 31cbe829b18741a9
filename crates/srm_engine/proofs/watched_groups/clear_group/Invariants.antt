use Rattle.std.proofs.Common.{◌≡◌, [], All, length, take}
use Rattle.srm_engine.proofs.watched_groups.clear_group.Given as goal

abbrev pub invariant-loop-own : goal.invariant-loop-own
invariant-loop-own g l =
    (length l.group ≡ length l.fn.group) × All (λ k. g.W.Watch.keeps l.watch k []) (take l.own-index l.group)
