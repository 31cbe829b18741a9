use Rattle.std.proofs.Common.{◌≡◌, length, take, drop}
use Rattle.srm_interfaces.specs.Watches.{KeepEach}
use Rattle.srm_interfaces.proofs.watched.keep_each.Given as goal

-- the watch took in the rows of the cells so far, and what is kept of the others is as it was
abbrev pub invariant-loop-own : goal.invariant-loop-own
invariant-loop-own g l =
    (l.index ≡ l.own-index)
    × (length l.kept ≡ length l.fn.kept)
    × (drop l.own-index l.kept ≡ drop l.own-index l.fn.kept)
    × KeepEach (g.W.Watch.keeps l.watch) (take l.own-index l.fn.kept) (take l.own-index l.lists) (take l.own-index l.kept)
