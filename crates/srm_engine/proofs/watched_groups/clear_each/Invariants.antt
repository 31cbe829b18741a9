use Rattle.std.proofs.Common.{◌≡◌, [], All, take}
use Rattle.srm_engine.specs.Groups.{all_in, sizes}
use Rattle.srm_engine.proofs.watched_groups.clear_each.Given as goal

abbrev pub invariant-loop-group : goal.invariant-loop-group
invariant-loop-group g l =
    (sizes l.groups ≡ sizes l.fn.groups) × All (λ k. g.W.Watch.keeps l.watch k []) (all_in (take l.group-index l.groups))
