use Rattle.std.proofs.Common.{◌∙◌, ◌<◌, ◌≤◌, refl, sym, ap, subst, arith, not}
use Rattle.std.specs.List.{list_any}
use Rattle.srm_net.specs.Network.{IsNetwork}
use Rattle.srm_net.specs.Paths.{route, delay_along, stops, takes_out}
use Rattle.srm_net.proofs.FateLemmas.{spared, none_stops}
use Rattle.srm_net.proofs.PathLaws.{route_nowhere, delay_bounded}
use Rattle.srm_net.proofs.tree.Tree.is_clear.Goals as goal
use Rattle.srm_net.specs.Limits.{end_of_time, greatest_distance}

pub returns-then-not-may_drop : goal.returns-then-not-may_drop
returns-then-not-may_drop c =
    sym (ap not (none_stops (takes_out c.args.drops.now c.args.id) c.args.sent
    (spared c.args.drops.now c.args.id c.args.sent (sym c.may_drop.ensures ∙ c.if-not-may_drop.true))
    c.args.self.now.links c.args.from c.args.sent (route c.args.self.now c.args.from c.args.to) (omega arith)))

pub loop-at-init : goal.loop-at-init
loop-at-init c =
    let few : delay_along c.args.self.now.links c.args.from (route c.args.self.now c.args.from c.args.to) ≤ greatest_distance =
    delay_bounded c.args.self.now (subst IsNetwork c.self.view_is c.self.invariant.network) c.args.from c.args.to c.requires.from
    c.requires.to in
    let soon : c.args.sent < end_of_time = c.requires.sent in
    record { node = c.requires.from; rest = refl; in_time = omega arith }

pub returns : goal.returns
returns c =
    let f = takes_out c.args.drops.now c.args.id in
    let e = ap (λ u. route c.args.self.now u c.args.to) c.loop-at-test.false ∙ route_nowhere c.args.self.now c.args.to in
    sym (ap not (sym c.loop-at.invariant.rest ∙ ap (λ ls. list_any f (stops c.args.self.now.links c.loop-at.at c.loop-at.tick ls)) e))
