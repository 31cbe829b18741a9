use Rattle.std.proofs.Common.{◌≡◌, ◌+◌, ◌<◌, [], inr, refl, subst, arith, length, reverse}
use Rattle.std.proofs.lemmas.List.{length-reverse}
use Rattle.srm_net.specs.Waiting.{IsGrowing}
use Rattle.srm_net.proofs.OrderLemmas.{whole_tree}
use Rattle.srm_net.proofs.Waits.{Covers, attached_fit, stuck_no_tree, none_left}
use Rattle.srm_net.proofs.order.attaching_order.Goals as goal

pub loop-step-preserved : goal.loop-step-preserved
loop-step-preserved c =
    let g = c.loop-step.growing in
    c.in_ok-take.ensures.growing c.args.nodes (subst (IsGrowing c.args.nodes c.args.links.now g.known.items (reverse g.steps.items))
    c.in-Some.ensures.items c.loop-step.invariant)

pub returns-then-len-from-clause-fault : goal.returns-then-len-from-clause-fault
returns-then-len-from-clause-fault c =
    let links = c.args.links.now in
    let steps = c.loop-step.growing.steps in
    let pending = c.loop-step.growing.pending in
    let inv = c.loop-step.invariant in
    let fit = attached_fit c.args.nodes links (reverse steps.items) inv.some inv.ends inv.grown in
    let few : length (reverse steps.items) + 1 < c.args.nodes = omega (arith, length-reverse steps.items, steps.ok.0) in
    let none : pending.items ≡ [] = none_left pending.items (omega (arith, c.in_default.ensures.cases.0, pending.ok.0)) in
    inr (refl, stuck_no_tree c.args.nodes links (reverse steps.items) few (subst (Covers links (reverse steps.items)) none inv.covers))

pub returns-clause-tree : goal.returns-clause-tree
returns-clause-tree c =
    let steps = c.loop-step.growing.steps in
    let inv = c.loop-step.invariant in
    let all : length (reverse steps.items) + 1 ≡ c.args.nodes = omega (arith, length-reverse steps.items, steps.ok.0) in
    whole_tree c.args.nodes c.args.links.now (reverse steps.items) inv.some (omega arith) inv.ends (omega arith) inv.grown all
