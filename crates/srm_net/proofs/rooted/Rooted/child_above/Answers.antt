use Rattle.std.proofs.Common.{◌≡◌, ◌≢◌, ◌⊎◌, ◌∙◌, sym, ap, subst, ◌<◌}
use Rattle.srm_net.specs.declared.position.Position.{Position}
use Rattle.srm_net.specs.Rooting.{at, IsHeld}
use Rattle.srm_net.proofs.Firsts.{held_itself, held_later, climb}
use Rattle.srm_net.proofs.rooted.Rooted.child_above.Goals as goal

pub loop-node-init : goal.loop-node-init
loop-node-init c w r hf ht = (ht, c.requires.apart, c.requires.below, held_itself w c.args.self.now.positions.items r c.args.to ht)

pub position-requires : goal.position-requires
position-requires c =
    let q = c.requires.rooted in
    subst (λ n. c.loop-node.node < n) (sym q.1.long) (c.loop-node.invariant q.0 q.1 q.2 q.3).0

pub position-requires-in-loop-node : goal.position-requires-in-loop-node
position-requires-in-loop-node c =
    let q = c.requires.rooted in
    subst (λ n. c.loop-node.node < n) (sym q.1.long) (c.loop-node.invariant q.0 q.1 q.2 q.3).0

pub above_within-node-requires-clause-jump : goal.above_within-node-requires-clause-jump
above_within-node-requires-clause-jump c =
    let q = c.requires.rooted in
    let inv = c.loop-node.invariant q.0 q.1 q.2 q.3 in
    subst (λ n. c.position-in-loop-node.result.jump < n) (sym q.1.long)
    (subst (λ (p : Position). p.jump < q.0.nodes) (sym c.position-in-loop-node.ensures) (q.1.each c.loop-node.node inv.0).jump.node)

pub loop-node-smaller : goal.loop-node-smaller
loop-node-smaller c =
    let q = c.requires.rooted in
    let ps = c.args.self.now.positions.items in
    let inv = c.loop-node.invariant q.0 q.1 q.2 q.3 in
    let y = c.above_within-node.result in
    (climb q.0 ps q.1 c.args.from c.args.to c.loop-node.node y q.2 q.3 inv.0 inv.1 inv.2 inv.3
    (λ e. c.loop-node-test.true (ap (λ (p : Position). p.parent) c.position.ensures ∙ e))
    (subst (λ (p : Position). ((y ≡ p.jump) × (p.jump ≢ c.args.from) × IsHeld (at ps c.args.from) (at ps p.jump)
    × IsHeld (at ps p.jump) (at ps c.args.to)) ⊎ (y ≡ p.parent)) c.position-in-loop-node.ensures c.above_within-node.ensures)).4

pub loop-node-preserved : goal.loop-node-preserved
loop-node-preserved c w r hf ht =
    let ps = c.args.self.now.positions.items in
    let inv = c.loop-node.invariant w r hf ht in
    let y = c.above_within-node.result in
    let up = climb w ps r c.args.from c.args.to c.loop-node.node y hf ht inv.0 inv.1 inv.2 inv.3
    (λ e. c.loop-node-test.true (ap (λ (p : Position). p.parent) c.position.ensures ∙ e))
    (subst (λ (p : Position). ((y ≡ p.jump) × (p.jump ≢ c.args.from) × IsHeld (at ps c.args.from) (at ps p.jump)
    × IsHeld (at ps p.jump) (at ps c.args.to)) ⊎ (y ≡ p.parent)) c.position-in-loop-node.ensures c.above_within-node.ensures) in
    (up.0, up.1, up.2, up.3)

pub returns : goal.returns
returns c w r hf ht =
    let ps = c.args.self.now.positions.items in
    let inv = c.loop-node.invariant w r hf ht in
    record {
      node = inv.0;
      parent = sym (ap (λ (p : Position). p.parent) c.position.ensures) ∙ c.loop-node-test.false;
      below = held_later w ps r c.args.from c.loop-node.node hf inv.0 inv.1 inv.2;
      held = inv.3;
    }
