use Rattle.std.proofs.Common.{◌≡◌, sym, subst, true, ◌<◌, ◌≤◌}
use Rattle.std.proofs.lemmas.Bool.{both_ways}
use Rattle.srm_net.specs.declared.position.Position.{Position}
use Rattle.srm_net.specs.Rooting.{at, IsFirstLink}
use Rattle.srm_net.proofs.Firsts.{first_down, first_up}
use Rattle.srm_net.proofs.rooted.Rooted.first_step.Goals as goal

pub position-requires-then-holds : goal.position-requires-then-holds
position-requires-then-holds c =
    let q = c.requires.rooted in
    subst (λ n. c.child_above-child.result < n) (sym q.1.long) (c.child_above-child.ensures q.0 q.1 q.2 q.3).node

pub returns-then-holds : goal.returns-then-holds
returns-then-holds c w r hf ht =
    subst (λ (p : Position). IsFirstLink w c.args.from c.args.to p.link c.child_above-child.result) (sym c.position-then-holds.ensures)
    (first_down w c.args.self.now.positions.items r c.args.from c.args.to c.child_above-child.result hf ht
    (c.child_above-child.ensures w r hf ht))

pub returns-else-holds : goal.returns-else-holds
returns-else-holds c w r hf ht =
    let ps = c.args.self.now.positions.items in
    let whole : (at ps c.args.from).place ≤ (at ps c.args.to).place → (at ps c.args.to).place < (at ps c.args.from).end
    → c.holds.result ≡ true =
    subst (λ (p : Position). p.place ≤ (at ps c.args.to).place → (at ps c.args.to).place < p.end → c.holds.result ≡ true)
    c.position-here.ensures
    (subst (λ (p : Position). c.position-here.result.place ≤ p.place → p.place < c.position-here.result.end → c.holds.result ≡ true)
    c.position.ensures c.holds.ensures.whole) in
    subst (λ (p : Position). IsFirstLink w c.args.from c.args.to p.link p.parent) (sym c.position-here.ensures)
    (first_up w ps r c.args.from c.args.to hf ht (λ z. both_ways _ c.if-holds.false (whole z.0 z.1)))
