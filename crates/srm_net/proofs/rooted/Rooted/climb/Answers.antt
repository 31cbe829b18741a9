use Rattle.std.proofs.Common.{◌≡◌, ℕ, ◌+◌, ◌<◌, List, length, subst, sym, arith}
use Rattle.srm_net.specs.declared.position.Position.{Position}
use Rattle.srm_net.specs.Network.{Network}
use Rattle.srm_net.specs.Rooting.{at, IsRooted, IsMeeting}
use Rattle.srm_net.proofs.Meetings.{meeting_back, meeting_itself, meeting_hop}
use Rattle.srm_net.proofs.Rootings.{Hop, hop_read, strictly}
use Rattle.srm_net.proofs.rooted.Rooted.climb.Goals as goal

jump_below : (w : Network) (ps : List Position) (r : IsRooted w ps) (u : ℕ) → u < w.nodes → (q : Position) → q ≡ at ps u
    → q.jump < length ps
jump_below w ps r u hu q e = subst (λ (p : Position). p.jump < length ps) (sym e)
    (subst (λ n. (at ps u).jump < n) (sym r.long) (r.each u hu).jump.node)

-- the hop of the far end, where it has the later place
far_hop : (c : goal.After-above-far) (w : Network) → IsRooted w c.args.self.now.positions.items → c.args.from < w.nodes
    → c.args.to < w.nodes → Hop w c.args.self.now.positions.items c.loop-near.far c.loop-near.near c.above-far.result
far_hop c w r hf ht =
    let ps = c.args.self.now.positions.items in
    let inv = c.loop-near.invariant w r hf ht in
    hop_read w ps r c.loop-near.far c.loop-near.near c.above-far.result c.position-there.result c.position-here.result inv.1 inv.0
    c.position-there.ensures c.position-here.ensures
    (strictly w ps r c.loop-near.near c.loop-near.far c.position-here.result c.position-there.result inv.0 inv.1
    c.position-here.ensures c.position-there.ensures c.loop-near-test.true c.if-here-there.false)
    c.above-far.ensures

pub position-here-requires : goal.position-here-requires
position-here-requires c =
    let q = c.requires.rooted in
    subst (λ n. c.loop-near.near < n) (sym q.1.long) (c.loop-near.invariant q.0 q.1 q.2 q.3).0

pub position-there-requires : goal.position-there-requires
position-there-requires c =
    let q = c.requires.rooted in
    subst (λ n. c.loop-near.far < n) (sym q.1.long) (c.loop-near.invariant q.0 q.1 q.2 q.3).1

pub position-requires : goal.position-requires
position-requires c =
    let q = c.requires.rooted in
    subst (λ n. c.loop-near.near < n) (sym q.1.long) (c.loop-near.invariant q.0 q.1 q.2 q.3).0

pub above-near-requires : goal.above-near-requires
above-near-requires c =
    let (w, r, hf, ht) = c.requires.rooted in
    jump_below w c.args.self.now.positions.items r c.loop-near.near (c.loop-near.invariant w r hf ht).0 c.position-here.result
    c.position-here.ensures

pub above-far-requires : goal.above-far-requires
above-far-requires c =
    let (w, r, hf, ht) = c.requires.rooted in
    jump_below w c.args.self.now.positions.items r c.loop-near.far (c.loop-near.invariant w r hf ht).1 c.position-there.result
    c.position-there.ensures

pub loop-near-preserved-then-here-there : goal.loop-near-preserved-then-here-there
loop-near-preserved-then-here-there c w r hf ht =
    let ps = c.args.self.now.positions.items in
    let inv = c.loop-near.invariant w r hf ht in
    let h = hop_read w ps r c.loop-near.near c.loop-near.far c.above-near.result c.position-here.result c.position-there.result inv.0
    inv.1 c.position-here.ensures c.position-there.ensures c.if-here-there.true c.above-near.ensures in
    (h.node, inv.1, λ q m. inv.2 q (meeting_hop w ps c.loop-near.near c.loop-near.far c.above-near.result q h m))

pub loop-near-smaller : goal.loop-near-smaller
loop-near-smaller c =
    let q = c.requires.rooted in
    let ps = c.args.self.now.positions.items in
    let h = far_hop c q.0 q.1 q.2 q.3 in
    let less : (at ps c.above-far.result).place < (at ps c.loop-near.far).place = h.earlier in
    let both : (at ps c.loop-near.near).place + (at ps c.above-far.result).place < (at ps c.loop-near.near).place
    + (at ps c.loop-near.far).place = omega arith in
    both

pub loop-near-preserved : goal.loop-near-preserved
loop-near-preserved c w r hf ht =
    let ps = c.args.self.now.positions.items in
    let inv = c.loop-near.invariant w r hf ht in
    let h = far_hop c w r hf ht in (
      inv.0,
      h.node,
      λ q m. inv.2 q (meeting_back w ps r.tree c.loop-near.far c.loop-near.near q inv.1 inv.0
          (meeting_hop w ps c.loop-near.far c.loop-near.near c.above-far.result q h
          (meeting_back w ps r.tree c.loop-near.near c.above-far.result q inv.0 h.node m))),
    )

pub returns : goal.returns
returns c w r hf ht =
    let ps = c.args.self.now.positions.items in
    let near = c.loop-near.near in
    let inv = c.loop-near.invariant w r hf ht in
    inv.2 c.position.result (subst (λ (q : Position). IsMeeting w ps near c.loop-near.far q) (sym c.position.ensures)
    (subst (λ v. IsMeeting w ps near v (at ps near)) c.loop-near-test.false (meeting_itself w ps near)))
