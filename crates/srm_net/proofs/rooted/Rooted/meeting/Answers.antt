use Rattle.std.proofs.Common.{◌≡◌, ◌∙◌, ℕ, ◌<◌, ◌≤◌, Bool, true, false, List, sym, ap, subst}
use Rattle.std.proofs.lemmas.Bool.{both_ways}
use Rattle.srm_net.specs.declared.position.Position.{Position}
use Rattle.srm_net.specs.Rooting.{at, IsHeld, IsMeeting}
use Rattle.srm_net.proofs.Meetings.{meeting_back, meeting_held, meeting_siblings, parent_below}
use Rattle.srm_net.proofs.rooted.Rooted.meeting.Goals as goal

-- of positions that are the same
held_alike : (p q p2 q2 : Position) → p ≡ p2 → q ≡ q2 → IsHeld p q → IsHeld p2 q2
held_alike p q p2 q2 e f h = subst (λ (x : Position). IsHeld x q2) e (subst (λ (x : Position). IsHeld p x) f h)

-- the node of one position is not below that of another, where a test says no
not_held : (ps : List Position) (u v : ℕ) (p q : Position) (test : Bool) → p ≡ at ps u → q ≡ at ps v → test ≡ false
    → (p.place ≤ q.place → q.place < p.end → test ≡ true) → IsHeld (at ps u) (at ps v) → ⊥
not_held ps u v p q test e f untrue whole h =
    let k = held_alike (at ps u) (at ps v) p q (sym e) (sym f) h in
    both_ways _ untrue (whole k.0 k.1)

pub position-requires : goal.position-requires
position-requires c =
    let q = c.requires.rooted in
    let ps = c.args.self.now.positions.items in
    let not_here = not_held ps c.args.from c.args.to c.position-here.result c.position-there.result c.holds.result
    c.position-here.ensures c.position-there.ensures c.if-holds.false c.holds.ensures.whole in
    let below : (at ps c.args.from).parent < q.0.nodes = parent_below q.0 ps q.1 c.args.from c.args.to q.2 q.3 not_here in
    subst (λ n. c.position-here.result.parent < n) (sym q.1.long)
    (subst (λ (p : Position). p.parent < q.0.nodes) (sym c.position-here.ensures) below)

pub returns-then-holds : goal.returns-then-holds
returns-then-holds c w r hf ht =
    let ps = c.args.self.now.positions.items in
    let held = held_alike c.position-here.result c.position-there.result (at ps c.args.from) (at ps c.args.to)
    c.position-here.ensures c.position-there.ensures (c.holds.ensures.within c.if-holds.true) in
    subst (λ (p : Position). IsMeeting w ps c.args.from c.args.to p) (sym c.position-here.ensures)
    (meeting_held w ps r c.args.from c.args.to hf ht held)

pub returns-then-holds-2 : goal.returns-then-holds-2
returns-then-holds-2 c w r hf ht =
    let ps = c.args.self.now.positions.items in
    let held = held_alike c.position-there.result c.position-here.result (at ps c.args.to) (at ps c.args.from)
    c.position-there.ensures c.position-here.ensures (c.holds-else-holds.ensures.within c.if-holds-2.true) in
    subst (λ (p : Position). IsMeeting w ps c.args.from c.args.to p) (sym c.position-there.ensures)
    (meeting_back w ps r.tree c.args.to c.args.from (at ps c.args.to) ht hf (meeting_held w ps r c.args.to c.args.from ht hf held))

pub returns-then-here-there : goal.returns-then-here-there
returns-then-here-there c w r hf ht =
    let ps = c.args.self.now.positions.items in
    let not_here = not_held ps c.args.from c.args.to c.position-here.result c.position-there.result c.holds.result
    c.position-here.ensures c.position-there.ensures c.if-holds.false c.holds.ensures.whole in
    let not_there = not_held ps c.args.to c.args.from c.position-there.result c.position-here.result c.holds-else-holds.result
    c.position-there.ensures c.position-here.ensures c.if-holds-2.false c.holds-else-holds.ensures.whole in
    let up = ap (λ (p : Position). p.parent) c.position-here.ensures in
    let same : (at ps c.args.from).parent ≡ (at ps c.args.to).parent = sym up ∙ c.if-here-there.true
    ∙ ap (λ (p : Position). p.parent) c.position-there.ensures in
    subst (λ (p : Position). IsMeeting w ps c.args.from c.args.to p) (ap (at ps) (sym up) ∙ sym c.position.ensures)
    (meeting_siblings w ps r c.args.from c.args.to hf ht not_here not_there same)
