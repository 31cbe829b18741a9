use Rattle.std.proofs.Common.{◌≡◌, ◌<◌, ◌*◌, length, refl, sym, ◌∙◌, ap, arith}
use Rattle.srm_ledger.specs.Counts.{counted_at, place_of}
use Rattle.srm_cell.specs.Setting.{traffic_of}
use Rattle.srm_cell.specs.Tallies.{tallied, with_everywhere}
use Rattle.srm_cell.proofs.Tallying.{first_put, kept_there, last_put, length_put, passed_by, put_at, put_below}
use Rattle.srm_cell.proofs.tally.Tally.into_totals.Goals.{then-joins_members, else-joins_members}
use Rattle.srm_cell.proofs.tally.Tally.into_totals.Goals as goal

pub loop-link-init : goal.loop-link-init
loop-link-init c = λ s some is. is ∙ first_put (traffic_of s c.args.net.now) c.args.net.now c.args.self.everywhere some

pub add_to-requires-clause-within : goal.add_to-requires-clause-within
add_to-requires-clause-within c =
    let r = c.requires in
    let net = c.args.net.now in
    let s = traffic_of r.0 net in
    let is = c.loop-link.invariant r.0 r.2.some r.2.some_are in
    let n : length c.loop-link.stopped ≡ 5 * s.links =
    ap length is ∙ length_put s net c.args.self.everywhere r.2.some c.loop-link.link 0 s.links in
    let many : length c.links.result.now ≡ length net.links = ap length c.links.ensures.links in
    omega arith

pub add_to-requires-clause-room : goal.add_to-requires-clause-room
add_to-requires-clause-room c = λ k.
    let r = c.requires in
    let net = c.args.net.now in
    let s = traffic_of r.0 net in
    let is = c.loop-link.invariant r.0 r.2.some r.2.some_are in
    let there : counted_at c.loop-link.stopped c.loop-link.link k ≡ counted_at c.args.self.stopped c.loop-link.link k =
    ap (λ ns. counted_at ns c.loop-link.link k) is
    ∙ kept_there s net c.args.self.everywhere r.2.some c.loop-link.link (place_of k)
    ∙ ap (λ ns. counted_at ns c.loop-link.link k) (sym r.2.some_are) in
    let fits = r.2.room c.loop-link.link k in
    omega (arith, there, fits)

pub loop-link-preserved : goal.loop-link-preserved
loop-link-preserved c = λ s some h.
    let net = c.args.net.now in
    let t = traffic_of s net in
    let e = c.args.self.everywhere in
    let l = c.loop-link.link in
    let is = c.loop-link.invariant s some h in
    let lt : l < t.links =
    (let many : length c.links.result.now ≡ length net.links = ap length c.links.ensures.links in
    let below = c.loop-link-test.true in omega arith) in
    elim c.if-joins_members.branch [
      | then-joins_members w ↦ w.stopped-is ∙ w.add_to.ensures ∙ ap (with_everywhere e l) is
          ∙ put_at t net e some l lt (sym c.joins_members.ensures.value ∙ w.if-joins_members.true)
      | else-joins_members w ↦ w.stopped-is ∙ is
          ∙ passed_by t net e some l lt (sym c.joins_members.ensures.value ∙ w.if-joins_members.false)
    ]

pub returns : goal.returns
returns c =
    let r = c.requires in
    let net = c.args.net.now in
    let s = traffic_of r.0 net in
    let e = c.args.self.everywhere in
    let many : length c.links.result.now ≡ length net.links = ap length c.links.ensures.links in
    let over = c.loop-link-test.false in
    let all : c.loop-link.link ≡ s.links = omega arith in
    c.loop-link.invariant r.0 r.2.some r.2.some_are
    ∙ ap (λ k. put_below s net e r.2.some k 0 s.links) all
    ∙ last_put s net e r.2.some refl
    ∙ ap (λ ns. tallied net (record { everywhere = e; stopped = ns })) (sym r.2.some_are)
