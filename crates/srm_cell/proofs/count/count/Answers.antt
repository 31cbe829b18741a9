use Rattle.std.proofs.Common.{◌≡◌, ◌<◌, ◌≤◌, ◌+◌, ◌*◌, sym, ◌∙◌, ap, subst, length, arith, slice_index}
use Rattle.srm_net.specs.Fates.{is_crossing, is_dropping}
use Rattle.srm_net.specs.Scopes.{scope_of}
use Rattle.srm_net.proofs.Joining.{hops_long}
use Rattle.srm_ledger.specs.Counts.{place_at, place_of}
use Rattle.srm_cell.specs.Setting.{traffic_of}
use Rattle.srm_cell.specs.Totalled.{bump}
use Rattle.srm_cell.proofs.Counting.{mixed, none_counted, all_counted, counted_link, length_mixed, most}
use Rattle.srm_cell.proofs.count.count.Goals as goal

pub fate_in-fate-requires-clause-spread : goal.fate_in-fate-requires-clause-spread
fate_in-fate-requires-clause-spread c =
    let is = c.requires.room.1 in
    record {
      sender = subst (λ m. m < length c.args.net.now.hosts) (sym is.sender) c.requires.sender;
      nodes = is.nodes;
      hops = hops_long c.args.net.now _ c.args.spread.now.hops is.hops;
    }

pub loop-link-init : goal.loop-link-init
loop-link-init c = λ k is ps h. h ∙ sym (none_counted (traffic_of k c.args.net.now) ps c.args.packet.now)

pub count_at-requires-clause-within : goal.count_at-requires-clause-within
count_at-requires-clause-within c =
    let room = c.requires.room in
    let k = room.2 in
    let s = traffic_of room.0 c.args.net.now in
    let is = c.loop-link.invariant room.0 room.1 k.0 k.2 in
    let n : length c.loop-link.totals ≡ 5 * s.links = ap length is ∙ length_mixed s k.0 c.args.packet.now c.loop-link.link 0 s.links in
    let many : length c.links.result.now ≡ length c.args.net.now.links = ap length c.links.ensures.links in
    omega arith

pub count_at-requires-clause-crossing : goal.count_at-requires-clause-crossing
count_at-requires-clause-crossing c =
    let room = c.requires.room in
    let k = room.2 in
    let s = traffic_of room.0 c.args.net.now in
    let is = c.loop-link.invariant room.0 room.1 k.0 k.2 in
    let i = place_at c.loop-link.link c.kind_of-kind.result in
    let m = most s k.0 c.args.packet.now 0 i s.links c.loop-link.link in
    let n : slice_index c.loop-link.totals i ≤ length k.0 + 1 = subst (λ ns. slice_index ns i ≤ length k.0 + 1) (sym is) m in
    let few = k.1 in
    omega arith

pub count_at-requires-clause-dropping : goal.count_at-requires-clause-dropping
count_at-requires-clause-dropping c =
    let room = c.requires.room in
    let k = room.2 in
    let s = traffic_of room.0 c.args.net.now in
    let is = c.loop-link.invariant room.0 room.1 k.0 k.2 in
    let i = 5 * c.loop-link.link + 4 in
    let m = most s k.0 c.args.packet.now 0 i s.links c.loop-link.link in
    let n : slice_index c.loop-link.totals i ≤ length k.0 + 1 = subst (λ ns. slice_index ns i ≤ length k.0 + 1) (sym is) m in
    let few = k.1 in
    omega arith

pub loop-link-preserved : goal.loop-link-preserved
loop-link-preserved c = λ k spread ps h.
    let s = traffic_of k c.args.net.now in
    let is = c.loop-link.invariant k spread ps h in
    let p = c.args.packet.now in
    let crossing : is_crossing c.fate_in-fate.result ≡ s.crosses p c.loop-link.link =
    c.fate_in-fate.ensures.crosses k.drops p.id p.sent (scope_of p.body) spread in
    let dropping : is_dropping c.fate_in-fate.result ≡ s.drops_at p c.loop-link.link =
    c.fate_in-fate.ensures.dropped k.drops p.id p.sent (scope_of p.body) spread in
    c.count_at.ensures
    ∙ (λ i. bump (dropping i) (5 * c.loop-link.link + 4)
    (bump (crossing i) (5 * c.loop-link.link + place_of (c.kind_of-kind.ensures i)) (is i)))
    ∙ counted_link s ps c.args.packet.now c.loop-link.link (let many : length c.links.result.now ≡ length c.args.net.now.links =
    ap length c.links.ensures.links in let lt = c.loop-link-test.true in omega arith)

pub returns : goal.returns
returns c = λ k spread ps h.
    let s = traffic_of k c.args.net.now in
    let many : length c.links.result.now ≡ length c.args.net.now.links = ap length c.links.ensures.links in
    let all : c.loop-link.link ≡ s.links = omega arith in
    c.loop-link.invariant k spread ps h ∙ ap (λ k. mixed s ps c.args.packet.now k 0 s.links) all ∙ all_counted s ps c.args.packet.now
