use Rattle.std.proofs.Common.{◌≡◌, ◌∙◌, ◌+◌, ◌<◌, ◌++◌, ◌∷◌, [], sym, ap, subst, arith, length, slice_index, slice_set, take}
use Rattle.std.proofs.lemmas.List.{length-set, take_all}
use Rattle.srm_net.specs.declared.position.Position.{Position}
use Rattle.srm_net.specs.Occupancy.{places_of}
use Rattle.srm_net.specs.Rooting.{at}
use Rattle.srm_net.proofs.OccupiedLemmas.{MarksAt, mark_place, places_more, place_within}
use Rattle.srm_net.proofs.PathLaws.{host_below}
use Rattle.srm_net.proofs.occupied.marked.Goals as goal

pub position-size-requires : goal.position-size-requires
position-size-requires c = let (w, n, r, same) = c.requires.rooted in subst (λ k. 0 < k) (sym r.long) r.tree.some_nodes

pub position-place-requires : goal.position-place-requires
position-place-requires c =
    let (w, n, r, same) = c.requires.rooted in
    let hosts = c.args.hosts.now in
    let i = c.loop-host.host-index in
    subst (λ k. slice_index hosts i < k) (sym r.long) (subst (λ hs. slice_index hs i < w.nodes) same
    (host_below w n i (subst (λ hs. i < length hs) (sym same) c.loop-host-test.true)))

pub loop-host-preserved : goal.loop-host-preserved
loop-host-preserved c =
    let (w, n, r, same) = c.requires.rooted in
    let ps = c.args.rooted.now.positions.items in
    let hosts = c.args.hosts.now in
    let i = c.loop-host.host-index in
    let lt = c.loop-host-test.true in
    let xs = c.loop-host.next.items in
    let size = c.position-size.result.end in
    let place = c.position-place.result.place in
    let u = slice_index hosts i in
    let below : u < w.nodes = subst (λ hs. slice_index hs i < w.nodes) same
    (host_below w n i (subst (λ hs. i < length hs) (sym same) lt)) in
    let is : place ≡ (at ps u).place = ap (λ (q : Position). q.place) c.position-place.ensures in
    let most : (at ps u).place < (at ps 0).end = place_within w ps r u below in
    let end : size ≡ (at ps 0).end = c.loop-host.invariant.size in
    record {
      size = end;
      long = length-set xs c.from-in-loop-host.result place ∙ c.loop-host.invariant.long;
      marks = subst (λ k. MarksAt (places_of ps (take (i + 1) hosts)) size (slice_set xs k place)) (sym c.from-in-loop-host.ensures)
          (subst (λ ns. MarksAt ns size (slice_set xs place place))
          (ap (λ p. places_of ps (take i hosts) ++ p ∷ []) is ∙ sym (places_more ps hosts i lt))
          (mark_place (places_of ps (take i hosts)) size place xs c.loop-host.invariant.long (omega arith) c.loop-host.invariant.marks));
    }

pub returns-clause-marks : goal.returns-clause-marks
returns-clause-marks c =
    let ps = c.args.rooted.now.positions.items in
    let xs = c.loop-host.next.items in
    let inv = c.loop-host.invariant in
    subst (λ e. MarksAt (places_of ps c.args.hosts.now) e xs) inv.size
    (subst (λ hs. MarksAt (places_of ps hs) c.position-size.result.end xs)
    (take_all c.loop-host.host-index c.args.hosts.now c.loop-host-test.false) inv.marks)
