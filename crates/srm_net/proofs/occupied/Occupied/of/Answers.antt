use Rattle.std.proofs.Common.{◌≡◌, ◌∙◌, ◌+◌, ◌-◌, ◌<◌, ◌≤◌, cond, refl, sym, subst, inl, inr, arith, length, slice_index, slice_set}
use Rattle.std.proofs.lemmas.Bool.{cases_eq}
use Rattle.std.proofs.lemmas.List.{length-set, get_or-set_same, get_or-set_other}
use Rattle.srm_net.specs.Occupancy.{places_of, IsNextFree, TellsNext}
use Rattle.srm_net.specs.Paths.{is_in}
use Rattle.srm_net.specs.Rooting.{at}
use Rattle.srm_net.proofs.Lists.{read_at}
use Rattle.srm_net.proofs.OccupiedLemmas.{next_before, member_at, place_within}
use Rattle.srm_net.proofs.PathLaws.{host_below}
use Rattle.srm_net.proofs.occupied.Occupied.of.Goals as goal

pub position-size-requires : goal.position-size-requires
position-size-requires c = let (w, n, r, same) = c.requires.rooted in subst (λ k. 0 < k) (sym r.long) r.tree.some_nodes

pub loop-index-preserved : goal.loop-index-preserved
loop-index-preserved c =
    let places = places_of c.args.rooted.now.positions.items c.args.hosts.now in
    let i = c.loop-index.index - 1 in
    let xs = c.loop-index.next.items in
    let size = c.position-size.result.end in
    let first = c.min-first.result in
    let inv = c.loop-index.invariant in
    let next : c.loop-index.index ≡ i + 1 = omega (arith, c.loop-index-test.true) in
    let most : c.loop-index.index ≤ size = omega (arith, c.loop-index.auto.index, c.from-index.ensures) in
    let lt : i < size = omega arith in
    let long : length xs ≡ size + 1 = inv.long in
    let own : c.index.result.now ≡ cond (is_in places i) i size = read_at xs i i c.index.result.now refl (omega arith) c.index.ensures
    ∙ inv.marks i (omega arith) in
    let later : IsNextFree places size (i + 1) c.index-in-loop-index.result.now =
    subst (IsNextFree places size (i + 1)) (sym (read_at xs (i + 1) (i + 1) c.index-in-loop-index.result.now refl (omega arith)
    c.index-in-loop-index.ensures)) (inv.told (i + 1) (omega arith) (omega arith)) in
    let here : IsNextFree places size i first =
    next_before places size i c.index.result.now c.index-in-loop-index.result.now first lt own later
    c.min-first.ensures in
    record {
      size = inv.size;
      long = length-set xs i first ∙ long;
      marks = λ j h. get_or-set_other xs i j first 0 (omega arith) ∙ inv.marks j (omega arith);
      told = λ j a b. elim (cases_eq i j) [
        | inl e ↦ subst (λ k. IsNextFree places size k (slice_index (slice_set xs i first) k)) e
            (subst (IsNextFree places size i) (sym (get_or-set_same xs i first 0 (omega arith))) here)
        | inr d ↦ subst (IsNextFree places size j) (sym (get_or-set_other xs i j first 0 (λ e. d (sym e))))
            (inv.told j (omega arith) b)
      ];
    }

pub returns : goal.returns
returns c w n r same =
    let ps = c.args.rooted.now.positions.items in
    let hosts = c.args.hosts.now in
    let size = c.position-size.result.end in
    let inv = c.loop-index.invariant in
    let end : size ≡ (at ps 0).end = inv.size in
    let none : c.loop-index.index ≡ 0 = omega (arith, c.loop-index-test.false) in
    let told : TellsNext (places_of ps hosts) size c.loop-index.next.items = record {
      long = inv.long;
      below = λ p i.
          let m = member_at ps hosts p i in
          let is : (at ps (slice_index hosts m.0)).place ≡ p = m.2 in
          let below : slice_index hosts m.0 < w.nodes = subst (λ hs. slice_index hs m.0 < w.nodes) same
          (host_below w n m.0 (subst (λ hs. m.0 < length hs) (sym same) m.1)) in
          let most : (at ps (slice_index hosts m.0)).place < (at ps 0).end = place_within w ps r (slice_index hosts m.0) below in
          omega arith;
      each = λ i h. inv.told i (omega arith) h;
    } in
    record {
      network = n;
      rooted = r;
      size = end;
      told = subst (λ hs. TellsNext (places_of ps hs) size c.loop-index.next.items) (sym same) told;
    }
