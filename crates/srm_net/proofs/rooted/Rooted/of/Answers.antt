use Rattle.std.proofs.Common.{◌≡◌, ◌∙◌, sym, ap, subst, refl, arith, ℕ, ◌+◌, ◌<◌, ◌≤◌, length, take, reverse, get_or, true, []}
use Rattle.std.proofs.Common.{slice_set, slice_index_or, ◌∷◌}
use Rattle.std.proofs.lemmas.List.{length-set, length-replicate, length-reverse, take_all}
use Rattle.srm_net.specs.Growth.{attached, place_in}
use Rattle.srm_net.specs.Network.{plain_network}
use Rattle.srm_net.specs.Paths.{is_in}
use Rattle.srm_net.specs.Rooting.{at, IsSubtree, IsPosition, IsRooted, IsInOrder, MayFollow, Follows}
use Rattle.srm_net.proofs.Growing.{all_attached, attached_below}
use Rattle.srm_net.proofs.NodeOrder.{in_places}
use Rattle.srm_net.proofs.Lists.{index_get, read_at}
use Rattle.srm_net.proofs.TreeWays.{no_step, reverse_more}
use Rattle.srm_net.proofs.Rootings.{place_apart, place_root, network_of, step_here}
use Rattle.srm_net.proofs.Rootings.{step_node, may_follow}
use Rattle.srm_net.proofs.Rootings.{jump_attached, step_position, root_position, root_with, each_alike, position_set, HasEnd, only_root}
use Rattle.srm_net.proofs.Subtrees.{subtree_of}
use Rattle.srm_net.proofs.rooted.Rooted.of.Goals as goal

pub subtree_ends-requires-clause-grows : goal.subtree_ends-requires-clause-grows
subtree_ends-requires-clause-grows c = (c.args.links.now, c.requires.tree, c.requires.grows)

pub index-end-requires : goal.index-end-requires
index-end-requires c =
    let w = plain_network c.args.nodes c.args.links.now [] in
    let b : (get_or c.args.steps.now c.loop-index.index no_step).node < c.args.nodes = step_node w c.requires.tree c.args.steps.now
    c.requires.grows c.requires.all c.loop-index.index c.loop-index-test.true in
    let long : length c.in_ok-ends.ends.items ≡ c.args.nodes = c.in_ok-ends.ensures.long in
    omega (arith, c.in_ok-ends.ends.ok.0)

pub loop-index-init : goal.loop-index-init
loop-index-init c =
    let w = plain_network c.args.nodes c.args.links.now [] in
    let items = c.in_ok-positions.ensures.items_if_clones_equal (λ y h. h) in
    let place = place_in (reverse c.args.steps.now) in
    let end = c.index-whole.result.now in
    let ends = c.in_ok-ends.ends.items in
    let some : 0 < c.from.result = omega (arith, c.requires.tree.some_nodes, c.from.ensures) in
    let first : place 0 ≡ 0 = place_root c.args.links.now (reverse c.args.steps.now) c.requires.grows in
    let root : at c.in_ok-positions.positions.items 0 ≡ root_with end =
    ap (λ ps. at ps 0) items ∙ each_alike c.from.result 0 (root_with end) some in
    let long : length ends ≡ c.args.nodes = c.in_ok-ends.ensures.long in
    let read : end ≡ slice_index_or ends 0 0 =
    read_at ends 0 0 end refl (omega (arith, c.requires.tree.some_nodes)) c.index-whole.ensures in
    record {
      long = ap length items ∙ length-replicate c.from.result (root_with end) ∙ c.from.ensures;
      told = λ u i. subst (λ y. IsPosition w place y (at c.in_ok-positions.positions.items y)) (only_root u i)
          (subst (IsPosition w place 0) (sym root) (root_position w place end c.requires.tree.some_nodes first));
      ended = λ u i. subst (λ y. HasEnd ends place y (at c.in_ok-positions.positions.items y)) (only_root u i)
          (subst (HasEnd ends place 0) (sym root) (record { is = read; under = λ h. absurd (omega arith) }));
    }

pub index-whole-requires : goal.index-whole-requires
index-whole-requires c =
    let long : length c.in_ok-ends.ends.items ≡ c.args.nodes = c.in_ok-ends.ensures.long in
    omega (arith, c.in_ok-ends.ends.ok.0, c.requires.tree.some_nodes)

pub attached_position-new-requires : goal.attached_position-new-requires
attached_position-new-requires c =
    let w = plain_network c.args.nodes c.args.links.now [] in
    subst (λ ps. MayFollow c.args.links.now ps (get_or c.args.steps.now c.loop-index.index no_step)) (sym c.as_slice.ensures.value)
    (may_follow w c.requires.tree c.args.steps.now c.requires.grows c.requires.all c.loop-index.index c.loop-index-test.true
    (network_of w c.requires.tree c.requires.delays refl) c.loop-index.positions.items c.loop-index.invariant.long
    c.loop-index.invariant.told)

pub index_mut-requires : goal.index_mut-requires
index_mut-requires c =
    let w = plain_network c.args.nodes c.args.links.now [] in
    let b : (get_or c.args.steps.now c.loop-index.index no_step).node < c.args.nodes = step_node w c.requires.tree c.args.steps.now
    c.requires.grows c.requires.all c.loop-index.index c.loop-index-test.true in
    let long : length c.loop-index.positions.items ≡ c.args.nodes = c.loop-index.invariant.long in
    omega (arith, c.loop-index.positions.ok.0)

pub loop-index-preserved : goal.loop-index-preserved
loop-index-preserved c =
    let steps = c.args.steps.now in
    let i = c.loop-index.index in
    let lt = c.loop-index-test.true in
    let t = c.requires.tree in
    let g = c.requires.grows in
    let w = plain_network c.args.nodes c.args.links.now [] in
    let place = place_in (reverse steps) in
    let ps = c.loop-index.positions.items in
    let s = get_or steps i no_step in
    let above = at ps s.parent in
    let inv = c.loop-index.invariant in
    let a = step_here w t steps g c.requires.all i lt in
    let ends = c.in_ok-ends.ends.items in
    let ended : length ends ≡ c.args.nodes = c.in_ok-ends.ensures.long in
    let node : s.node < c.args.nodes = step_node w t steps g c.requires.all i lt in
    let new = c.attached_position-new.result in
    let end = c.index-end.result.now in
    let f : Follows c.args.links.now (i + 1) end s above (at ps above.jump) new =
    subst (λ qs. Follows c.args.links.now (i + 1) end s (at qs s.parent) (at qs (at qs s.parent).jump) new) c.as_slice.ensures.value
    c.attached_position-new.ensures in
    let read : end ≡ slice_index_or ends s.node 0 = read_at ends c.from-in-loop-index.result s.node end c.from-in-loop-index.ensures
    (omega arith) c.index-end.ensures in
    let all : length (reverse steps) + 1 ≡ c.args.nodes = (let k = length-reverse steps in let h = c.requires.all in omega arith) in
    let stands = index_get steps i no_step lt in
    let p = inv.told s.parent a.parent in
    let here : IsPosition w place s.node new = step_position w t steps g c.requires.all i lt end above (at ps above.jump) new
    (subst (IsSubtree w place s.node s.link) (sym read)
    (subtree_of w t (reverse steps) g all s (slice_index_or ends s.node 0) (c.in_ok-ends.ensures.ends.spans i s stands)))
    p (inv.told above.jump (jump_attached w t steps g c.requires.all i lt above p)) f in
    let ending : HasEnd ends place s.node new = record {
      is = f.end_is ∙ read;
      under = λ _. subst (λ v. slice_index_or ends s.node 0 ≤ slice_index_or ends v 0) (sym f.parent_is)
          (c.in_ok-ends.ensures.ends.nested i s stands);
    } in
    let within : s.node < length ps = subst (λ n. s.node < n) (sym inv.long) node in
    let more : reverse (take (i + 1) steps) ≡ s ∷ reverse (take i steps) = reverse_more steps i no_step lt in
    record {
      long = length-set ps c.from-in-loop-index-2.result new ∙ inv.long;
      told = λ u h. subst (λ n. IsPosition w place u (at (slice_set ps n new) u)) (sym c.from-in-loop-index-2.ensures)
          (position_set (IsPosition w place) (reverse (take i steps)) s ps new a.node within inv.told here u
          (subst (λ ts. is_in (attached ts) u ≡ true) more h));
      ended = λ u h. subst (λ n. HasEnd ends place u (at (slice_set ps n new) u)) (sym c.from-in-loop-index-2.ensures)
          (position_set (HasEnd ends place) (reverse (take i steps)) s ps new a.node within inv.ended ending u
          (subst (λ ts. is_in (attached ts) u ≡ true) more h));
    }

pub returns : goal.returns
returns c =
    let links = c.args.links.now in
    let steps = c.args.steps.now in
    let w = plain_network c.args.nodes links [] in
    let t = c.requires.tree in
    let all : length (reverse steps) + 1 ≡ c.args.nodes = (let k = length-reverse steps in let h = c.requires.all in omega arith) in
    let inside : (u : ℕ) → u < c.args.nodes → is_in (attached (reverse steps)) u ≡ true =
    λ u h. all_attached c.args.nodes links (reverse steps) t.some_nodes t.ends c.requires.grows all u h in
    let whole : take c.loop-index.index steps ≡ steps = take_all c.loop-index.index steps c.loop-index-test.false in
    let place = place_in (reverse steps) in
    let ps = c.loop-index.positions.items in
    let ends = c.in_ok-ends.ends.items in
    let told : (u : ℕ) → u < c.args.nodes → IsPosition w place u (at ps u) =
    λ u hu. c.loop-index.invariant.told u (subst (λ ts. is_in (attached (reverse ts)) u ≡ true) (sym whole) (inside u hu)) in
    let ended : (u : ℕ) → u < c.args.nodes → HasEnd ends place u (at ps u) =
    λ u hu. c.loop-index.invariant.ended u (subst (λ ts. is_in (attached (reverse ts)) u ≡ true) (sym whole) (inside u hu)) in
    let rooted : IsRooted w ps = record {
      tree = t;
      place = place;
      root = place_root links (reverse steps) c.requires.grows;
      apart = λ u v hu hv e. place_apart (reverse steps) u v (inside u hu) (inside v hv) e;
      long = c.loop-index.invariant.long;
      each = told;
      whole = λ x hx. subst (λ n. place x < n) (sym (ended 0 t.some_nodes).is) (c.in_ok-ends.ensures.ends.root x (inside x hx));
      nested = λ u hu h.
          let up = (told u hu).parent h in
          let a : (at ps u).end ≡ slice_index_or ends u 0 = (ended u hu).is in
          let b : slice_index_or ends u 0 ≤ slice_index_or ends (at ps u).parent 0 = (ended u hu).under h in
          let d : (at ps (at ps u).parent).end ≡ slice_index_or ends (at ps u).parent 0 = (ended (at ps u).parent up.node).is in
          omega arith;
    } in
    let order : IsInOrder w ps (reverse (attached (reverse steps))) = in_places w ps links (reverse steps) c.requires.grows inside
    (attached_below c.args.nodes links (reverse steps) t.some_nodes t.ends c.requires.grows) (λ u hu. (told u hu).place_is) in
    record { rooted = rooted; order = subst (IsInOrder w ps) (sym c.in_ok-order.ensures) order }
