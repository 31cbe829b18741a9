use Rattle.std.proofs.Common.{◌≡◌, ◌∙◌, sym, ap, subst, arith, ◌+◌, ◌-◌, ◌<◌, [], length, max, slice_set}
use Rattle.std.proofs.lemmas.List.{length-replicate, length-set}
use Rattle.srm_net.specs.Network.{plain_network}
use Rattle.srm_net.proofs.Lists.{read_at}
use Rattle.srm_net.proofs.Rootings.{step_node, step_parent}
use Rattle.srm_net.proofs.Subtrees.{EndsFrom, step_at, end_at, ends_none, ends_more, told_ends}
use Rattle.srm_net.proofs.rooted.subtree_ends.Goals as goal

pub loop-index-init : goal.loop-index-init
loop-index-init c =
    let items = c.in_ok-ends.ensures.items_if_clones_equal (λ y h. h) in
    let size : length c.in_ok-ends.ends.items ≡ c.from.result = ap length items ∙ length-replicate c.from.result 0 in
    record {
      long = length-set c.in_ok-ends.ends.items 0 1 ∙ size ∙ c.from.ensures;
      told = ends_none c.requires.grows.0 c.args.steps.now c.requires.grows.2 c.from.result c.in_ok-ends.ends.items
          (omega (arith, c.requires.all, c.from.ensures)) items;
    }

pub index_mut-requires : goal.index_mut-requires
index_mut-requires c =
    let items = c.in_ok-ends.ensures.items_if_clones_equal (λ y h. h) in
    let size : length c.in_ok-ends.ends.items ≡ c.from.result = ap length items ∙ length-replicate c.from.result 0 in
    omega (arith, c.in_ok-ends.ends.ok.0, c.requires.all, c.from.ensures)

pub index-requires : goal.index-requires
index-requires c =
    let h = c.requires.grows in
    let steps = c.args.steps.now in
    let i = c.loop-index.index - 1 in
    let lt : i < length steps = omega (arith, c.loop-index.auto.index, c.loop-index-test.true) in
    let b : (step_at steps i).node < c.args.nodes = step_node (plain_network c.args.nodes h.0 []) h.1 steps h.2 c.requires.all i lt in
    let long : length c.loop-index.ends.items ≡ c.args.nodes = c.loop-index.invariant.long in
    omega (arith, c.loop-index.ends.ok.0, c.from-in-loop-index.ensures)

pub index_mut-requires-in-loop-index : goal.index_mut-requires-in-loop-index
index_mut-requires-in-loop-index c =
    let h = c.requires.grows in
    let steps = c.args.steps.now in
    let i = c.loop-index.index - 1 in
    let lt : i < length steps = omega (arith, c.loop-index.auto.index, c.loop-index-test.true) in
    let b : (step_at steps i).node < c.args.nodes = step_node (plain_network c.args.nodes h.0 []) h.1 steps h.2 c.requires.all i lt in
    let long : length c.loop-index.ends.items ≡ c.args.nodes = c.loop-index.invariant.long in
    omega (arith, c.loop-index.ends.ok.0, c.from-in-loop-index-2.ensures)

pub index-requires-in-loop-index : goal.index-requires-in-loop-index
index-requires-in-loop-index c =
    let h = c.requires.grows in
    let steps = c.args.steps.now in
    let i = c.loop-index.index - 1 in
    let lt : i < length steps = omega (arith, c.loop-index.auto.index, c.loop-index-test.true) in
    let b : (step_at steps i).parent < c.args.nodes = step_parent (plain_network c.args.nodes h.0 []) h.1 steps h.2 c.requires.all i lt in
    let long : length c.loop-index.ends.items ≡ c.args.nodes = c.loop-index.invariant.long in
    omega (arith, c.loop-index.ends.ok.0, c.from-in-loop-index-3.ensures)

pub index_mut-requires-in-loop-index-2 : goal.index_mut-requires-in-loop-index-2
index_mut-requires-in-loop-index-2 c =
    let h = c.requires.grows in
    let steps = c.args.steps.now in
    let i = c.loop-index.index - 1 in
    let lt : i < length steps = omega (arith, c.loop-index.auto.index, c.loop-index-test.true) in
    let b : (step_at steps i).parent < c.args.nodes = step_parent (plain_network c.args.nodes h.0 []) h.1 steps h.2 c.requires.all i lt in
    let long : length c.loop-index.ends.items ≡ c.args.nodes = c.loop-index.invariant.long in
    omega (arith, c.loop-index.ends.ok.0, c.from-in-loop-index-4.ensures)

pub loop-index-preserved : goal.loop-index-preserved
loop-index-preserved c =
    let h = c.requires.grows in
    let steps = c.args.steps.now in
    let ends = c.loop-index.ends.items in
    let i = c.loop-index.index - 1 in
    let s = step_at steps i in
    let own = c.max-own.result in
    let top = c.max-above.result in
    let inv = c.loop-index.invariant in
    let w = plain_network c.args.nodes h.0 [] in
    let lt : i < length steps = omega (arith, c.loop-index.auto.index, c.loop-index-test.true) in
    let next : c.loop-index.index ≡ i + 1 = omega (arith, c.loop-index-test.true) in
    let long : length ends ≡ c.args.nodes = inv.long in
    let bn : s.node < c.args.nodes = step_node w h.1 steps h.2 c.requires.all i lt in
    let bp : s.parent < c.args.nodes = step_parent w h.1 steps h.2 c.requires.all i lt in
    let hn : s.node < length ends = omega arith in
    let hp : s.parent < length ends = omega arith in
    let n1 = c.from-in-loop-index-2.result in
    let same : length (slice_set ends n1 own) ≡ length ends = length-set ends n1 own in
    let old : EndsFrom steps (i + 1) ends = subst (λ n. EndsFrom steps n ends) next inv.told in
    let eo : own ≡ max (end_at ends s.node) (i + 2) =
    c.max-own.ensures ∙ ap (λ n. max n (i + 2)) (read_at ends c.from-in-loop-index.result s.node c.index.result.now
    c.from-in-loop-index.ensures hn c.index.ensures) in
    let et : top ≡ max (end_at (slice_set ends s.node own) s.parent) own =
    c.max-above.ensures ∙ ap (λ n. max n own) (read_at (slice_set ends n1 own) c.from-in-loop-index-3.result s.parent
    c.index-in-loop-index.result.now c.from-in-loop-index-3.ensures (omega arith) c.index-in-loop-index.ensures
    ∙ ap (λ n. end_at (slice_set ends n own) s.parent) c.from-in-loop-index-2.ensures) in
    record {
      long = length-set (slice_set ends n1 own) c.from-in-loop-index-4.result top ∙ same ∙ long;
      told = subst (λ n. EndsFrom steps i (slice_set (slice_set ends n own) c.from-in-loop-index-4.result top))
          (sym c.from-in-loop-index-2.ensures)
          (subst (λ n. EndsFrom steps i (slice_set (slice_set ends s.node own) n top)) (sym c.from-in-loop-index-4.ensures)
          (ends_more h.0 steps h.2 i lt ends hn hp old own top eo et));
    }

pub returns-clause-ends : goal.returns-clause-ends
returns-clause-ends c =
    let h = c.requires.grows in
    let steps = c.args.steps.now in
    let ends = c.loop-index.ends.items in
    let none : c.loop-index.index ≡ 0 = omega (arith, c.loop-index-test.false) in
    let told : EndsFrom steps 0 ends = subst (λ n. EndsFrom steps n ends) none c.loop-index.invariant.told in
    told_ends h.0 steps ends h.2 c.requires.preorder told
