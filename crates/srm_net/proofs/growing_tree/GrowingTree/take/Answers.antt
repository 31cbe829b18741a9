use Rattle.std.proofs.Common.{◌∙◌, ◌<◌, ◌∷◌, [], true, sym, ap, subst, arith, length, reverse, slice_set}
use Rattle.std.proofs.lemmas.List.{length-set, length-reverse, reverse-append, length_push}
use Rattle.srm_net.specs.Waiting.{IsGrowing}
use Rattle.srm_net.proofs.Waits.{next_below, next_mark, growing_skip, growing_more, fewer_left}
use Rattle.srm_net.proofs.growing_tree.GrowingTree.take.Goals as goal

pub index-requires : goal.index-requires
index-requires c =
    let (nodes, told, g) = c.requires in
    let below = next_below nodes _ _ _ _ _ g in
    let long = g.long in
    omega (arith, c.args.self.now.known.ok.0, c.from.ensures)

pub returns-then-index-clause-growing : goal.returns-then-index-clause-growing
returns-then-index-clause-growing c nodes g =
    growing_skip nodes _ _ _ _ _ g (next_mark nodes _ _ _ _ _ g _ _ c.from.ensures c.index.ensures ∙ c.if-index.true)

pub index_mut-requires : goal.index_mut-requires
index_mut-requires c =
    let (nodes, told, g) = c.requires in
    let below = next_below nodes _ _ _ _ _ g in
    let long = g.long in
    omega (arith, c.args.self.now.known.ok.0, c.from-2.ensures)

pub push_steps-requires-clause-node : goal.push_steps-requires-clause-node
push_steps-requires-clause-node c =
    let (nodes, told, g) = c.requires in
    subst (λ n. c.args.step.node < n)
    (sym (ap length c.as_slice.ensures.value ∙ length-set c.args.self.now.known.items c.from-2.result true ∙ g.long))
    (next_below nodes _ _ _ _ _ g)

pub returns-clause-growing : goal.returns-clause-growing
returns-clause-growing c nodes g =
    let links = c.args.links.now in
    let all = c.push_steps.new.pending.items in
    let steps = ap reverse c.in_ok-push.ensures.items ∙ reverse-append c.args.self.now.steps.items (c.args.step ∷ []) in
    let marks = c.as_slice.ensures.value ∙ ap (λ n. slice_set c.args.self.now.known.items n true) c.from-2.ensures in
    let not = next_mark nodes _ _ _ _ _ g _ _ c.from.ensures c.index.ensures ∙ c.if-index.false in
    subst (λ ks. IsGrowing nodes links ks (reverse c.push.new.self.items) all) c.as_slice.ensures.value
    (subst (λ ts. IsGrowing nodes links c.as_slice.result.now ts all) (sym steps)
    (growing_more nodes _ _ _ _ _ g not _ _ marks c.in_ok-push_steps.ensures))

pub returns-clause-fewer : goal.returns-clause-fewer
returns-clause-fewer c nodes g =
    let steps = c.args.self.now.steps.items in
    let marks = c.as_slice.ensures.value ∙ ap (λ n. slice_set c.args.self.now.known.items n true) c.from-2.ensures in
    let not = next_mark nodes _ _ _ _ _ g _ _ c.from.ensures c.index.ensures ∙ c.if-index.false in
    fewer_left nodes _ _ _ _ _ g not _ _ marks c.in_ok-push_steps.ensures steps c.push.new.self.items (sym (length-reverse steps))
    (ap length c.in_ok-push.ensures.items ∙ length_push steps c.args.step)
