use Rattle.std.proofs.Common.{◌≡◌, ◌∙◌, ◌<◌, [], All, length, get_or, ap, sym, subst, arith}
use Rattle.std.specs.Global.{Vec}
use Rattle.std.specs.Vec.{with_items}
use Rattle.std.proofs.lemmas.List.{get_or_default, with_items_is}
use Rattle.srm_engine.proofs.WatchedLemmas.{group_done}
use Rattle.srm_engine.proofs.watched_groups.clear_each.Goals as goal

pub loop-group-preserved : goal.loop-group-preserved
loop-group-preserved g c =
    let groups = c.loop-group.groups in
    let i = c.loop-group.group-index in
    let group = get_or groups i c.group-item.result in
    let new = c.clear_group.new.group in
    let v = with_items group new in
    let as_many = c.loop-group.auto.groups in
    let test = c.loop-group-test.true in
    let lt : i < length groups = omega arith in
    let many = c.clear_group.ensures.many ∙ ap length c.as_mut_slice.ensures.value in
    let held = group.ok.0 in
    let same : v.items ≡ new = with_items_is group new (omega arith) in
    let done = group_done (λ k. g.W.Watch.keeps c.args.watch.now k []) groups i v lt
    (ap length same ∙ many ∙ ap (λ (w : Vec _). length w.items) (get_or_default groups i c.group-item.result v lt))
    c.loop-group.invariant.1
    (subst (All (λ k. g.W.Watch.keeps c.args.watch.now k [])) (sym same) c.clear_group.ensures.none) in
    (done.0 ∙ c.loop-group.invariant.0, done.1)
