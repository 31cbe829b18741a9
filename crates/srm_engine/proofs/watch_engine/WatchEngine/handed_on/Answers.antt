use Rattle.std.proofs.Common.{All, [], sym, subst, arith}
use Rattle.std.specs.Vec.{with_items}
use Rattle.std.proofs.lemmas.List.{with_items_is}
use Rattle.srm_engine.specs.Groups.{all_in}
use Rattle.srm_interfaces.proofs.WatchLemmas.{none_kept}
use Rattle.srm_engine.proofs.watch_engine.WatchEngine.handed_on.Goals as goal

pub returns-clause-none : goal.returns-clause-none
returns-clause-none g c =
    let left = with_items c.args.self.kept c.kept.new.groups in
    let new = c.clear_each.new.groups in
    let held = left.ok.0 in
    let long = c.as_mut_slice-2.ensures.len in
    let still = c.clear_each.auto.groups in
    none_kept (g.W.Watch.keeps c.args.watch.now) 0 _
    (subst (λ gs. All (λ k. g.W.Watch.keeps c.args.watch.now k []) (all_in gs)) (sym (with_items_is left new (omega arith)))
    c.clear_each.ensures.none)
