use Rattle.std.proofs.Common.{◌∙◌, [], All, sym, subst}
use Rattle.std.proofs.lemmas.List.{with_items_is}
use Rattle.srm_interfaces.specs.Watches.{KeepMembers}
use Rattle.srm_interfaces.proofs.WatchLemmas.{none_kept}
use Rattle.srm_interfaces.proofs.keeping.kept_of.Goals as goal

pub returns-clause-kept : goal.returns-clause-kept
returns-clause-kept g c =
    let keeps = g.W.Watch.keeps c.args.watch.now in
    let none = subst (All (λ k. keeps k [])) (sym c.as_mut_slice.ensures.value) c.in_ok-kept.ensures.none in
    subst (λ l. KeepMembers keeps 0 l c.args.rows.now)
    (sym (with_items_is c.in_ok-kept.kept c.take_rows.new.kept (c.in_ok-take_rows.ensures.long ∙ c.as_mut_slice.ensures.len)))
    (c.in_ok-take_rows.ensures.kept [] (none_kept keeps 0 c.as_mut_slice.result.now none))
