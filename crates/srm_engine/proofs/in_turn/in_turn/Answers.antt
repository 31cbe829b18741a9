use Rattle.std.proofs.Common.{map, Vec, IfOk, IsPermutation, All, subst}
use Rattle.std.specs.Vec.Iter.{into_iter_steps}
use Rattle.std.specs.List.Sorted.{IsSortedBy}
use Rattle.srm_engine.proofs.Sources.{sources, at_items, all_collected, collected_in_order, joined_all, of_last}
use Rattle.srm_engine.proofs.in_turn.in_turn.Goals as goal

pub returns-then-len-gt1-clause-all : goal.returns-then-len-gt1-clause-all
returns-then-len-gt1-clause-all g c =
    let lists = map (λ (l : Vec _ _). l.items) c.args.lists.items in
    let m = c.in_ok-kmerge_by.field-0 in
    subst (λ l. IfOk c.collect_vec.result (λ (all : Vec _ _). IsPermutation l all.items)) (joined_all c.args.lists.items)
    (all_collected into_iter_steps g.F.MergePredicate.computes m lists c.collect_vec.result c.collect_vec.ensures.runs
    (at_items c.args.lists.items c.into_iter.result _ c.into_iter.ensures.rest c.into_iter.ensures.runs c.in_ok-kmerge_by.ensures.items
    lists (sources _ (λ v j gives. gives.0) c.args.lists.items)))

pub returns-then-len-gt1-clause-in_order : goal.returns-then-len-gt1-clause-in_order
returns-then-len-gt1-clause-in_order g c = λ lt computes weak sorted.
    let lists = map (λ (l : Vec _ _). l.items) c.args.lists.items in
    let m = c.in_ok-kmerge_by.field-0 in
    collected_in_order into_iter_steps g.F.MergePredicate.computes m lt c.collect_vec.result c.collect_vec.ensures.runs
    (at_items c.args.lists.items c.into_iter.result _ c.into_iter.ensures.rest c.into_iter.ensures.runs c.in_ok-kmerge_by.ensures.in_order
    lt computes weak lists (sources _ (λ v j gives. gives.0) c.args.lists.items) sorted)

pub returns-in-Some-clause-in_order : goal.returns-in-Some-clause-in_order
returns-in-Some-clause-in_order g c = λ lt computes weak sorted.
    of_last (IsSortedBy lt) c.pop.new.self.items c.in-Some.only
    (subst (λ vs. All (IsSortedBy lt) (map (λ (l : Vec _ _). l.items) vs)) c.in-Some.ensures.items sorted)
