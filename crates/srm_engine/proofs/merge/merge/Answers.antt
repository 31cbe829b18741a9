use Rattle.std.proofs.Common.{rules, ◌≡◌, ◌∙◌, ◌+◌, ◌++◌, ◌<◌, ◌∷◌, drop, get_or, length, is_lt, sym, ap, subst, arith}
use Rattle.std.specs.Global.{Vec}
use Rattle.std.specs.Vec.{with_items}
use Rattle.std.proofs.lemmas.List.{get_or_default, with_items_is, drop_more, drop-set-lt, take_all}
use Rattle.srm_model.specs.World.{row_cmp}
use Rattle.srm_interfaces.specs.InTurn.{KeepInTurn}
use Rattle.srm_interfaces.specs.Grouped.{all_in}
use Rattle.srm_interfaces.proofs.GroupedLemmas.{all_in_more}
use Rattle.srm_engine.proofs.Merging.{merged_all, weak_order, in_turn_sorted}
use Rattle.srm_engine.proofs.WatchedLemmas.{as_large}
use Rattle.srm_engine.proofs.merge.merge.Goals as goal

pub returns-in_err-take_out-clause-each : goal.returns-in_err-take_out-clause-each
returns-in_err-take_out-clause-each c =
    let groups = c.loop-group.groups in
    let i = c.loop-group.group-index in
    let group = get_or groups i c.group-item.result in
    let new = c.take_out.new.group in
    let v = with_items group new in
    let as_many = c.loop-group.auto.groups in
    let test = c.loop-group-test.true in
    let lt : i < length groups = omega arith in
    let many = c.take_out.ensures.many ∙ ap length c.as_mut_slice.ensures.value in
    let held = group.ok.0 in
    as_large groups i v lt (ap length (with_items_is group new (omega arith)) ∙ many
    ∙ ap (λ (w : Vec _). length w.items) (get_or_default groups i c.group-item.result v lt)) ∙ c.loop-group.invariant.0

pub loop-group-preserved : goal.loop-group-preserved
loop-group-preserved c =
    let groups = c.loop-group.groups in
    let old = c.args.groups.now in
    let i = c.loop-group.group-index in
    let d = c.group-item.result in
    let group = get_or groups i d in
    let new = c.take_out.new.group in
    let v = with_items group new in
    let as_many = c.loop-group.auto.groups in
    let test = c.loop-group-test.true in
    let lt : i < length groups = omega arith in
    let before : i < length old = omega arith in
    let many = c.take_out.ensures.many ∙ ap length c.as_mut_slice.ensures.value in
    let held = group.ok.0 in
    let others : group ∷ drop (i + 1) groups ≡ get_or old i d ∷ drop (i + 1) old =
    sym (drop_more groups i d lt) ∙ c.loop-group.invariant.1 ∙ drop_more old i d before in
    let own : group ≡ get_or old i d = cc in
    let rest : drop (i + 1) groups ≡ drop (i + 1) old = cc in (
      as_large groups i v lt (ap length (with_items_is group new (omega arith)) ∙ many
          ∙ ap (λ (w : Vec _). length w.items) (get_or_default groups i d v lt)) ∙ c.loop-group.invariant.0,
      drop-set-lt (i + 1) groups i v (omega arith) ∙ rest,
      c.in_ok-take_out.ensures.moved
          ∙ ap (λ l. c.loop-group.lists.items ++ l) (c.as_mut_slice.ensures.value ∙ ap (λ (g : Vec _). g.items) own)
          ∙ ap (λ l. l ++ (get_or old i d).items) c.loop-group.invariant.2
          ∙ sym (all_in_more old i (get_or old i d) before (get_or_default old i d (get_or old i d) before)),
    )

pub returns-clause-rows : goal.returns-clause-rows
returns-clause-rows c rows turn =
    let lists = c.loop-group.lists.items in
    let whole : lists ≡ all_in c.args.groups.now =
    c.loop-group.invariant.2 ∙ ap all_in (take_all c.loop-group.group-index c.args.groups.now c.loop-group-test.false) in
    let are = subst (λ ls. KeepInTurn (λ (l : Vec _) own. l.items ≡ own) ls rows) (sym whole) turn in
    merged_all c.in_turn.result lists rows are c.in_turn.ensures.all
    (c.in_turn.ensures.in_order (λ x y. is_lt (row_cmp x y)) (search rules) weak_order (in_turn_sorted lists rows are))
