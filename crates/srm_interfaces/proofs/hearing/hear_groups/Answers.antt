use Rattle.std.proofs.Common.{◌≡◌, ◌∙◌, [], length, sym, subst, arith}
use Rattle.std.proofs.lemmas.Grind.{common_steps}
use Rattle.std.proofs.lemmas.List.{with_items_is}
use Rattle.std.proofs.lemmas.List.Elements.{All-head, All-tail, length_all_zip}
use Rattle.std.specs.Global.{Vec}
use Rattle.std.specs.Vec.{with_items}
use Rattle.std.specs.Vec.Iter.{into_iter_items}
use Rattle.srm_cell.specs.declared.cell.Cell.{Cell}
use Rattle.srm_cell.specs.Setting.{traffic_of}
use Rattle.srm_cell.specs.Hearing.{packets_in, HearsAll, AllMayHear, EachHearsAll}
use Rattle.srm_interfaces.proofs.Zips.{zip_none, zip_more, zip_all}
use Rattle.srm_interfaces.proofs.hearing.hear_groups.Goals as goal

pub loop-group-init : goal.loop-group-init
loop-group-init g c = (
  tt,
  tt,
  rw c.into_iter-group-iterator.ensures.into_iter_gives.0 c.requires.groups,
  zip_none _ _ _ _ c.into_iter-group-iterator.ensures.into_iter_gives.0 c.new-heard.ensures.items,
)

pub hear_each-requires-clause-new : goal.hear_each-requires-clause-new
hear_each-requires-clause-new g c =
    let t = traffic_of c.args.session.scenario.now c.args.session.net.now in
    let ps = packets_in c.args.sent.now in
    subst (AllMayHear g.M.Participant.plain t ps) (sym c.as_mut_slice.ensures.value)
    (All-head (λ (a : Vec (Cell _)). AllMayHear g.M.Participant.plain t ps a.items) _ _
    (rw c.in-Some.ensures.steps.0 at c.loop-group.invariant.2))

pub loop-group-preserved : goal.loop-group-preserved
loop-group-preserved g c =
    let t = traffic_of c.args.session.scenario.now c.args.session.net.now in
    let ps = packets_in c.args.sent.now in
    let own = c.in-Some.group in
    let new = c.hear_each.new.cells in
    let told = c.in_ok-hear_each.ensures in
    let long : length new ≡ length c.as_mut_slice.result.now =
    sym (length_all_zip (λ (x y : Cell _). HearsAll g.M.Participant.plain t ps x y) c.as_mut_slice.result.now new told) in
    let hears : EachHearsAll g.M.Participant.plain t ps own.items (with_items own new).items =
    subst (λ l. EachHearsAll g.M.Participant.plain t ps own.items l) (sym (with_items_is own new (long ∙ c.as_mut_slice.ensures.len)))
    (subst (λ l. EachHearsAll g.M.Participant.plain t ps l new) c.as_mut_slice.ensures.value told) in (
      tt,
      tt,
      All-tail (λ (a : Vec (Cell _)). AllMayHear g.M.Participant.plain t ps a.items) _ _
          (rw c.in-Some.ensures.steps.0 at c.loop-group.invariant.2),
      zip_more _ _ _ _ _ own (with_items own new) (rw c.in-Some.ensures.steps.0 at c.loop-group.invariant.3) hears
          c.in_ok-push.ensures.items,
    )

pub returns : goal.returns
returns g c =
    let ok = c.loop-group.group-iterator.rest.ok in
    let none : into_iter_items c.loop-group.group-iterator ≡ [] = grind (arith, common_steps) in
    zip_all _ _ _ _ c.loop-group.invariant.3 none
