use Rattle.std.proofs.Common.{◌≡◌, ◌∙◌, ◌++◌, ◌∷◌, [], sym, ap, arith, length, get_or, take_all}
use Rattle.std.proofs.lemmas.List.{length-map, take_more}
use Rattle.std.specs.Global.{Vec}
use Rattle.srm_scenario.proofs.Members.{few_members}
use Rattle.srm_cell.specs.declared.cell.Cell.{Cell}
use Rattle.srm_cell.specs.Jobs.{own_cells}
use Rattle.srm_engine.specs.Starts.{setting_on}
use Rattle.srm_engine.specs.Soonest.{soon_in, soonest_of}
use Rattle.srm_engine.proofs.SoonGroups.{looked_at, group_within}
use Rattle.srm_engine.proofs.soonest.soonest_of_each.Goals as goal

pub overflow_mul-index : goal.overflow_mul-index
overflow_mul-index g c =
    let at = group_within c.args.cut c.args.groups.now c.loop-index.index c.index-groups-index.result c.requires.cut c.requires.cuts
    c.loop-index-test.true in
    let within = at.within in
    let few = few_members c.args.session.scenario.now c.until-until.ensures.accepted in
    let members = c.requires.members in
    omega arith

pub soonest_in-requires-clause-members : goal.soonest_in-requires-clause-members
soonest_in-requires-clause-members g c =
    let group = c.index-groups-index.result in
    let at = group_within c.args.cut c.args.groups.now c.loop-index.index group c.requires.cut c.requires.cuts c.loop-index-test.true in
    let within = at.within in
    let members = c.requires.members in
    let own : length c.as_slice.result.now ≡ length (get_or c.args.groups.now c.loop-index.index group).items =
    ap length c.as_slice.ensures.value ∙ ap (λ v. length v.items) c.index-groups-index.is in
    omega arith

pub soonest_in-requires-clause-few : goal.soonest_in-requires-clause-few
soonest_in-requires-clause-few g c = let few = few_members c.args.session.scenario.now c.until-until.ensures.accepted in omega arith

pub loop-index-preserved : goal.loop-index-preserved
loop-index-preserved g c = λ seed h.
    let f = g.M.Participant.plain in
    let s = setting_on c.args.session seed in
    let k = c.loop-index.index in
    let gs = c.args.groups.now in
    let y = c.soonest_in.result in
    let here = looked_at f s c.args.cut gs k c.index-groups-index.result c.as_slice.result.now y c.requires.cut h c.loop-index-test.true
    c.index-groups-index.is c.as_slice.ensures.value (c.soonest_in.ensures seed) in
    let within = length-map gs (λ (v : Vec (Cell _)). soonest_of s (own_cells f v.items)) in
    let lt = c.loop-index-test.true in
    c.in_ok-push.ensures.items
    ∙ (λ i. c.loop-index.invariant seed h i ++ here i ∷ [])
    ∙ sym (take_more (soon_in f s gs) k y (omega (arith, within, lt)))

pub returns : goal.returns
returns g c = λ seed h.
    let f = g.M.Participant.plain in
    let s = setting_on c.args.session seed in
    let gs = c.args.groups.now in
    let past = c.loop-index-test.false in
    let within = length-map gs (λ (v : Vec (Cell _)). soonest_of s (own_cells f v.items)) in
    c.loop-index.invariant seed h ∙ take_all c.loop-index.index (soon_in f s gs) (omega (arith, within, past))
