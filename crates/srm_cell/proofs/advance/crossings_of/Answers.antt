use Rattle.std.proofs.Common.{◌≡◌, ◌<◌, subst, List, ap, ◌∙◌, ◌++◌, length, take, arith}
use Rattle.std.proofs.Math.Seq.{take-length}
use Rattle.srm_ledger.specs.Counts.{nothing_at}
use Rattle.srm_member.specs.declared.row.Row.{Row}
use Rattle.srm_cell.specs.Setting.{traffic_of}
use Rattle.srm_cell.specs.Crossings.{packets_of, joined}
use Rattle.srm_cell.specs.Totalled.{numbers_of}
use Rattle.srm_cell.proofs.Pushes.{if_err}
use Rattle.srm_cell.proofs.RowPackets.{some_in_list, one_more_list, few_in_list, nothing_counted, numbers_are}
use Rattle.srm_cell.proofs.advance.crossings_of.Goals as goal

pub loop-rows-init : goal.loop-rows-init
loop-rows-init c = c.none-crossings.ensures ∙ ap (λ ls. nothing_at (length ls)) c.links.ensures.links
    ∙ nothing_counted (traffic_of c.args.scenario.now c.args.net.now)

pub count_rows-requires-clause-room : goal.count_rows-requires-clause-room
count_rows-requires-clause-room c =
    let i = c.loop-rows.rows-index in
    let few = few_in_list c.args.lists.now i c.rows-item.result c.loop-rows-test.true c.rows-item.is in
    let all = c.requires.few in
    let same : length (packets_of c.as_slice.result.now) ≡ length (packets_of c.rows-item.result) =
    ap (λ rs. length (packets_of rs)) c.as_slice.ensures in
    (packets_of (joined (take i c.args.lists.now)), omega (arith, few, all, same), c.loop-rows.invariant)

pub loop-rows-preserved : goal.loop-rows-preserved
loop-rows-preserved c =
    let s = traffic_of c.args.scenario.now c.args.net.now in
    let i = c.loop-rows.rows-index in
    let ps = packets_of (joined (take i c.args.lists.now)) in
    c.in_ok-count_rows.ensures.counted ps c.loop-rows.invariant
    ∙ ap (numbers_of s) (ap (λ rs. ps ++ packets_of rs) c.as_slice.ensures
    ∙ one_more_list c.args.lists.now i c.rows-item.result c.loop-rows-test.true c.rows-item.is)

pub returns-in_err-count_rows-clause-asked : goal.returns-in_err-count_rows-clause-asked
returns-in_err-count_rows-clause-asked c =
    let some = c.in_err-count_rows.ensures.asked in
    if_err c.from_residual.result _ (some_in_list c.args.lists.now c.loop-rows.rows-index c.rows-item.result c.loop-rows-test.true
    c.rows-item.is
    (subst (λ (rs : List Row). 0 < length (packets_of rs)) c.as_slice.ensures some))

pub returns-clause-counted : goal.returns-clause-counted
returns-clause-counted c =
    let s = traffic_of c.args.scenario.now c.args.net.now in
    let past = c.loop-rows-test.false in
    let within = c.loop-rows.auto.rows-index-end in
    let at : c.loop-rows.rows-index ≡ length c.args.lists.now = omega arith in
    c.loop-rows.invariant
    ∙ ap (λ (ls : List (List Row)). numbers_of s (packets_of (joined ls)))
    (ap (λ i. take i c.args.lists.now) at ∙ take-length c.args.lists.now)
    ∙ numbers_are s (joined c.args.lists.now)
