use Rattle.std.proofs.Common.{◌≡◌, ◌<◌, List, length, All, ap, refl, sym, ◌∙◌, subst, arith}
use Rattle.std.proofs.lemmas.List.{with_items_is}
use Rattle.srm_member.specs.declared.row.Row.{Row}
use Rattle.srm_cell.specs.Setting.{traffic_of}
use Rattle.srm_cell.specs.Crossings.{packets_of, joined, crossings}
use Rattle.srm_cell.specs.Jobs.{AreSound, RanEach, TellsFault, own_cells}
use Rattle.srm_cell.specs.Totalled.{IsSentBelow}
use Rattle.srm_cell.proofs.RowPackets.{some_list}
use Rattle.srm_cell.proofs.SoFar.{each_asks}
use Rattle.srm_cell.proofs.SentRows.{rows_few, rows_below}
use Rattle.srm_cell.proofs.advance.advance.Goals as goal

pub run_each-requires : goal.run_each-requires
run_each-requires g c = c.requires.till

pub returns-in-Err : goal.returns-in-Err
returns-in-Err g c =
    let f = g.M.Participant.plain in
    subst (λ cs. AreSound f cs → TellsFault c.args.job.till (own_cells f cs) c.in-Err.fault) c.as_mut_slice.ensures.value
    c.in-Err.ensures.runs c.requires.sound

pub crossings_of-requires-clause-senders : goal.crossings_of-requires-clause-senders
crossings_of-requires-clause-senders g c =
    let f = g.M.Participant.plain in
    let k = c.requires in
    let ran = subst (λ cs. AreSound f cs → RanEach f c.args.job.till cs c.in-Ok.rows.items c.run_each.new.cells)
    c.as_mut_slice.ensures.value c.in-Ok.ensures.runs k.sound in
    subst (λ (ls : List (List Row)). All (λ rs. All (λ r. IsSentBelow (length c.args.net.now.hosts) r.sent) rs) ls)
    (sym c.as_slice.ensures.value)
    (rows_below f c.args.job.till (length c.args.net.now.hosts) c.args.job.cells.items c.in-Ok.rows.items c.run_each.new.cells
    k.till k.of_members ran)

pub crossings_of-requires-clause-few : goal.crossings_of-requires-clause-few
crossings_of-requires-clause-few g c =
    let f = g.M.Participant.plain in
    let k = c.requires in
    let ran = subst (λ cs. AreSound f cs → RanEach f c.args.job.till cs c.in-Ok.rows.items c.run_each.new.cells)
    c.as_mut_slice.ensures.value c.in-Ok.ensures.runs k.sound in
    let few = rows_few f c.args.job.till c.args.job.cells.items c.in-Ok.rows.items c.run_each.new.cells ran in
    let same : length (packets_of (joined c.as_slice.result.now)) ≡ length (packets_of (joined c.in-Ok.rows.items)) =
    ap (λ (ls : List (List Row)). length (packets_of (joined ls))) c.as_slice.ensures.value in
    let most = k.few in
    omega (arith, few, same, most)

pub returns : goal.returns
returns g c =
    let f = g.M.Participant.plain in
    let ran = subst (λ cs. AreSound f cs → RanEach f c.args.job.till cs c.in-Ok.rows.items c.run_each.new.cells)
    c.as_mut_slice.ensures.value c.in-Ok.ensures.runs c.requires.sound in
    record {
      place = refl;
      runs = subst (λ ds. RanEach f c.args.job.till c.args.job.cells.items c.in-Ok.rows.items ds)
          (sym (with_items_is c.args.job.cells c.run_each.new.cells (c.run_each.ensures.many ∙ c.as_mut_slice.ensures.len))) ran;
      crossings_are = c.in-Ok-crossings_of.ensures.counted ∙
          ap (λ (ls : List (List Row)). crossings (traffic_of c.args.scenario.now c.args.net.now) (joined ls)) c.as_slice.ensures.value;
    }

pub returns-in_default : goal.returns-in_default
returns-in_default g c =
    let f = g.M.Participant.plain in
    let ran = subst (λ cs. AreSound f cs → RanEach f c.args.job.till cs c.in-Ok.rows.items c.run_each.new.cells)
    c.as_mut_slice.ensures.value c.in-Ok.ensures.runs c.requires.sound in
    let some = subst (λ (ls : List (List Row)). 0 < length (packets_of (joined ls))) c.as_slice.ensures.value c.in_default.ensures.asked in
    each_asks f c.args.job.till c.args.job.cells.items c.in-Ok.rows.items c.run_each.new.cells ran (some_list c.in-Ok.rows.items some)
