use Rattle.std.proofs.Common.{◌∙◌, ◌<◌, None, length, ap, get_or, arith}
use Rattle.std.specs.FinMap.Entries.{put}
use Rattle.srm_net.specs.declared.packet.Name.{Name}
use Rattle.srm_report.specs.Losses.{loss_cmp}
use Rattle.srm_report.proofs.CourseLemmas.{nothing}
use Rattle.srm_report.proofs.LossLemmas.{detect_more, detect_all}
use Rattle.srm_report.proofs.losses.courses.detect.Goals as goal

pub loop-name-init : goal.loop-name-init
loop-name-init c rows after o was = nothing rows c.args.row.now c.args.losses.now was

pub loop-name-preserved : goal.loop-name-preserved
loop-name-preserved c rows after o was =
    let r = c.args.row.now in
    let i = c.loop-name.name-index in
    let d : Name = record { source = 0; page = 0; number = 0 } in
    let long = ap length c.as_slice-name-items.ensures in
    let lt : i < length r.lost = omega arith in
    detect_more rows after r o i d lt c.loop-name.losses _ (c.loop-name.invariant rows after o was)
    (c.in_ok-put.ensures
    ∙ ap (λ l. put loss_cmp (record { member = r.key.member; name = get_or l i d }) (record { detected = r.key.time; recovered = None })
    c.loop-name.losses) c.as_slice-name-items.ensures)

pub returns : goal.returns
returns c rows after o was =
    let long = ap length c.as_slice-name-items.ensures in
    detect_all rows c.args.row.now c.loop-name.name-index c.loop-name.losses (omega arith) (c.loop-name.invariant rows after o was)
