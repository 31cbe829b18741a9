use Rattle.std.proofs.Common.{◌≡◌, length, subst, [], ◌∷◌, append_assoc, arith}
use Rattle.srm_report.specs.Courses.{LoseInTurn}
use Rattle.srm_report.specs.KeptLosses.{FindsMore, KeepsLosses}
use Rattle.srm_report.specs.Taking.{takes_none, takes_more}
use Rattle.srm_report.proofs.TakingLemmas.{next_row, all_rows}
use Rattle.srm_report.proofs.losses.find_losses.FindLossesWatchMemberLosses.add.Goals as goal

pub loop-row-init : goal.loop-row-init
loop-row-init c = takes_none KeepsLosses c.args.kept.now

pub loop-row-preserved : goal.loop-row-preserved
loop-row-preserved c =
    let r = c.row-item.result in
    let after = record c.loop-row.kept { losses = c.note.new.losses } in
    let next : FindsMore c.loop-row.kept (r ∷ []) after = λ before was rest o.
    let turn = subst LoseInTurn (append_assoc before (r ∷ []) rest) o in
    c.in_ok-note.ensures before rest turn (was (r ∷ rest) turn) in
    next_row FindsMore (takes_more KeepsLosses) c.args.kept.now c.loop-row.kept after c.args.rows.now c.loop-row.row-index
    r c.loop-row-test.true c.row-item.is c.loop-row.invariant next

pub returns : goal.returns
returns c =
    let whole : c.loop-row.row-index ≡ length c.args.rows.now = omega arith in
    all_rows FindsMore c.args.kept.now c.loop-row.kept c.args.rows.now c.loop-row.row-index whole c.loop-row.invariant
