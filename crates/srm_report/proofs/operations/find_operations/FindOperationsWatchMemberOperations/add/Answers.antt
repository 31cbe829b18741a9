use Rattle.std.proofs.Common.{◌≡◌, length, arith}
use Rattle.srm_report.specs.KeptOperations.{KeepsMore, KeepsOperations}
use Rattle.srm_report.specs.Taking.{takes_none, takes_more}
use Rattle.srm_report.proofs.TakingLemmas.{next_row, all_rows}
use Rattle.srm_report.proofs.operations.find_operations.FindOperationsWatchMemberOperations.add.Goals as goal

pub loop-row-init : goal.loop-row-init
loop-row-init c = takes_none KeepsOperations c.args.kept.now

pub loop-row-preserved : goal.loop-row-preserved
loop-row-preserved c =
    next_row KeepsMore (takes_more KeepsOperations) c.args.kept.now c.loop-row.kept c.take_row.new.self c.args.rows.now c.loop-row.row-index
    c.row-item.result c.loop-row-test.true c.row-item.is c.loop-row.invariant c.in_ok-take_row.ensures

pub returns : goal.returns
returns c =
    let whole : c.loop-row.row-index ≡ length c.args.rows.now = omega arith in
    all_rows KeepsMore c.args.kept.now c.loop-row.kept c.args.rows.now c.loop-row.row-index whole c.loop-row.invariant
