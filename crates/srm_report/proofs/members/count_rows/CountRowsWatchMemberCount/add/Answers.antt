use Rattle.std.proofs.Common.{◌≡◌, length, arith}
use Rattle.srm_report.specs.MemberCounts.{CountsOn, IsCountOf}
use Rattle.srm_report.specs.Taking.{takes_more}
use Rattle.srm_report.proofs.TakingLemmas.{next_row, all_rows}
use Rattle.srm_report.proofs.members.count_rows.CountRowsWatchMemberCount.add.Goals as goal

pub loop-row-preserved : goal.loop-row-preserved
loop-row-preserved c =
    next_row CountsOn (takes_more IsCountOf) c.args.kept.now c.loop-row.kept c.count.new.self c.args.rows.now c.loop-row.row-index
    c.row-item.result c.loop-row-test.true c.row-item.is c.loop-row.invariant c.in_ok-count.ensures

pub returns : goal.returns
returns c =
    let whole : c.loop-row.row-index ≡ length c.args.rows.now = omega arith in
    all_rows CountsOn c.args.kept.now c.loop-row.kept c.args.rows.now c.loop-row.row-index whole c.loop-row.invariant
