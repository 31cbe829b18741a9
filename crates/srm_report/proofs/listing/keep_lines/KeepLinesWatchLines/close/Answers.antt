use Rattle.std.proofs.Common.{◌<◌, length, arith}
use Rattle.srm_report.proofs.TickLemmas.{all_in_first}
use Rattle.srm_report.proofs.listing.keep_lines.KeepLinesWatchLines.close.Goals as goal

pub returns-clause-closed : goal.returns-clause-closed
returns-clause-closed g c =
    let none = c.clear_all.new.kept in
    let some = c.if-kept-lt2.false in
    let long = c.clear_all.ensures.long in
    let lt : 0 < length none = omega arith in
    all_in_first c.args.kept.now none c.in_ok-lines.lines c.clear_all.ensures.none lt c.in_ok-lines.ensures
