use Rattle.std.proofs.Common.{true}
use Rattle.srm_report.proofs.SinkLemmas.{gathers, rows_put}
use Rattle.srm_report.proofs.listing.listing_sink.ListingSinkKeptSinkLines.kept.Goals as goal

pub returns-clause-rows : goal.returns-clause-rows
returns-clause-rows g c rows are =
    rows_put g.O.Outlet.taken g.L.Listing.form c.args.self.now c.put_lines-answer.new.self rows c.put_lines-answer.result
    true c.standing_after-self.result (c.put_lines-answer.ensures.text rows are) c.standing_after-self.ensures

pub returns-clause-gathered : goal.returns-clause-gathered
returns-clause-gathered g c rows are =
    gathers g.O.Outlet.taken c.args.self.now c.put_lines-answer.new.self _ c.put_lines-answer.result
    (c.put_lines-answer.ensures.text rows are)
