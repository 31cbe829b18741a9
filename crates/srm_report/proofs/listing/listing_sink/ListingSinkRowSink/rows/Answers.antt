use Rattle.srm_report.proofs.SinkLemmas.{gathers, rows_put}
use Rattle.srm_report.proofs.listing.listing_sink.ListingSinkRowSink.rows.Goals as goal

pub returns-clause-rows : goal.returns-clause-rows
returns-clause-rows g c =
    rows_put g.O.Outlet.taken g.L.Listing.form c.args.self.now c.put_rows-answer.new.self c.args.rows.items c.put_rows-answer.result
    c.if-self.self c.standing_after-self.result c.put_rows-answer.ensures.text c.standing_after-self.ensures

pub returns-clause-gathered : goal.returns-clause-gathered
returns-clause-gathered g c =
    gathers g.O.Outlet.taken c.args.self.now c.put_rows-answer.new.self _ c.put_rows-answer.result c.put_rows-answer.ensures.text
