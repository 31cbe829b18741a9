use Rattle.std.proofs.Common.{◌++◌, [], List, ℕ, inl, subst, append-nil}
use Rattle.srm_report.specs.KeptLines.{parts_text}
use Rattle.srm_report.specs.Standings.{TakesText}
use Rattle.srm_report.specs.ListingSinks.{outlet_under, gathered_by, written_by}
use Rattle.srm_report.proofs.SinkLemmas.{puts, text_more}
use Rattle.srm_report.proofs.listing.listing_sink.ListingSink.put.Goals as goal

pub returns-clause-text : goal.returns-clause-text
returns-clause-text g c =
    let taken = g.O.Outlet.taken in
    let a = c.args.self.now in
    let text = parts_text c.args.parts.now in
    let end = c.write_both.new in
    puts taken a _ text c.write_both.result
    (subst (λ (l : List ℕ). TakesText taken (outlet_under a) (written_by a) l c.write_both.result end.outlet end.written end.text.items)
    (append-nil (gathered_by a ++ text))
    (text_more taken (outlet_under a) c.put_each.new.outlet end.outlet (written_by a) c.put_each.new.written end.written
    (gathered_by a ++ text) c.put_each.new.text.items [] c.write_both.result end.text.items c.in_ok-is_whole.ensures.taken
    c.write_both.ensures.taken))
    (inl c.write_both.ensures.empty)
