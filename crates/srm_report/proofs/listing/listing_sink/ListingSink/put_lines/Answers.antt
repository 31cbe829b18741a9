use Rattle.std.proofs.Common.{◌∙◌, ◌++◌, List, ℕ, ap, subst}
use Rattle.srm_report.specs.Listings.{lines_in}
use Rattle.srm_report.specs.KeptLines.{parts_text}
use Rattle.srm_report.specs.ListingSinks.{PutsText}
use Rattle.srm_report.proofs.listing.listing_sink.ListingSink.put_lines.Goals as goal

pub returns-in-Ok-clause-text : goal.returns-in-Ok-clause-text
returns-in-Ok-clause-text g c rows are =
    let f = g.L.Listing.form in
    subst (λ (l : List ℕ). PutsText g.O.Outlet.taken c.args.self.now l c.put.result c.put.new.self)
    (ap parts_text c.as_slice.ensures.value ∙ c.in-Ok.ensures f rows are ∙ (λ k. c.lead_of.ensures k ++ lines_in f rows))
    c.put.ensures.text
