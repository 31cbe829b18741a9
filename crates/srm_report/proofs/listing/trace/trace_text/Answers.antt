use Rattle.srm_report.specs.Trace.{trace_of_rows}
use Rattle.srm_report.proofs.listing.trace.trace_text.Goals as goal

pub returns : goal.returns
unfolding trace_of_rows
returns c = c.in_ok-table_text.ensures
