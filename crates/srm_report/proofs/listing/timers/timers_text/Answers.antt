use Rattle.srm_report.specs.Timers.{timers_table}
use Rattle.srm_report.proofs.listing.timers.timers_text.Goals as goal

pub returns : goal.returns
unfolding timers_table
returns c = c.in_ok-table_text.ensures
