use Rattle.srm_report.specs.Links.{links_table}
use Rattle.srm_program.proofs.kept_tables.KeepNothingEndTableNothing.text.Goals as goal

pub returns : goal.returns
unfolding links_table
returns c seed rows exits of = c.links_text.ensures
