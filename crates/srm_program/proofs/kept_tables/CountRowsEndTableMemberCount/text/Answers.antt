use Rattle.srm_report.specs.Members.{members_table}
use Rattle.srm_program.proofs.kept_tables.CountRowsEndTableMemberCount.text.Goals as goal

pub returns : goal.returns
unfolding members_table
returns c seed rows exits of = c.members_kept.ensures rows of.many of.are
