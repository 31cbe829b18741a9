use Rattle.std.proofs.Common.{refl}
use Rattle.srm_report.specs.Members.{counts_of}
use Rattle.srm_report.proofs.members.counts.Counts.new.Goals as goal

pub returns-clause-counts : goal.returns-clause-counts
unfolding counts_of
returns-clause-counts c = refl
