use Rattle.srm_report.proofs.CutLemmas.{start_before}
use Rattle.srm_report.proofs.listing.lines.start_of.Goals as goal

pub returns-else-index-eq0 : goal.returns-else-index-eq0
returns-else-index-eq0 c = start_before 0 c.args.ends.now c.args.index _ c.if-index-eq0.false c.requires
