use Rattle.std.proofs.Common.{rules}
use Rattle.srm_report.proofs.CutLemmas.{as_many_lines}
use Rattle.srm_report.proofs.listing.lines.Lines.len.Goals as goal

pub returns : goal.returns
returns c = search (rules, as_many_lines)
