use Rattle.srm_report.proofs.CutLemmas.{cut_none, ends_none}
use Rattle.srm_report.proofs.listing.lines.Lines.clear.Goals as goal

pub invariant_of-self-2 : goal.invariant_of-self-2
invariant_of-self-2 c = ends_none _ _ c.clear-2.ensures.items c.clear.ensures.items

pub returns : goal.returns
returns c = cut_none _ _ c.clear.ensures.items
