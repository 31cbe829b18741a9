use Rattle.srm_report.proofs.CutLemmas.{ends_none, cut_none}
use Rattle.srm_report.proofs.listing.lines.Lines.new.Goals as goal

pub invariant_of-result : goal.invariant_of-result
invariant_of-result c = ends_none _ _ c.new-2.ensures.items c.new.ensures.items

pub returns : goal.returns
returns c = cut_none _ _ c.new.ensures.items
