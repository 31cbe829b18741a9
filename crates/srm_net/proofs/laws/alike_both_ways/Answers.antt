use Rattle.srm_net.proofs.LawProofs.{alike_both_ways}
use Rattle.srm_net.proofs.laws.alike_both_ways.Goals as goal

pub returns : goal.returns
returns c = alike_both_ways
