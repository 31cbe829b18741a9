use Rattle.srm_member.proofs.Earliest.{index_first}
use Rattle.srm_member.proofs.pending.Pending.due.Goals as goal

pub returns : goal.returns
returns c = rw (← c.self.view_is) (index_first c.self.inside.index c.self.inside.missing c.self.inside.repairs c.first.result
    c.self.invariant c.first.ensures)
