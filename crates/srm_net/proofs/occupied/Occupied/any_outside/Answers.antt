use Rattle.srm_net.proofs.OccupiedLemmas.{other_before, other_after}
use Rattle.srm_net.proofs.occupied.Occupied.any_outside.Goals as goal

pub returns-then-any_within : goal.returns-then-any_within
returns-then-any_within c places told =
    other_before places c.args.position c.any_within.result (c.any_within.ensures places told) c.if-any_within.true

pub returns-else-any_within : goal.returns-else-any_within
returns-else-any_within c places told =
    other_after places c.args.self.now.size c.args.self.now.next.items c.args.position c.any_within.result
    c.any_within-else-any_within.result told (c.any_within.ensures places told) c.if-any_within.false
    (c.any_within-else-any_within.ensures places told)
