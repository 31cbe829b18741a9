use Rattle.std.proofs.Common.{◌≡◌, length, ap, arith}
use Rattle.srm_scenario.specs.declared.lists.Lists.{Lists}
use Rattle.srm_scenario.proofs.Members.{few_members}
use Rattle.srm_scenario.proofs.scenario.Scenario.members.Goals as goal

pub overflow_cast-result : goal.overflow_cast-result
overflow_cast-result c =
    let same : length c.deref.result.now.members.items ≡ length c.self.inside.lists.value.members.items =
    ap (λ (l : Lists). length l.members.items) c.deref.ensures in
    omega (arith, same, few_members _ c.self.invariant)
