use Rattle.std.proofs.Common.{◌∙◌, sym, ap, subst, ◌≤◌, length}
use Rattle.srm_net.proofs.LeastLemmas.{least_delay_is}
use Rattle.srm_net.proofs.tree.Tree.least_delay.Goals as goal

pub returns-clause-value : goal.returns-clause-value
returns-clause-value c =
    let long : length c.args.self.now.links ≤ c.loop-link.link-index =
    subst (λ n. n ≤ c.loop-link.link-index) (ap length c.links-link-items.ensures.links) c.loop-link-test.false in
    c.loop-link.invariant ∙ sym (least_delay_is c.args.self.now c.loop-link.link-index long)
