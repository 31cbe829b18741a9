use Rattle.std.proofs.Common.{subst}
use Rattle.srm_net.specs.Built.{network_inside}
use Rattle.srm_net.specs.Network.{Network}
use Rattle.srm_net.specs.Rooting.{IsFirstLink}
use Rattle.srm_net.proofs.BuiltLemmas.{seen_below, rooted_in}
use Rattle.srm_net.proofs.tree.Tree.first_step.Goals as goal

pub first_step-requires-clause-rooted : goal.first_step-requires-clause-rooted
first_step-requires-clause-rooted c = (
  network_inside c.self.inside,
  rooted_in c.self.inside c.self.invariant,
  seen_below (network_inside c.self.inside) c.args.self.now c.args.from c.self.view_is c.requires.from,
  seen_below (network_inside c.self.inside) c.args.self.now c.args.to c.self.view_is c.requires.to,
)

first : (c : goal.After-first_step) → IsFirstLink c.args.self.now c.args.from c.args.to c.first_step.result.0 c.first_step.result.1
first c =
    subst (λ (w : Network). IsFirstLink w c.args.from c.args.to c.first_step.result.0 c.first_step.result.1) c.self.view_is
    (c.first_step.ensures (network_inside c.self.inside) (rooted_in c.self.inside c.self.invariant)
    (seen_below (network_inside c.self.inside) c.args.self.now c.args.from c.self.view_is c.requires.from)
    (seen_below (network_inside c.self.inside) c.args.self.now c.args.to c.self.view_is c.requires.to))

pub returns-clause-route : goal.returns-clause-route
returns-clause-route c = (first c).route

pub returns-clause-link : goal.returns-clause-link
returns-clause-link c = (first c).link

pub returns-clause-end : goal.returns-clause-end
returns-clause-end c = (first c).leads

pub returns-clause-node : goal.returns-clause-node
returns-clause-node c = (first c).node
