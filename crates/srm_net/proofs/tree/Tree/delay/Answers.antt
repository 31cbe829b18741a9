use Rattle.std.proofs.Common.{◌≡◌, ◌∙◌, sym, ap, subst, ◌≤◌}
use Rattle.srm_net.specs.Limits.{greatest_distance}
use Rattle.srm_net.specs.Network.{Network, IsNetwork}
use Rattle.srm_net.specs.Rooting.{takes}
use Rattle.srm_net.specs.Built.{network_inside}
use Rattle.srm_net.proofs.BuiltLemmas.{seen_below, rooted_in}
use Rattle.srm_net.proofs.PathLaws.{delay_bounded}
use Rattle.srm_net.proofs.tree.Tree.delay.Goals as goal

pub delay-requires : goal.delay-requires
delay-requires c = record {
  rooted = (
    network_inside c.self.inside,
    c.self.invariant.network,
    rooted_in c.self.inside c.self.invariant,
    seen_below (network_inside c.self.inside) c.args.self.now c.args.from c.self.view_is c.requires.from,
    seen_below (network_inside c.self.inside) c.args.self.now c.args.to c.self.view_is c.requires.to,
  );
}

value : (c : goal.After-delay) → c.delay.result ≡ takes c.args.self.now c.args.from c.args.to
value c =
    c.delay.ensures (network_inside c.self.inside) (rooted_in c.self.inside c.self.invariant)
    (seen_below (network_inside c.self.inside) c.args.self.now c.args.from c.self.view_is c.requires.from)
    (seen_below (network_inside c.self.inside) c.args.self.now c.args.to c.self.view_is c.requires.to)
    ∙ ap (λ (w : Network). takes w c.args.from c.args.to) c.self.view_is

pub returns-clause-value : goal.returns-clause-value
returns-clause-value c = value c

pub returns-clause-bounded : goal.returns-clause-bounded
returns-clause-bounded c =
    subst (λ n. n ≤ greatest_distance) (sym (value c)) (delay_bounded c.args.self.now
    (subst IsNetwork c.self.view_is c.self.invariant.network) c.args.from c.args.to c.requires.from c.requires.to)
