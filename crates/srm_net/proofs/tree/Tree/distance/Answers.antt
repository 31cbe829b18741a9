use Rattle.std.proofs.Common.{◌≡◌, ◌∙◌, sym, ap, subst, ◌≤◌}
use Rattle.srm_net.specs.Limits.{greatest_distance}
use Rattle.srm_net.specs.Paths.{host, distance}
use Rattle.srm_net.specs.Rooting.{takes}
use Rattle.srm_net.proofs.PathLaws.{distance_bounded, distance_apart}
use Rattle.srm_net.proofs.tree.Tree.distance.Goals as goal

value : (c : goal.After-delay) → c.delay.result ≡ distance c.args.self.now c.args.a c.args.b
unfolding distance
value c =
    c.delay.ensures.value ∙ ap (λ u. takes c.args.self.now u c.host-2.result) c.host.ensures.value
    ∙ ap (takes c.args.self.now (host c.args.self.now c.args.a)) c.host-2.ensures.value

pub returns-clause-value : goal.returns-clause-value
returns-clause-value c = value c

pub returns-clause-apart : goal.returns-clause-apart
returns-clause-apart c d =
    subst (λ n. 1 ≤ n) (sym (value c))
    (distance_apart c.args.self.now c.delay.ensures.network c.args.a c.args.b c.requires.a c.requires.b d)

pub returns-clause-bounded : goal.returns-clause-bounded
returns-clause-bounded c =
    subst (λ n. n ≤ greatest_distance) (sym (value c))
    (distance_bounded c.args.self.now c.delay.ensures.network c.args.a c.args.b c.requires.a c.requires.b)
