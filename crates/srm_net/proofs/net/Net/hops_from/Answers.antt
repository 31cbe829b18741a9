use Rattle.std.proofs.Common.{◌≡◌, ◌<◌, length, sym, subst}
use Rattle.std.specs.List.{All}
use Rattle.std.proofs.lemmas.Result.{IfOk-weaker}
use Rattle.srm_net.specs.Limits.{most_nodes}
use Rattle.srm_net.specs.Network.{Network}
use Rattle.srm_net.specs.Paths.{hops_from}
use Rattle.srm_net.proofs.HopListLemmas.{hops_bounded}
use Rattle.srm_net.proofs.net.Net.hops_from.Goals as goal

pub returns-clause-bounded : goal.returns-clause-bounded
returns-clause-bounded c =
    let w = c.self.inside.tree.value in
    let m = c.args.m in
    let below : m < length w.hosts = subst (λ (v : Network). m < length v.hosts) (sym c.self.view_is) c.requires in
    IfOk-weaker c.of.result (λ hs. hs ≡ hops_from w m) (All (λ n. n < most_nodes))
    (λ hs e. subst (All (λ n. n < most_nodes)) (sym e) (hops_bounded w m c.self.invariant.network below)) c.of.ensures
