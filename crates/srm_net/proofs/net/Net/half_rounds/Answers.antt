use Rattle.std.proofs.Common.{◌≡◌, ◌<◌, ◌≤◌, length, sym, subst}
use Rattle.std.specs.List.{All}
use Rattle.std.proofs.lemmas.Result.{IfOk-weaker}
use Rattle.srm_net.specs.Limits.{greatest_distance}
use Rattle.srm_net.specs.Network.{Network}
use Rattle.srm_net.specs.Paths.{half_rounds_from}
use Rattle.srm_net.proofs.HalfRoundLemmas.{half_rounds_bounded}
use Rattle.srm_net.proofs.net.Net.half_rounds.Goals as goal

pub returns-clause-bounded : goal.returns-clause-bounded
returns-clause-bounded c =
    let w = c.self.inside.tree.value in
    let m = c.args.m in
    let below : m < length w.hosts = subst (λ (v : Network). m < length v.hosts) (sym c.self.view_is) c.requires in
    IfOk-weaker c.of.result (λ ds. ds ≡ half_rounds_from w m) (All (λ d. d ≤ greatest_distance))
    (λ ds e. subst (All (λ d. d ≤ greatest_distance)) (sym e) (half_rounds_bounded w m c.self.invariant.network below)) c.of.ensures
