use Rattle.std.proofs.Common.{◌≡◌, ◌∙◌, ◌/◌, ◌<◌, ◌≤◌, Some, length, slice_get, sym, ap, arith}
use Rattle.srm_net.specs.Network.{Network}
use Rattle.srm_net.specs.Paths.{round}
use Rattle.srm_net.proofs.HalfRoundLemmas.{half_round_at, no_half_round}
use Rattle.srm_net.proofs.half_rounds.HalfRounds.get.Goals as goal

pub returns-then-member-members : goal.returns-then-member-members
returns-then-member-members c =
    let w = c.self.inside.tree.value in
    let m = c.self.inside.member in
    let b = c.args.member in
    let all : c.members.result ≡ length w.hosts = c.members.ensures.members ∙ ap (λ (v : Network). length v.hosts) c.deref.ensures in
    let lt : b < length w.hosts = let h = c.if-member-members.true in omega arith in
    let value : c.round.result ≡ round w m b = c.round.ensures.value
    ∙ ap (λ (v : Network). round v m b) c.deref-then-member-members.ensures in
    ap (λ n. Some (n / 2)) value ∙ sym (half_round_at w m b lt) ∙ ap (λ ds. slice_get ds b) c.self.view_is

pub returns-else-member-members : goal.returns-else-member-members
returns-else-member-members c =
    let w = c.self.inside.tree.value in
    let b = c.args.member in
    let all : c.members.result ≡ length w.hosts = c.members.ensures.members ∙ ap (λ (v : Network). length v.hosts) c.deref.ensures in
    let past : length w.hosts ≤ b = let h = c.if-member-members.false in omega arith in
    sym (no_half_round w c.self.inside.member b past) ∙ ap (λ ds. slice_get ds b) c.self.view_is
