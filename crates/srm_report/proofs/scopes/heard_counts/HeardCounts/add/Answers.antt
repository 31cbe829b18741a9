use Rattle.std.proofs.Common.{[], ◌∷◌, take, get_or, sym, subst}
use Rattle.std.proofs.lemmas.List.{take_all, take_more}
use Rattle.srm_net.specs.declared.packet.PacketId.{PacketId}
use Rattle.srm_report.specs.KeptScopes.{HearMore}
use Rattle.srm_report.proofs.ScopeLemmas.{hear_more, hear_none, hear_one}
use Rattle.srm_report.proofs.scopes.heard_counts.HeardCounts.add.Goals as goal

-- in place of a packet that is not there
abbrev none : PacketId
none = record { sender = 0; count = 0 }

pub loop-packet-init : goal.loop-packet-init
loop-packet-init c = hear_none c.args.self.now

pub loop-packet-preserved : goal.loop-packet-preserved
loop-packet-preserved c =
    let ps = c.args.packets.now in
    let i = c.loop-packet.packet-index in
    let p = get_or ps i none in
    let one = subst (HearMore c.loop-packet.self (p ∷ [])) (sym c.in_ok-count.ensures) (hear_one c.loop-packet.self p) in
    subst (λ l. HearMore c.args.self.now l c.count.new.self)
    (sym (take_more ps i none c.loop-packet-test.true))
    (hear_more (take i ps) (p ∷ []) c.args.self.now c.loop-packet.self c.count.new.self c.loop-packet.invariant one)

pub returns : goal.returns
returns c =
    subst (λ l. HearMore c.args.self.now l c.loop-packet.self)
    (take_all c.loop-packet.packet-index c.args.packets.now c.loop-packet-test.false) c.loop-packet.invariant
