use Rattle.std.proofs.Common.{◌≡◌, ◌<◌, ◌+◌, ◌++◌, ◌∷◌, [], ◌∙◌, length, sym, ap, subst, take, add-one, arith}
use Rattle.std.proofs.Math.Seq.{take-suc}
use Rattle.std.proofs.lemmas.List.{length-map, length-take-le, map-append, take_all}
use Rattle.std.proofs.lemmas.List.Elements.{All-get_or}
use Rattle.srm_ledger.specs.Counts.{nothing_at}
use Rattle.srm_cell.specs.declared.sent.Sent.{Sent}
use Rattle.srm_cell.specs.Setting.{traffic_of}
use Rattle.srm_cell.specs.Hearing.{IsSent, packets_in}
use Rattle.srm_cell.specs.Totalled.{numbers_of}
use Rattle.srm_cell.proofs.RowPackets.{nothing_counted}
use Rattle.srm_cell.proofs.crossings.Crossings.of.Goals as goal

pub loop-sent-init : goal.loop-sent-init
loop-sent-init c = c.none-crossings.ensures ∙ ap (λ ls. nothing_at (length ls)) c.links.ensures.links
    ∙ nothing_counted (traffic_of c.args.session.scenario.now c.args.session.net.now)

pub count_spread-requires-clause-sender : goal.count_spread-requires-clause-sender
count_spread-requires-clause-sender c =
    let k = c.args.session.scenario.now in
    let net = c.args.session.net.now in
    let is : IsSent k net c.sent-item.result = subst (IsSent k net) (sym c.sent-item.is)
    (All-get_or (λ x. IsSent k net x) c.args.all.now c.loop-sent.sent-index c.sent-item.result c.loop-sent-test.true
    c.requires.sent) in
    let hosts : length net.hosts ≡ length k.members =
    ap (λ n. length n.hosts) c.args.session.network ∙ length-map k.members (λ m. m.node) in
    subst (λ n. c.sent-item.result.packet.id.sender < n) (sym hosts) is.sender

pub count_spread-requires-clause-room : goal.count_spread-requires-clause-room
count_spread-requires-clause-room c =
    let k = c.args.session.scenario.now in
    let net = c.args.session.net.now in
    let all = c.args.all.now in
    let i = c.loop-sent.sent-index in
    let is : IsSent k net c.sent-item.result = subst (IsSent k net) (sym c.sent-item.is)
    (All-get_or (λ x. IsSent k net x) all i c.sent-item.result c.loop-sent-test.true c.requires.sent) in
    let few = c.requires.few in
    let lt = c.loop-sent-test.true in
    let many : length (packets_in (take i all)) ≡ i =
    length-map (take i all) (λ (x : Sent). x.packet) ∙ length-take-le i all (omega arith) in
    (k, is.spread, (packets_in (take i all), omega arith, c.loop-sent.invariant))

pub loop-sent-preserved : goal.loop-sent-preserved
loop-sent-preserved c =
    let k = c.args.session.scenario.now in
    let net = c.args.session.net.now in
    let all = c.args.all.now in
    let i = c.loop-sent.sent-index in
    let x = c.sent-item.result in
    let is : IsSent k net x = subst (IsSent k net) (sym c.sent-item.is)
    (All-get_or (λ x. IsSent k net x) all i x c.loop-sent-test.true c.requires.sent) in
    let more : take (i + 1) all ≡ take i all ++ x ∷ [] =
    ap (λ k. take k all) (add-one i) ∙ take-suc all i x c.loop-sent-test.true
    ∙ ap (λ r. take i all ++ r ∷ []) (sym c.sent-item.is) in
    c.in_ok-count_spread.ensures k is.spread (packets_in (take i all)) c.loop-sent.invariant
    ∙ ap (numbers_of (traffic_of k net)) (sym (ap packets_in more ∙ map-append (λ (x : Sent). x.packet) (take i all) (x ∷ [])))

pub returns-clause-counted : goal.returns-clause-counted
returns-clause-counted c =
    subst (λ l. c.loop-sent.crossings ≡ numbers_of (traffic_of c.args.session.scenario.now c.args.session.net.now) (packets_in l))
    (take_all c.loop-sent.sent-index c.args.all.now c.loop-sent-test.false) c.loop-sent.invariant
