use Rattle.std.proofs.Common.{length, ◌≡◌, ◌∙◌, ◌++◌, ◌∷◌, [], All, sym, ap, subst, append-nil}
use Rattle.std.proofs.lemmas.List.{take_all, map-append}
use Rattle.std.proofs.lemmas.List.Elements.{All-get_or, All-push}
use Rattle.srm_member.specs.declared.row.Row.{Row}
use Rattle.srm_cell.specs.declared.sent.Sent.{Sent}
use Rattle.srm_cell.specs.Crossings.{packets_of}
use Rattle.srm_cell.specs.Hearing.{IsSent, packets_in}
use Rattle.srm_cell.proofs.RowPackets.{none_more, one_more}
use Rattle.srm_cell.specs.Totalled.{IsSentBelow}
use Rattle.srm_interfaces.proofs.watched.add_sent.Goals.{in-Some+in_ok-sent+in_ok-push, in_default}
use Rattle.srm_interfaces.proofs.watched.add_sent.Goals as goal

pub loop-row-init : goal.loop-row-init
loop-row-init c = (sym (append-nil (packets_in c.args.all.now.items)), c.requires.before)

pub of-requires-clause-sent : goal.of-requires-clause-sent
of-requires-clause-sent c =
    (subst (IsSentBelow (length c.args.session.scenario.now.members)) c.in-Some.is
    (subst (λ (r : Row). IsSentBelow (length c.args.session.scenario.now.members) r.sent) (sym c.row-item.is)
    (All-get_or (λ (r : Row). IsSentBelow
    (length c.args.session.scenario.now.members) r.sent) c.args.rows.now c.loop-row.row-index c.row-item.result
    c.loop-row-test.true c.requires.sent))).1

pub of-requires-clause-sender : goal.of-requires-clause-sender
of-requires-clause-sender c =
    (subst (IsSentBelow (length c.args.session.scenario.now.members)) c.in-Some.is
    (subst (λ (r : Row). IsSentBelow (length c.args.session.scenario.now.members) r.sent) (sym c.row-item.is)
    (All-get_or (λ (r : Row). IsSentBelow
    (length c.args.session.scenario.now.members) r.sent) c.args.rows.now c.loop-row.row-index c.row-item.result
    c.loop-row-test.true c.requires.sent))).0

pub loop-row-preserved : goal.loop-row-preserved
loop-row-preserved c =
    let ps = packets_in c.args.all.now.items in
    let rows = c.args.rows.now in
    let i = c.loop-row.row-index in
    let r = c.row-item.result in
    elim c.match-row.branch [
      | in-Some+in_ok-sent+in_ok-push w ↦ rw w.all-is (
        ap packets_in w.in_ok-push.ensures.items ∙ map-append (λ (x : Sent). x.packet) c.loop-row.all.items (w.in_ok-sent.sent ∷ [])
            ∙ ap (λ p. packets_in c.loop-row.all.items ++ p ∷ []) w.in_ok-sent.ensures.packet
            ∙ ap (λ l. l ++ w.in-Some.packet ∷ []) c.loop-row.invariant.0
            ∙ one_more ps rows i r w.in-Some.packet c.loop-row-test.true c.row-item.is w.in-Some.is,
        subst (All (λ x. IsSent c.args.session.scenario.now c.args.session.net.now x)) (sym w.in_ok-push.ensures.items)
            (All-push (λ x. IsSent c.args.session.scenario.now c.args.session.net.now x) c.loop-row.all.items w.in_ok-sent.sent
            c.loop-row.invariant.1
            w.in_ok-sent.ensures.sent),
      )
      | in_default w ↦ rw w.all-is (
        c.loop-row.invariant.0 ∙ none_more ps rows i r c.loop-row-test.true c.row-item.is w.in_default.is,
        c.loop-row.invariant.1,
      )
    ]

pub returns-clause-packets : goal.returns-clause-packets
returns-clause-packets c =
    subst (λ rows. packets_in c.loop-row.all.items ≡ packets_in c.args.all.now.items ++ packets_of rows)
    (take_all c.loop-row.row-index c.args.rows.now c.loop-row-test.false) c.loop-row.invariant.0

pub returns-clause-sent : goal.returns-clause-sent
returns-clause-sent c = c.loop-row.invariant.1
