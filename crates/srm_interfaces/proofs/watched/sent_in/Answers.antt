use Rattle.std.proofs.Common.{length, List, ◌≡◌, ◌∙◌, ◌++◌, ◌∷◌, [], ◌+◌, All, sym, ap, subst, take, append-nil, add-one}
use Rattle.std.proofs.Math.Seq.{take-suc}
use Rattle.std.proofs.lemmas.List.{take_all}
use Rattle.std.proofs.lemmas.List.Elements.{All-nil, All-get_or, filter_map-append}
use Rattle.srm_member.specs.declared.row.Row.{Row}
use Rattle.srm_cell.specs.Crossings.{joined, packets_of}
use Rattle.srm_cell.specs.Hearing.{IsSent, packets_in}
use Rattle.srm_cell.proofs.RowPackets.{joined-append}
use Rattle.srm_cell.specs.Totalled.{IsSentBelow}
use Rattle.srm_interfaces.proofs.watched.sent_in.Goals as goal

pub loop-rows-init : goal.loop-rows-init
loop-rows-init c = (
  ap packets_in c.new-all.ensures.items,
  subst (All (λ x. IsSent c.args.session.scenario.now c.args.session.net.now x)) (sym c.new-all.ensures.items)
      (All-nil (λ x. IsSent c.args.session.scenario.now c.args.session.net.now x)),
)

pub add_sent-requires-clause-sent : goal.add_sent-requires-clause-sent
add_sent-requires-clause-sent c =
    subst (All (λ (r : Row). IsSentBelow (length c.args.session.scenario.now.members) r.sent)) (sym c.as_slice.ensures)
    (subst (λ (v : List Row). All (λ (r : Row). IsSentBelow (length c.args.session.scenario.now.members) r.sent) v) (sym c.rows-item.is)
    (All-get_or (λ (v : List Row). All (λ (r : Row). IsSentBelow (length c.args.session.scenario.now.members) r.sent) v) c.args.lists.now
    c.loop-rows.rows-index c.rows-item.result c.loop-rows-test.true c.requires.sent))

pub loop-rows-preserved : goal.loop-rows-preserved
loop-rows-preserved c =
    let all = c.args.lists.now in
    let i = c.loop-rows.rows-index in
    let v = c.rows-item.result in
    let more : take (i + 1) all ≡ take i all ++ v ∷ [] =
    ap (λ k. take k all) (add-one i) ∙ take-suc all i v c.loop-rows-test.true ∙ ap (λ r. take i all ++ r ∷ []) (sym c.rows-item.is) in
    let next : packets_of (joined (take (i + 1) all))
    ≡ packets_of (joined (take i all)) ++ packets_of v =
    ap (λ l. packets_of (joined l)) more
    ∙ ap packets_of (joined-append (take i all) (v ∷ []))
    ∙ ap (λ l. packets_of (joined (take i all) ++ l)) (append-nil v)
    ∙ filter_map-append (λ (r : Row). r.sent) (joined (take i all)) v in (
      c.in_ok-add_sent.ensures.packets ∙ ap (λ l. packets_in c.loop-rows.all.items ++ packets_of l) c.as_slice.ensures
          ∙ ap (λ l. l ++ packets_of v) c.loop-rows.invariant.0 ∙ sym next,
      c.in_ok-add_sent.ensures.sent,
    )

pub returns-clause-packets : goal.returns-clause-packets
returns-clause-packets c =
    subst (λ l. packets_in c.loop-rows.all.items ≡ packets_of (joined l))
    (take_all c.loop-rows.rows-index c.args.lists.now c.loop-rows-test.false) c.loop-rows.invariant.0

pub returns-clause-sent : goal.returns-clause-sent
returns-clause-sent c = c.loop-rows.invariant.1
