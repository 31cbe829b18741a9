use Rattle.std.proofs.Common.{◌≡◌, ◌∙◌, Some, refl, sym, ap, subst, arith}
use Rattle.srm_cell.specs.Cells.{PlainCell, hear_at, next_event}
use Rattle.srm_cell.specs.declared.pending_event.Source.TheVariants.{Inbox}
use Rattle.srm_cell.specs.Pending.{IsNext}
use Rattle.srm_cell.specs.Views.{plain_cell}
use Rattle.srm_cell.proofs.Heard.{if_ok, next_later, next_sooner}
use Rattle.srm_cell.proofs.cell.Cell.accept.Goals.{else-arrival-self-2-via-then-arrival-self-2+else-not-is_arrival}
use Rattle.srm_cell.proofs.cell.Cell.accept.Goals.{else-arrival-self-2-via-else-arrival-self-2}
use Rattle.srm_cell.proofs.cell.Cell.accept.Goals as goal

pub returns-then-arrival-self-clause-ok : goal.returns-then-arrival-self-clause-ok
returns-then-arrival-self-clause-ok g c = λ h.
    let placed = if_ok c.accept.result _ (sym c.is_err.ensures.value ∙ c.if-is_err.false) c.accept.ensures.ok in
    let packet = c.args.packet.now in
    let m = c.args.self.now.number in
    let p = plain_cell g.M.Participant.plain c.args.self.now in
    let heard : record p { inbox = c.accept.new.self } ≡ hear_at packet (Some c.args.arrival) p =
    ap (λ fs. record p { inbox = fs }) placed in
    record {
      sound = record {
        next = subst (λ (q : PlainCell). IsNext m q (record { time = c.args.arrival; source = Inbox }) (next_event m q)) (sym heard)
            (next_sooner m packet c.args.arrival p c.args.self.now.next _ refl h.next c.if-arrival-self.true);
        none_once_left = h.none_once_left;
      };
      is = ap (λ (q : PlainCell). record { member = m; cell = q }) heard;
    }

pub returns-else-arrival-self-2-clause-ok : goal.returns-else-arrival-self-2-clause-ok
returns-else-arrival-self-2-clause-ok g c = λ h.
    let placed = if_ok c.accept.result _ (sym c.is_err.ensures.value ∙ c.if-is_err.false) c.accept.ensures.ok in
    let packet = c.args.packet.now in
    let m = c.args.self.now.number in
    let p = plain_cell g.M.Participant.plain c.args.self.now in
    let heard : record p { inbox = c.accept.new.self } ≡ hear_at packet (Some c.args.arrival) p =
    ap (λ fs. record p { inbox = fs }) placed in
    let one : c.args.arrival ≡ c.args.self.now.next.time → c.args.self.now.next.source ≡ Inbox =
    elim c.else-arrival-self-2.branch [
      | else-arrival-self-2-via-then-arrival-self-2+else-not-is_arrival w ↦ λ q. w.is_arrival.ensures.0 w.if-not-is_arrival.false
      | else-arrival-self-2-via-else-arrival-self-2 w ↦ λ q. absurd (w.if-arrival-self-2.false q)
    ] in
    record {
      sound = record {
        next = subst (λ (q : PlainCell). IsNext m q c.args.self.now.next (next_event m q)) (sym heard)
            (next_later m packet c.args.arrival p c.args.self.now.next _ refl h.next c.if-arrival-self.false one (omega arith));
        none_once_left = h.none_once_left;
      };
      is = ap (λ (q : PlainCell). record { member = m; cell = q }) heard;
    }
