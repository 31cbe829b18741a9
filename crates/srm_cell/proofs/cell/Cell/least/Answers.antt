use Rattle.std.proofs.Common.{◌≡◌, ◌⊎◌, ◌∙◌, IsSomeAnd, None, sym, ap, subst, arith}
use Rattle.srm_net.specs.declared.rank.Rank.TheVariants.{Request, Repair}
use Rattle.srm_cell.specs.Cells.{due_in, earlier, first_arrival, first_mark, next_event, next_timer}
use Rattle.srm_cell.specs.declared.pending_event.Source.TheVariants.{Inbox, Script, Timer}
use Rattle.srm_cell.specs.Pending.{IsNext, first_of, tick_of}
use Rattle.srm_cell.specs.Views.{plain_cell}
use Rattle.srm_cell.proofs.Nexts.{arrival_next, level_next, mark_next, timer_next}
use Rattle.srm_cell.proofs.cell.Cell.least.Goals as goal

pub returns-then-arrival-timer : goal.returns-then-arrival-timer
returns-then-arrival-timer g c =
    let m = c.args.self.now.number in
    let p = plain_cell g.M.Participant.plain c.args.self.now in
    let a : c.arrival_time-arrival.result ≡ tick_of (first_of Inbox m p) = c.arrival_time-arrival.ensures m p in
    let k : c.mark_time-mark.result ≡ tick_of (first_of Script m p) = c.mark_time-mark.ensures m p in
    let t : c.timer_time-timer.result ≡ tick_of (first_of Timer m p) =
    c.timer_time-timer.ensures m p ∙ ap (λ d. tick_of (next_timer m p d)) c.due-due.ensures in
    subst (λ n. IsNext m p (record { time = n; source = Inbox }) (next_event m p)) (sym a)
    (arrival_next m p (omega (arith, a, k)) (omega (arith, a, t)) (omega (arith, k)) (omega (arith, t)))

pub returns-then-is_expiry : goal.returns-then-is_expiry
returns-then-is_expiry g c =
    let m = c.args.self.now.number in
    let p = plain_cell g.M.Participant.plain c.args.self.now in
    let a : c.arrival_time-arrival.result ≡ tick_of (first_of Inbox m p) = c.arrival_time-arrival.ensures m p in
    let k : c.mark_time-mark.result ≡ tick_of (first_of Script m p) = c.mark_time-mark.ensures m p in
    let t : c.timer_time-timer.result ≡ tick_of (first_of Timer m p) =
    c.timer_time-timer.ensures m p ∙ ap (λ d. tick_of (next_timer m p d)) c.due-due.ensures in
    let ranked = subst (λ o. IsSomeAnd o (λ d. (d.rank ≡ Request) ⊎ (d.rank ≡ Repair))) c.due-due.ensures
    (c.is_expiry.ensures.0 c.if-is_expiry.true) in
    subst (λ n. IsNext m p (record { time = n; source = Inbox }) (next_event m p)) (sym a)
    (level_next m p (omega (arith, a, k)) (omega (arith, a, t)) (omega (arith, k)) ranked)

pub returns-then-timer-mark : goal.returns-then-timer-mark
returns-then-timer-mark g c =
    let m = c.args.self.now.number in
    let p = plain_cell g.M.Participant.plain c.args.self.now in
    let a : c.arrival_time-arrival.result ≡ tick_of (first_of Inbox m p) = c.arrival_time-arrival.ensures m p in
    let k : c.mark_time-mark.result ≡ tick_of (first_of Script m p) = c.mark_time-mark.ensures m p in
    let t : c.timer_time-timer.result ≡ tick_of (first_of Timer m p) =
    c.timer_time-timer.ensures m p ∙ ap (λ d. tick_of (next_timer m p d)) c.due-due.ensures in
    subst (λ n. IsNext m p (record { time = n; source = Timer }) (next_event m p)) (sym t)
    (timer_next m p (omega (arith, a, t)) (omega (arith, k, t)) (omega (arith, a)) (omega (arith, k)))

pub returns-then-mark-timer : goal.returns-then-mark-timer
returns-then-mark-timer g c =
    let m = c.args.self.now.number in
    let p = plain_cell g.M.Participant.plain c.args.self.now in
    let a : c.arrival_time-arrival.result ≡ tick_of (first_of Inbox m p) = c.arrival_time-arrival.ensures m p in
    let k : c.mark_time-mark.result ≡ tick_of (first_of Script m p) = c.mark_time-mark.ensures m p in
    let t : c.timer_time-timer.result ≡ tick_of (first_of Timer m p) =
    c.timer_time-timer.ensures m p ∙ ap (λ d. tick_of (next_timer m p d)) c.due-due.ensures in
    subst (λ n. IsNext m p (record { time = n; source = Script }) (next_event m p)) (sym k)
    (mark_next m p (omega (arith, a, k)) (omega (arith, k, t)) (omega (arith, a)) (omega (arith, t)))

pub returns-then-is_idle : goal.returns-then-is_idle
unfolding next_event
returns-then-is_idle g c =
    let m = c.args.self.now.number in
    let p = plain_cell g.M.Participant.plain c.args.self.now in
    let none = c.is_idle.ensures.0 c.if-is_idle.true in
    let a : first_arrival m p p.inbox ≡ None = ap (first_arrival m p) none.0 in
    let k : first_mark m p p.script ≡ None = ap (first_mark m p) none.1 in
    let t : next_timer m p (due_in p.holds) ≡ None = ap (next_timer m p) (sym c.due-due.ensures ∙ none.2) in
    subst (λ o. IsNext m p c.of.result o) (λ i. earlier (sym a i) (earlier (sym k i) (sym t i))) c.of.ensures
