use Rattle.std.proofs.Common.{sym, ◌∙◌, ap, subst}
use Rattle.srm_cell.specs.Cells.{first_arrival, first_mark, next_timer, earlier, next_event, due_in}
use Rattle.srm_cell.specs.Pending.{IsNext, next_of, sooner_pending}
use Rattle.srm_cell.specs.Views.{plain_cell}
use Rattle.srm_cell.proofs.Nexts.{keyed_next, sooner_stands}
use Rattle.srm_cell.proofs.cell.Cell.by_keys.Goals as goal

pub returns : goal.returns
unfolding next_event
returns g c =
    let m = c.args.self.now.number in
    let p = plain_cell g.M.Participant.plain c.args.self.now in
    let a = first_arrival m p p.inbox in
    let k = first_mark m p p.script in
    let t = next_timer m p (due_in p.holds) in
    let is = c.take_place_if_any-2.ensures ∙ ap (sooner_pending c.arrival.result) c.take_place_if_any.ensures in
    subst (λ n. IsNext m p n (earlier a (earlier k t))) (sym (c.of.ensures ∙ ap next_of is))
    (keyed_next m p _ (earlier a (earlier k t))
    (sooner_stands m p c.arrival.result _ a (earlier k t) c.arrival.ensures
    (sooner_stands m p c.mark.result c.timer-next.result k t c.mark.ensures c.timer-next.ensures)))
