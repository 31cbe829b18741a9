use Rattle.std.proofs.Common.{refl, sym, subst, ◌∙◌, None, Some}
use Rattle.srm_cell.specs.Cells.{Done}
use Rattle.srm_cell.specs.InnerSteps.{AnswersEvent}
use Rattle.srm_cell.specs.Views.{HasWork, plain_cell, known_in}
use Rattle.srm_cell.proofs.Putting.{row_is_put}
use Rattle.srm_cell.proofs.Saying.{no_box, cannot_leave, wanting_end, left}
use Rattle.srm_cell.proofs.cell.Cell.leave.Goals as goal

pub returns-in_default : goal.returns-in_default
returns-in_default g c = no_box g.M.Participant.plain c.args.self.now.member _ None c.in_default.ensures.value

pub returns-in-Err-NoMemory : goal.returns-in-Err-NoMemory
returns-in-Err-NoMemory g c = wanting_end g.M.Participant.plain c.args.self.now.member c.in-Some.member c.in-Some.ensures.value
    c.args.key (plain_cell g.M.Participant.plain c.args.self.now) _ (rw c.in-Err-NoMemory.field-0-is at c.in-Err-NoMemory.ensures)

pub returns-in-Err-Spent : goal.returns-in-Err-Spent
returns-in-Err-Spent g c = cannot_leave g.M.Participant.plain c.args.self.now.member c.in-Some.member c.in-Some.ensures.value
    c.args.key (plain_cell g.M.Participant.plain c.args.self.now) _ (rw c.in-Err-Spent.field-0-is at c.in-Err-Spent.ensures)

pub returns-in_default-new : goal.returns-in_default-new
returns-in_default-new g c =
    subst HasWork (sym (left g.M.Participant.plain c.args.self.now.member c.in-Some.member c.in-Some.ensures.value
    c.args.key (plain_cell g.M.Participant.plain c.args.self.now) _ c.in-Ok.exit c.in-Ok.ensures)) tt

pub returns : goal.returns
returns g c =
    let f = g.M.Participant.plain in
    let now = c.args.self.now in
    let done = left f now.member c.in-Some.member c.in-Some.ensures.value c.args.key (plain_cell f now) _ c.in-Ok.exit c.in-Ok.ensures in
    row_is_put
    (λ r. AnswersEvent f c.args.key None now r (record now { member = c.take.new.self; exit = Some c.in-Ok-new.exit }))
    _ _ _ c.put.result c.put.ensures.row c.put.ensures.memory (
      done ∙ (λ i. Done (record {
        cell = record (plain_cell f now) { holds = known_in f (sym c.take.ensures.after i); exit = Some (sym c.in-Ok-new.ensures.ok i) };
        row = sym c.quiet_row-row.ensures i;
      })),
      record { number = refl; left = λ none x q. c.take.ensures.after },
    )
    (subst HasWork (sym done) tt)
