use Rattle.std.proofs.Common.{sym, Some}
use Rattle.srm_cell.specs.Views.{plain_cell}
use Rattle.srm_cell.proofs.Saying.{no_box, cannot_say, wanting}
use Rattle.srm_cell.proofs.cell.Cell.ask.Goals as goal

pub returns-in_default : goal.returns-in_default
returns-in_default g c = no_box g.M.Participant.plain c.args.self.now.member _ (Some c.args.cause.now) (sym c.in_default.is)

pub returns-in-Err-NoMemory : goal.returns-in-Err-NoMemory
returns-in-Err-NoMemory g c = wanting g.M.Participant.plain c.args.self.now.member _ (sym c.in-Some.is) c.args.key c.args.cause.now
    (plain_cell g.M.Participant.plain c.args.self.now) _ (rw c.in-Err-NoMemory.field-0-is at c.in-Err-NoMemory.ensures)

pub returns-in-Err-Spent : goal.returns-in-Err-Spent
returns-in-Err-Spent g c = cannot_say g.M.Participant.plain c.args.self.now.member _ (sym c.in-Some.is) c.args.key c.args.cause.now
    (plain_cell g.M.Participant.plain c.args.self.now) _ (rw c.in-Err-Spent.field-0-is at c.in-Err-Spent.ensures)
