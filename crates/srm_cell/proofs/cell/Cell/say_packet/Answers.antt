use Rattle.std.proofs.Common.{◌∙◌, [], Some, None, sym}
use Rattle.srm_member.specs.declared.cause.Cause.TheVariants.{Arrival}
use Rattle.srm_cell.specs.Cells.{about_of}
use Rattle.srm_cell.proofs.Answering.{answered_row}
use Rattle.srm_cell.proofs.cell.Cell.say_packet.Goals as goal

pub returns : goal.returns
returns g c =
    let a = c.in_ok-reaction.reaction in
    answered_row g.M.Participant.plain c.args.key (Arrival c.args.packet) a c.args.self.now c.ask.new.self c.in_ok-reaction.ensures
    c.quiet_row-row.result
    (c.quiet_row-row.ensures ∙ (λ i. record {
      key = c.args.key;
      cause = c.word-cause_word.ensures i;
      about = about_of (Some (sym c.in-Arrival.is i)) a.body;
      told = c.told.ensures i;
      lost = [];
      sent = None;
      adapted = None;
    }))
    _ _ _ c.put_answer.result c.put_answer.ensures
