use Rattle.std.proofs.Common.{◌∙◌, [], Some, None, ap}
use Rattle.srm_cell.specs.Cells.{about_of}
use Rattle.srm_cell.proofs.Answering.{answered_row}
use Rattle.srm_cell.proofs.cell.Cell.say.Goals as goal

pub returns : goal.returns
returns g c =
    let a = c.in_ok-reaction.reaction in
    answered_row g.M.Participant.plain c.args.key c.args.cause a c.args.self.now c.ask.new.self c.in_ok-reaction.ensures
    c.quiet_row-row.result
    (c.quiet_row-row.ensures ∙ (λ i. record {
      key = c.args.key;
      cause = c.word-cause_word.ensures i;
      about = (c.about-subject.ensures ∙ ap (about_of (Some c.args.cause)) c.body.ensures) i;
      told = c.told.ensures i;
      lost = [];
      sent = None;
      adapted = None;
    }))
    _ _ _ c.put_answer.result c.put_answer.ensures
