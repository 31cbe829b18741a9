use Rattle.std.proofs.Common.{◌≡◌, ◌∙◌, [], ◌∷◌, ◌||◌, append_assoc, ap, arith, refl, sym, subst}
use Rattle.std.specs.List.{list_any}
use Rattle.std.proofs.lemmas.List.Recursion.{or_push}
use Rattle.srm_member.specs.Kinds.{is_leave}
use Rattle.srm_report.specs.Courses.{LoseInTurn}
use Rattle.srm_report.proofs.operations.member_operations.MemberOperations.take_row.Goals as goal

pub returns : goal.returns
returns c before was = record {
  lost = λ after o.
      let turn = subst LoseInTurn (append_assoc before (c.args.row.now ∷ []) after) o in
      c.in_ok-note.ensures before after turn (was.lost (c.args.row.now ∷ after) turn);
  asked = c.in_ok-note_sent.ensures before was.asked;
  gone = (let left : c.if-self.self ≡ (c.args.self.now.left || is_leave c.args.row.now.cause) = grind arith in left)
      ∙ ap (λ b. b || is_leave c.args.row.now.cause) was.gone
      ∙ sym (or_push (list_any (λ r. is_leave r.cause)) (λ r. is_leave r.cause) refl (λ x xs. refl) before c.args.row.now);
}
