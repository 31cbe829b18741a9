use Rattle.std.proofs.Common.{◌≡◌, ◌++◌, ◌∷◌, [], false, sym, subst, arith}
use Rattle.srm_member.specs.Kinds.{is_ask, is_answer, is_sent}
use Rattle.srm_member.specs.declared.told.Told.TheVariants.{Sent}
use Rattle.srm_report.specs.Sendings.{TellSent}
use Rattle.srm_report.proofs.SendingLemmas.{about_none, caused_other, on_ok, sent_repair, sent_request, told_other}
use Rattle.srm_report.proofs.operations.sendings.note_sent.Goals as goal

pub returns-in_default : goal.returns-in_default
returns-in_default c = λ rows was. about_none rows c.args.row.now c.args.sent.now was c.in_default.not-Named

pub returns-then-ne : goal.returns-then-ne
returns-then-ne c = λ rows was.
    let other : is_sent c.args.row.now.told ≡ false = grind arith in
    told_other rows c.args.row.now c.args.sent.now was other

pub returns-in-Ask : goal.returns-in-Ask
returns-in-Ask c = λ rows was.
    let told : c.args.row.now.told ≡ Sent = grind arith in
    on_ok c.count_request.result _ _ c.count_request.ensures
    (λ e. subst (TellSent (rows ++ c.args.row.now ∷ [])) (sym e)
    (sent_request rows c.args.row.now c.args.sent.now was c.in-Named.name c.in-Ask.is told c.in-Named.is))

pub returns-in-Answer : goal.returns-in-Answer
returns-in-Answer c = λ rows was.
    let told : c.args.row.now.told ≡ Sent = grind arith in
    on_ok c.count_repair.result _ _ c.count_repair.ensures
    (λ e. subst (TellSent (rows ++ c.args.row.now ∷ [])) (sym e)
    (sent_repair rows c.args.row.now c.args.sent.now was c.in-Named.name c.in-Answer.is told c.in-Named.is))

pub returns-in_default-cause : goal.returns-in_default-cause
returns-in_default-cause c = λ rows was.
    let ask : is_ask c.args.row.now.cause ≡ false = grind arith in
    let answer : is_answer c.args.row.now.cause ≡ false = grind arith in
    caused_other rows c.args.row.now c.args.sent.now was ask answer
