use Rattle.std.proofs.Common.{◌≡◌, ◌∙◌, ◌+◌, ◌-◌, ◌++◌, [], ◌∷◌, decimal, drop, ap, subst, sym, arith}
use Rattle.std.proofs.lemmas.List.{drop-drop}
use Rattle.std.specs.Result.{OnOk}
use Rattle.csv.specs.Writing.{default_writer, row_text}
use Rattle.srm_report.specs.Records.{HasText}
use Rattle.srm_report.specs.Trace.{cause_word}
use Rattle.srm_report.proofs.scopes.scope_lines.put_entry.Goals as goal

pub returns : goal.returns
returns c text h =
    let (bytes, count) = c.tag_of_cause-count.result in
    let some : 9 - count ≡ 8 - count + 1 = omega arith in
    let word : c.word_of_tag.result.now ≡ cause_word c.args.entry.now.cause =
    c.word_of_tag.ensures ∙ ap (λ n. drop n bytes) some ∙ sym (drop-drop 1 (8 - count) bytes)
    ∙ ap (drop 1) c.tag_of_cause-count.ensures.word in
    let time = c.text.ensures ∙ c.number.ensures in
    let member = c.text-2.ensures ∙ c.number-2.ensures ∙ ap decimal c.from.ensures in
    let name = c.text-3.ensures ∙ c.name.ensures in
    let sent = c.text-4.ensures ∙ c.packet.ensures in
    let scope = c.text-5.ensures ∙ c.hops.ensures in
    let requester = c.text-6.ensures ∙ c.fields_of_local-requester.ensures.requester in
    let width = c.text-7.ensures ∙ c.fields_of_local-requester.ensures.width in
    let heard = c.text-8.ensures ∙ c.number-3.ensures in
    subst (λ fields. OnOk c.put_record.result (HasText c.put_record.new.writer (text ++ row_text default_writer fields)))
    (λ i. time i ∷ member i ∷ word i ∷ name i ∷ sent i ∷ scope i ∷ requester i ∷ width i ∷ heard i ∷ [])
    (c.put_record.ensures text h)
