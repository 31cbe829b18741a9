use Rattle.std.proofs.Common.{◌∙◌, ◌-◌, ◌++◌, [], ◌∷◌, decimal, ap, subst}
use Rattle.std.specs.Result.{OnOk}
use Rattle.csv.specs.Writing.{default_writer, row_text}
use Rattle.srm_report.specs.Records.{HasText}
use Rattle.srm_report.proofs.members.member_lines.put_member.Goals as goal

pub returns : goal.returns
returns c text h =
    let n = c.args.counts.now in
    let less = c.saturating_sub-open.ensures ∙ ap (λ x. n.lost - x) c.from.ensures in
    let member = c.text.ensures ∙ c.number.ensures ∙ ap decimal c.from-2.ensures in
    let role = c.as_bytes.ensures.value ∙ c.word_of_role.ensures in
    let node = c.text-2.ensures ∙ c.number-2.ensures ∙ ap decimal c.from-3.ensures in
    let joined = c.text-3.ensures ∙ c.or_dash.ensures in
    let left = c.text-4.ensures ∙ c.or_dash-2.ensures in
    let drawn = c.text-5.ensures ∙ c.number-3.ensures in
    let heard = c.text-6.ensures ∙ c.number-4.ensures in
    let lost = c.as_bytes-2.ensures.value ∙ c.format.ensures.text in
    let fixed = c.text-7.ensures ∙ c.number-5.ensures in
    let still = c.as_bytes-3.ensures.value ∙ c.format-2.ensures.text ∙ ap decimal less in
    let requests = c.text-8.ensures ∙ c.number-6.ensures in
    let repairs = c.text-9.ensures ∙ c.number-7.ensures in
    let sessions = c.text-10.ensures ∙ c.number-8.ensures in
    subst (λ fields. OnOk c.put_record.result (HasText c.put_record.new.writer (text ++ row_text default_writer fields)))
    (λ i. member i ∷ role i ∷ node i ∷ joined i ∷ left i ∷ drawn i ∷ heard i ∷ lost i ∷ fixed i ∷ still i
    ∷ requests i ∷ repairs i ∷ sessions i ∷ [])
    (c.put_record.ensures text h)
