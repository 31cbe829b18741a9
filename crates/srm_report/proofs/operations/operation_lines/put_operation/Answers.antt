use Rattle.std.proofs.Common.{◌∙◌, ◌<◌, ◌++◌, [], ◌∷◌, IfSome, decimal, ap, length, subst, sym}
use Rattle.std.specs.Result.{OnOk}
use Rattle.csv.specs.Writing.{default_writer, row_text}
use Rattle.srm_report.specs.declared.losses.mended_loss.MendedLoss.{MendedLoss}
use Rattle.srm_report.specs.Losses.{delay_of}
use Rattle.srm_report.specs.Records.{HasText}
use Rattle.srm_report.specs.Rows.{or_dash}
use Rattle.srm_report.proofs.operations.operation_lines.put_operation.Goals as goal

pub delay-requires : goal.delay-requires
delay-requires c =
    let members = length c.args.net.now.hosts in
    subst (λ o. IfSome o (λ r. (r.member < members) × (c.args.name.source < members))) (sym c.last_of-last.ensures)
    c.requires.members

pub returns : goal.returns
returns c text h =
    let source = c.text.ensures ∙ c.number.ensures ∙ ap decimal c.from.ensures in
    let page = c.text-2.ensures ∙ c.number-2.ensures ∙ ap decimal c.from-2.ensures in
    let number = c.text-3.ensures ∙ c.number-3.ensures ∙ ap decimal c.from-3.ensures in
    let losers = c.text-4.ensures ∙ c.number-4.ensures in
    let recovered = c.text-5.ensures ∙ c.number-5.ensures in
    let left = c.text-6.ensures ∙ c.number-6.ensures in
    let detected = c.text-7.ensures ∙ c.or_dash.ensures in
    let asked = c.text-8.ensures ∙ c.or_dash-2.ensures in
    let requests = c.text-9.ensures ∙ c.number-7.ensures in
    let repairs = c.text-10.ensures ∙ c.number-8.ensures in
    let last = c.text-11.ensures ∙ c.member_of.ensures ∙ ap (or_dash (λ (r : MendedLoss). decimal r.member)) c.last_of-last.ensures in
    let delay = c.text-12.ensures ∙ c.delay.ensures ∙ ap (or_dash (delay_of c.args.net.now c.args.name.source)) c.last_of-last.ensures in
    subst (λ fields. OnOk c.put_record.result (HasText c.put_record.new.writer (text ++ row_text default_writer fields)))
    (λ i. source i ∷ page i ∷ number i ∷ losers i ∷ recovered i ∷ left i ∷ detected i ∷ asked i ∷ requests i ∷ repairs i
    ∷ last i ∷ delay i ∷ [])
    (c.put_record.ensures text h)
