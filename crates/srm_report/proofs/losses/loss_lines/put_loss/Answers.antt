use Rattle.std.proofs.Common.{◌∙◌, ◌<◌, ◌++◌, [], ◌∷◌, Option, None, Some, ℕ, IfSome, decimal, ap, length, subst, sym}
use Rattle.std.specs.Result.{OnOk}
use Rattle.csv.specs.Writing.{default_writer, row_text}
use Rattle.srm_report.specs.Losses.{delay_of, recovery_by}
use Rattle.srm_report.specs.Records.{HasText}
use Rattle.srm_report.specs.Rows.{or_dash}
use Rattle.srm_report.proofs.losses.loss_lines.put_loss.Goals as goal

pub delay-requires : goal.delay-requires
delay-requires c =
    let k = c.args.entry.now.0 in
    let members = length c.args.net.now.hosts in
    subst (λ o. IfSome o (λ r. (r.member < members) × (k.name.source < members))) (sym c.recovery.ensures) (at c.args.entry.now.1.recovered)
  where
    at : (o : Option ℕ) → IfSome (recovery_by c.args.entry.now.0.member (Some c.args.entry.now.1.detected) o)
        (λ r. (r.member < length c.args.net.now.hosts) × (c.args.entry.now.0.name.source < length c.args.net.now.hosts))
    at None = tt
    at (Some t) = (c.requires.member, c.requires.source)

pub returns : goal.returns
returns c text h =
    let k = c.args.entry.now.0 in
    let member = c.text.ensures ∙ c.number.ensures ∙ ap decimal c.from.ensures in
    let source = c.text-2.ensures ∙ c.number-2.ensures ∙ ap decimal c.from-2.ensures in
    let page = c.text-3.ensures ∙ c.number-3.ensures ∙ ap decimal c.from-3.ensures in
    let number = c.text-4.ensures ∙ c.number-4.ensures ∙ ap decimal c.from-4.ensures in
    let detected = c.text-5.ensures ∙ c.number-5.ensures in
    let recovered = c.text-6.ensures ∙ c.or_dash.ensures in
    let delay = c.text-7.ensures ∙ c.delay.ensures ∙ ap (or_dash (delay_of c.args.net.now k.name.source)) c.recovery.ensures in
    subst (λ fields. OnOk c.put_record.result (HasText c.put_record.new.writer (text ++ row_text default_writer fields)))
    (λ i. member i ∷ source i ∷ page i ∷ number i ∷ detected i ∷ recovered i ∷ delay i ∷ [])
    (c.put_record.ensures text h)
