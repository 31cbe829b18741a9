use Rattle.std.proofs.Common.{◌∙◌, ◌++◌, [], ◌∷◌, ℕ, decimal, ap, slice_index, subst}
use Rattle.std.specs.Result.{OnOk}
use Rattle.csv.specs.Writing.{default_writer, row_text}
use Rattle.srm_report.specs.Records.{HasText}
use Rattle.srm_report.proofs.links.put_link.Goals as goal

pub returns : goal.returns
returns c text h =
    let number = λ (place : ℕ). decimal (slice_index c.args.numbers.now place) in
    let drawop = c.text-2.ensures ∙ c.number-2.ensures ∙ ap number c.place.ensures.place in
    let request = c.text-3.ensures ∙ c.number-3.ensures ∙ ap number c.place-2.ensures.place in
    let repair = c.text-4.ensures ∙ c.number-4.ensures ∙ ap number c.place-3.ensures.place in
    let session = c.text-5.ensures ∙ c.number-5.ensures ∙ ap number c.place-4.ensures.place in
    let dropped = c.text-6.ensures ∙ c.number-6.ensures ∙ ap number c.place-5.ensures.place in
    subst (λ fields. OnOk c.put_record.result (HasText c.put_record.new.writer (text ++ row_text default_writer fields)))
    (λ i. (c.text.ensures ∙ c.number.ensures) i ∷ drawop i ∷ request i ∷ repair i ∷ session i ∷ dropped i ∷ [])
    (c.put_record.ensures text h)
