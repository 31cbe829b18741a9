use Rattle.std.proofs.Common.{rules, ◌≡◌, ◌++◌, string_bytes}
use Rattle.toml.specs.View.{table_view}
use Rattle.srm_explain.specs.Misfits.{misfit_sentence, Breaks}
use Rattle.srm_explain.specs.Explanations.{note, written_in, TellsCopy}
use Rattle.srm_explain.proofs.explanation.told_of_misfit.Goals as goal

pub returns : goal.returns
returns c =
    let l = c.args.parsed.draft.now in
    let ds = written_in c.args.part (table_view c.args.parsed.top.now) in
    let copy = string_bytes c.in_ok-copy.copy in
    let breaks : Breaks l c.args.fault c.in-Some.misfit = search rules in
    let tells : TellsCopy l c.args.fault ds c.args.place copy =
    (c.copied_in-copied.result, c.copied_in-copied.ensures, c.in_ok-copy.ensures) in
    let picture = string_bytes c.in_ok-picture.picture in
    let line : string_bytes c.in_ok-note.note ≡ note (misfit_sentence c.in-Some.misfit) = search rules in
    let told : string_bytes c.in_ok-told.told ≡ picture ++ (note (misfit_sentence c.in-Some.misfit) ++ copy) = search rules in
    (c.in-Some.misfit, breaks, copy, tells, picture, told)
