use Rattle.std.proofs.Common.{◌++◌, ◌∷◌, [], List, sym, ◌∙◌, ap}
use Rattle.srm_cell.proofs.Pushes.{pushed_if}
use Rattle.srm_engine_and_report_tests.specs.declared.recording.Note.{Note}
use Rattle.srm_engine_and_report_tests.proofs.NoteLemmas.{always_ok}
use Rattle.srm_engine_and_report_tests.proofs.recording.RecordingCrew.map.Goals as goal

pub returns-clause-handed : goal.returns-clause-handed
returns-clause-handed g c = always_ok c.map.result _ (
    let pushed = pushed_if c.push.result (c.args.self.now.calls.items ++ c.in-Ok.call ∷ []) c.args.self.now.calls.items
    c.push.new.self.items (sym c.is_err.ensures.value ∙ c.if-is_err.false) c.push.ensures.items in
    let same = c.as_slice.ensures.value in
    pushed ∙ ap (λ (call : List Note). c.args.self.now.calls.items ++ call ∷ []) (rw same at c.in-Ok.ensures))
