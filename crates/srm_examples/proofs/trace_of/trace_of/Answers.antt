use Rattle.std.proofs.Common.{◌≡◌, ◌∙◌, Ok, ap, subst}
use Rattle.std.proofs.lemmas.Option.{IfSome_then}
use Rattle.std.specs.Prelude.{IfSome}
use Rattle.srm_scenario.specs.Faults.{scenario_of_text}
use Rattle.srm_scenario.specs.Plain.{PlainScenario}
use Rattle.srm_cell.specs.Setting.{setting_of}
use Rattle.srm_model.specs.World.{IsLast}
use Rattle.srm_report.specs.Trace.{trace_of_rows}
use Rattle.srm_examples.proofs.Kept.{kept}
use Rattle.srm_examples.proofs.trace_of.trace_of.Goals as goal

pub returns : goal.returns
returns c =
    let p = c.in_ok-ok.field-0 in
    let read : scenario_of_text c.args.text.now ≡ Ok p = kept _ _ _ _ c.in_ok-ok.ensures.value c.scenario_of_text.ensures.scenario in
    let o = c.in_ok-outcome.ensures in
    let last = subst (λ (s : PlainScenario). IsLast (setting_of s c.args.seed) o.world) c.with_seed-scenario.ensures o.last in
    let text : IfSome c.ok-3.result (λ t. t.items ≡ trace_of_rows c.as_slice.result.now) =
    kept _ _ c.trace_text.result c.ok-3.result c.ok-3.ensures.value c.trace_text.ensures in
    IfSome_then c.ok-3.result text (λ t is.
    (p, read, (o.world, last, is ∙ ap trace_of_rows (c.as_slice.ensures.value ∙ o.trace_is))))
