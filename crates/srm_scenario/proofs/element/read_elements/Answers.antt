use Rattle.std.proofs.Common.{◌∙◌, ◌++◌, ◌+◌, List, map, sym, ap, inr, drop}
use Rattle.toml.specs.View.{view}
use Rattle.srm_scenario.specs.declared.fault.ScenarioFault.TheVariants.{BadKey}
use Rattle.srm_scenario.specs.Rules.{fits_element}
use Rattle.srm_scenario.specs.Described.{table_of}
use Rattle.srm_scenario.specs.Faults.{first}
use Rattle.srm_scenario.proofs.Repetition.{kept, left_out, next_fails, next_passes, next_read}
use Rattle.srm_scenario.proofs.element.read_elements.Goals as goal

pub returns-in_default-clause-fault : goal.returns-in_default-clause-fault
returns-in_default-clause-fault g c =
    let d = view c.index-values-place.result in
    let rules = g.E.Element.rules c.args.version in
    let test = left_out (fits_element rules d) (g.E.Element.reading (table_of d)) c.in_ok-element.field-0 c.in_ok-element.ensures
    c.in_default.is in
    inr (sym (ap first c.loop-place.invariant.faults)
    ∙ next_fails c.args.values.now c.loop-place.place c.index-values-place.result c.loop-place-test.true c.index-values-place.is
    (BadKey c.args.part) (fits_element rules) test)

pub loop-place-preserved : goal.loop-place-preserved
loop-place-preserved g c =
    let d = view c.index-values-place.result in
    let rules = g.E.Element.rules c.args.version in
    let read = kept (fits_element rules d) (g.E.Element.reading (table_of d)) c.in-Some.element c.in_ok-element.field-0
    c.in_ok-element.ensures c.in-Some.is in
    record {
      faults = next_passes c.args.values.now c.loop-place.place c.index-values-place.result c.loop-place-test.true c.index-values-place.is
          (BadKey c.args.part) (fits_element rules) read.0 ∙ c.loop-place.invariant.faults;
      elements = ap (λ (l : List g.row.E.Denot).
          l ++ map (λ v. g.E.Element.reading (table_of (view v))) (drop (c.loop-place.place + 1) c.args.values.now))
          c.in_ok-push.ensures.items
          ∙ next_read c.args.values.now c.loop-place.place c.index-values-place.result c.loop-place-test.true c.index-values-place.is
          (λ v. g.E.Element.reading (table_of (view v))) c.loop-place.elements.items c.in-Some.element read.1
          ∙ c.loop-place.invariant.elements;
    }
