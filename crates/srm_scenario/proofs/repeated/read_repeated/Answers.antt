use Rattle.std.proofs.Common.{◌≡◌, ◌∙◌, ◌++◌, ◌+◌, ℕ, List, true, false, ap, sym, inr, drop, flat_map}
use Rattle.std.specs.Prelude.{◌&&◌}
use Rattle.std.specs.List.{list_all}
use Rattle.toml.specs.View.{view}
use Rattle.toml.specs.declared.value.Value.{Value}
use Rattle.srm_scenario.specs.declared.fault.ScenarioFault.TheVariants.{BadKey}
use Rattle.srm_scenario.specs.Rules.{fits_element}
use Rattle.srm_scenario.specs.Described.{copies, repeated, table_of}
use Rattle.srm_scenario.specs.Faults.{fits_repeated, first}
use Rattle.srm_scenario.proofs.Repetition.{kept, left_out, next_fails, next_passes, next_made}
use Rattle.srm_scenario.proofs.repeated.read_repeated.Goals as goal

pub returns-in_default-clause-fault : goal.returns-in_default-clause-fault
returns-in_default-clause-fault g c =
    let d = view c.index-values-place.result in
    let rules = g.E.Element.rules c.args.version in
    let no = left_out (fits_element rules d) (g.E.Element.reading (table_of d)) c.in_ok-element.field-0 c.in_ok-element.ensures
    c.in_default.is in
    let test : fits_repeated rules g.E.Element.reading g.E.Repeated.copy g.E.Repeated.in_range d ≡ false =
    ap (λ b. b && list_all g.E.Repeated.in_range (repeated g.E.Repeated.copy g.E.Element.reading d)) no in
    inr (sym (ap first c.loop-place.invariant.faults)
    ∙ next_fails c.args.values.now c.loop-place.place c.index-values-place.result c.loop-place-test.true c.index-values-place.is
    (BadKey c.args.part) (fits_repeated rules g.E.Element.reading g.E.Repeated.copy g.E.Repeated.in_range) test)

pub returns-then-not-fit-clause-fault : goal.returns-then-not-fit-clause-fault
returns-then-not-fit-clause-fault g c =
    let d = view c.index-values-place.result in
    let rules = g.E.Element.rules c.args.version in
    let read = kept (fits_element rules d) (g.E.Element.reading (table_of d)) c.in-Some.element c.in_ok-element.field-0
    c.in_ok-element.ensures c.in-Some.is in
    let all : copies (λ (k : ℕ). g.E.Repeated.copy k c.every_of.result c.in-Some.element) 0 c.times_repeated.result
    ≡ repeated g.E.Repeated.copy g.E.Element.reading d =
    (λ i. copies (λ (k : ℕ). g.E.Repeated.copy k (c.every_of.ensures i) (read.1 i)) 0 (c.times_repeated.ensures.times i)) in
    let no : list_all g.E.Repeated.in_range (repeated g.E.Repeated.copy g.E.Element.reading d) ≡ false =
    sym (ap (list_all g.E.Repeated.in_range) all) ∙ sym c.in_ok-fit.ensures.fit ∙ c.if-not-fit.true in
    let test : fits_repeated rules g.E.Element.reading g.E.Repeated.copy g.E.Repeated.in_range d ≡ false = (λ i. read.0 i && no i) in
    inr (sym (ap first c.loop-place.invariant.faults)
    ∙ next_fails c.args.values.now c.loop-place.place c.index-values-place.result c.loop-place-test.true c.index-values-place.is
    (BadKey c.args.part) (fits_repeated rules g.E.Element.reading g.E.Repeated.copy g.E.Repeated.in_range) test)

pub loop-place-preserved : goal.loop-place-preserved
loop-place-preserved g c =
    let d = view c.index-values-place.result in
    let rules = g.E.Element.rules c.args.version in
    let read = kept (fits_element rules d) (g.E.Element.reading (table_of d)) c.in-Some.element c.in_ok-element.field-0
    c.in_ok-element.ensures c.in-Some.is in
    let all : copies (λ (k : ℕ). g.E.Repeated.copy k c.every_of.result c.in-Some.element) 0 c.times_repeated.result
    ≡ repeated g.E.Repeated.copy g.E.Element.reading d =
    (λ i. copies (λ (k : ℕ). g.E.Repeated.copy k (c.every_of.ensures i) (read.1 i)) 0 (c.times_repeated.ensures.times i)) in
    let yes : list_all g.E.Repeated.in_range (repeated g.E.Repeated.copy g.E.Element.reading d) ≡ true =
    sym (ap (list_all g.E.Repeated.in_range) all) ∙ sym c.in_ok-fit.ensures.fit ∙ c.if-not-fit.false in
    let test : fits_repeated rules g.E.Element.reading g.E.Repeated.copy g.E.Repeated.in_range d ≡ true = (λ i. read.0 i && yes i) in
    let stands : Value → List g.row.E.Denot = λ v. repeated g.E.Repeated.copy g.E.Element.reading (view v) in
    record {
      faults = next_passes c.args.values.now c.loop-place.place c.index-values-place.result c.loop-place-test.true c.index-values-place.is
          (BadKey c.args.part) (fits_repeated rules g.E.Element.reading g.E.Repeated.copy g.E.Repeated.in_range) test
          ∙ c.loop-place.invariant.faults;
      elements = ap (λ (l : List g.row.E.Denot). l ++ flat_map stands (drop (c.loop-place.place + 1) c.args.values.now))
          (c.in_ok-fit.ensures.pushed c.if-not-fit.false)
          ∙ next_made c.args.values.now c.loop-place.place c.index-values-place.result c.loop-place-test.true c.index-values-place.is
          stands c.loop-place.elements.items _ all ∙ c.loop-place.invariant.elements;
    }
