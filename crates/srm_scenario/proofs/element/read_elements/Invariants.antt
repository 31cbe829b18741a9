use Rattle.std.proofs.Common.{◌≡◌, ◌++◌, drop, map}
use Rattle.toml.specs.View.{view}
use Rattle.srm_scenario.specs.declared.fault.ScenarioFault.TheVariants.{BadKey}
use Rattle.srm_scenario.specs.Rules.{fits_element}
use Rattle.srm_scenario.specs.Described.{table_of}
use Rattle.srm_scenario.specs.Faults.{faults_by}
use Rattle.srm_scenario.proofs.element.read_elements.Given as goal

abbrev pub invariant-loop-place : goal.invariant-loop-place
invariant-loop-place g l =
    let rules = g.E.Element.rules l.version in
    record {
      faults : faults_by (BadKey l.part) (fits_element rules) l.place (map view (drop l.place l.values))
          ≡ faults_by (BadKey l.part) (fits_element rules) 0 (map view l.values);
      elements : l.elements.items ++ map (λ d. g.E.Element.reading (table_of (view d))) (drop l.place l.values)
          ≡ map (λ d. g.E.Element.reading (table_of (view d))) l.values;
    }
