use Rattle.std.proofs.Common.{◌≡◌, ◌++◌, drop, flat_map, map}
use Rattle.toml.specs.View.{view}
use Rattle.toml.specs.declared.value.Value.{Value}
use Rattle.srm_scenario.specs.declared.fault.ScenarioFault.TheVariants.{BadKey}
use Rattle.srm_scenario.specs.Described.{repeated}
use Rattle.srm_scenario.specs.Faults.{faults_by, fits_repeated}
use Rattle.srm_scenario.proofs.repeated.read_repeated.Given as goal

abbrev pub invariant-loop-place : goal.invariant-loop-place
invariant-loop-place g l =
    let test = fits_repeated (g.E.Element.rules l.version) g.E.Element.reading g.E.Repeated.copy g.E.Repeated.in_range in
    let stands = λ (v : Value). repeated g.E.Repeated.copy g.E.Element.reading (view v) in
    record {
      faults : faults_by (BadKey l.part) test l.place (map view (drop l.place l.values))
          ≡ faults_by (BadKey l.part) test 0 (map view l.values);
      elements : l.elements.items ++ flat_map stands (drop l.place l.values) ≡ flat_map stands l.values;
    }
