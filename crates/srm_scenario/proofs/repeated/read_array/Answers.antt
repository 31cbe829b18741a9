use Rattle.std.proofs.Common.{◌≡◌, ◌∙◌, List, [], flat_map, sym, ap, subst, IfOk, IfErr}
use Rattle.srm_scenario.specs.declared.fault.ScenarioFault.{ScenarioFault}
use Rattle.srm_scenario.specs.Described.{repeated}
use Rattle.srm_scenario.specs.Faults.{repeated_faults, IsFault}
use Rattle.srm_scenario.proofs.Arrays.{flat-view}
use Rattle.srm_scenario.proofs.repeated.read_array.Goals as goal

pub returns-clause-no_fault : goal.returns-clause-no_fault
returns-clause-no_fault g c =
    subst (λ (fs : List ScenarioFault). IfOk c.read_repeated.result (λ _. fs ≡ []))
    (λ i. repeated_faults c.args.part (g.E.Element.rules (sym c.requires i)) g.E.Element.reading g.E.Repeated.copy g.E.Repeated.in_range
    (c.array.ensures i)) c.read_repeated.ensures.no_fault

pub returns-clause-read : goal.returns-clause-read
returns-clause-read g c =
    let stand = repeated g.E.Repeated.copy g.E.Element.reading in
    subst (λ (xs : List g.row.E.Denot). IfOk c.read_repeated.result (λ all. all.items ≡ xs))
    (sym (flat-view stand c.array.result.now) ∙ ap (flat_map stand) c.array.ensures) c.read_repeated.ensures.read

pub returns-clause-fault : goal.returns-clause-fault
returns-clause-fault g c =
    subst (λ (fs : List ScenarioFault). IfErr c.read_repeated.result (λ e. IsFault e fs))
    (λ i. repeated_faults c.args.part (g.E.Element.rules (sym c.requires i)) g.E.Element.reading g.E.Repeated.copy g.E.Repeated.in_range
    (c.array.ensures i)) c.read_repeated.ensures.fault
