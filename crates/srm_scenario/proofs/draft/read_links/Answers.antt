use Rattle.std.proofs.Common.{◌≡◌, ◌∙◌, List, [], map, sym, ap, subst, IfOk, IfErr}
use Rattle.srm_net.specs.declared.link.LinkSpec.{LinkSpec}
use Rattle.srm_scenario.specs.declared.fault.ScenarioFault.{ScenarioFault}
use Rattle.srm_scenario.specs.Described.{link_of, table_of}
use Rattle.srm_scenario.specs.Faults.{faults_of_links, IsFault}
use Rattle.srm_scenario.proofs.Arrays.{map-view}
use Rattle.srm_scenario.proofs.draft.read_links.Goals as goal

pub returns-clause-no_fault : goal.returns-clause-no_fault
returns-clause-no_fault c =
    subst (λ (fs : List ScenarioFault). IfOk c.read_elements.result (λ _. fs ≡ []))
    (λ i. faults_of_links (sym c.requires i) (c.array.ensures i)) c.read_elements.ensures.no_fault

pub returns-clause-read : goal.returns-clause-read
returns-clause-read c =
    subst (λ (xs : List LinkSpec). IfOk c.read_elements.result (λ all. all.items ≡ xs))
    (sym (map-view (λ d. link_of (table_of d)) c.array.result.now) ∙ ap (map (λ d. link_of (table_of d))) c.array.ensures)
    c.read_elements.ensures.read

pub returns-clause-fault : goal.returns-clause-fault
returns-clause-fault c =
    subst (λ (fs : List ScenarioFault). IfErr c.read_elements.result (λ e. IsFault e fs))
    (λ i. faults_of_links (sym c.requires i) (c.array.ensures i)) c.read_elements.ensures.fault
