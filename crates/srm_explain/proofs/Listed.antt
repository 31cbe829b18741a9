-- The links of a draft, and lists that are not empty.
use Rattle.std.proofs.Common.{◌≡◌, ◌≢◌, ◌∙◌, ◌-◌, List, [], ◌∷◌}
use Rattle.std.proofs.Common.{length, Option, Some, None, ap, arith, ◌<◌}
use Rattle.srm_scenario.specs.declared.draft.Draft.{Draft}
use Rattle.srm_scenario.specs.declared.topology.Topology.{Topology}
use Rattle.srm_scenario.specs.Drafts.{links_listed}
use Rattle.srm_explain.specs.Misfits.{links_of}
use Rattle.srm_scenario.proofs.TopologyTrees.{links_length}

-- a topology has one link fewer than nodes
pub links_of_topology : (l : Draft) (t : Topology) → l.topology ≡ Some t → length (links_of l) ≡ l.nodes - 1
links_of_topology l t is =
    ap (λ (o : Option Topology). length (links_listed o l.nodes l.delays l.links.items)) is ∙ links_length t l.delays 1 (l.nodes - 1)

-- without a topology they are those listed
pub links_without_topology : (l : Draft) → l.topology ≡ None → links_of l ≡ l.links.items
links_without_topology l none = ap (λ (o : Option Topology). links_listed o l.nodes l.delays l.links.items) none

-- a list that is longer than none is not empty
pub not_empty : {A : Type 0} (xs : List A) → 0 < length xs → xs ≢ []
not_empty [] some e = absurd (omega arith)
not_empty (x ∷ xs) some e = cc
