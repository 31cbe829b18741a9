-- The faults of what is listed, one check after the other.
use Rattle.std.proofs.Common.{arith}
use Rattle.std.proofs.Common.{◌≡◌, ◌⊎◌, Bool, true, false, List, [], ◌++◌, length, map, Some}
use Rattle.std.proofs.Common.{refl, sym, ap, ◌∙◌, subst, inr, append_assoc}
use Rattle.srm_net.specs.declared.link.LinkSpec.{LinkSpec}
use Rattle.srm_net.specs.Network.{plain_network}
use Rattle.srm_net.specs.DropRules.{DropRules}
use Rattle.srm_scenario.specs.declared.fault.ScenarioFault.{ScenarioFault}
use Rattle.srm_scenario.specs.declared.fault.ScenarioFault.TheVariants.{NoMemory, NotTree, BadDraw, BadSession, BadDrop, BadOutage, BadLoss}
use Rattle.srm_scenario.specs.declared.draft.Draft.{Draft}
use Rattle.srm_scenario.specs.declared.parts.MemberSpec.{MemberSpec}
use Rattle.srm_scenario.specs.Accepted.{IsAccepted}
use Rattle.srm_scenario.specs.Faults.{first, IsFault, fault_unless, faults_by, is_star, member_faults, fits_draw, fits_session, fits_drop}
use Rattle.srm_scenario.specs.Faults.{fits_outage, fits_loss, meaning_faults}
use Rattle.srm_scenario.specs.Drafts.{links_listed, plain_of, faults_in}
use Rattle.srm_scenario.specs.Plain.{PlainScenario, drop_rules_of, network_of}
use Rattle.srm_scenario.specs.Ranges.{InRange, HasItsPages}
use Rattle.srm_scenario.specs.Trees.{is_tree}
use Rattle.std.specs.List.{AllByRecursion}
use Rattle.srm_scenario.proofs.Acceptance.{accepted_from}
use Rattle.srm_scenario.proofs.FaultLists.{here, later, no_faults}
use Rattle.srm_scenario.proofs.TreeLemmas.{without_hosts}

-- the links and members of what is listed, as the code has made them
pub record Made (l : Draft) (links : List LinkSpec) (members : List MemberSpec) : Type 0 where
  pub links_are : links ≡ links_listed l.topology l.nodes l.delays l.links.items
  pub members_are : members ≡ map (λ e. e.spec) l.members.items

abbrev Tree : Draft → List ScenarioFault
Tree l = fault_unless (is_tree (network_of (plain_of l))) NotTree

abbrev Placed : Draft → List ScenarioFault
Placed l = member_faults l.until l.nodes (is_star l.topology) [] 0 l.members.items

abbrev Drawn : Draft → List MemberSpec → List ScenarioFault
Drawn l members = faults_by BadDraw (fits_draw l.until members) 0 l.draws.items

abbrev Told : Draft → List MemberSpec → List ScenarioFault
Told l members = faults_by BadSession (fits_session l.until members) 0 l.sessions.items

abbrev Dropped : Draft → List LinkSpec → List MemberSpec → List ScenarioFault
Dropped l links members = faults_by BadDrop (fits_drop (length links) (length members)) 0 l.drops.items

abbrev Out : Draft → List LinkSpec → List ScenarioFault
Out l links = faults_by BadOutage (fits_outage (length links)) 0 l.outages.items

abbrev Lost : Draft → List LinkSpec → List ScenarioFault
Lost l links = faults_by BadLoss (fits_loss (length links)) 0 l.losses.items

all_faults : Draft → List LinkSpec → List MemberSpec → List ScenarioFault
all_faults l links members = Tree l
    ++ (Placed l ++ (Drawn l members ++ (Told l members ++ (Dropped l links members ++ (Out l links ++ (Lost l links ++ []))))))

-- the faults, by the links and members that were made
are_all : (l : Draft) (links : List LinkSpec) (members : List MemberSpec) → Made l links members → all_faults l links members ≡ faults_in l
unfolding all_faults plain_of meaning_faults
are_all l links members m = grind arith

tree_test : (l : Draft) (links : List LinkSpec) (b : Bool) → links ≡ links_listed l.topology l.nodes l.delays l.links.items
    → is_tree (plain_network l.nodes links []) ≡ b → is_tree (network_of (plain_of l)) ≡ b
unfolding plain_of
tree_test l links b same h = grind (arith, without_hosts)

no_tree_fault : (l : Draft) (links : List LinkSpec) → links ≡ links_listed l.topology l.nodes l.delays l.links.items
    → is_tree (plain_network l.nodes links []) ≡ true → Tree l ≡ []
no_tree_fault l links same h = ap (λ b. fault_unless b NotTree) (tree_test l links true same h)

pub tree_fault : (l : Draft) (links : List LinkSpec) (e : ScenarioFault) → links ≡ links_listed l.topology l.nodes l.delays l.links.items
    → (e ≡ NoMemory) ⊎ ((e ≡ NotTree) × (is_tree (plain_network l.nodes links []) ≡ false)) → IsFault e (faults_in l)
unfolding meaning_faults
tree_fault l links e same h4 = grind (arith, tree_test)

module _ (l : Draft) (links : List LinkSpec) (e : ScenarioFault) (same : links ≡ links_listed l.topology l.nodes l.delays l.links.items)
    (tree : is_tree (plain_network l.nodes links []) ≡ true) where
  pub place_fault : IsFault e (Placed l) → IsFault e (faults_in l)
  unfolding meaning_faults plain_of
  place_fault h = later (Tree l) _ e (no_tree_fault l links same tree) (here (Placed l) _ e h)

  module _ (members : List MemberSpec) (members_are : members ≡ map (λ e. e.spec) l.members.items) (placed : Placed l ≡ []) where
    made : Made l links members
    made = record { links_are = same; members_are = members_are }

    pub sent_fault : first (Drawn l members ++ Told l members) ≡ Some e → IsFault e (faults_in l)
    unfolding all_faults made
    sent_fault h =
        let rest : List ScenarioFault = Dropped l links members ++ (Out l links ++ (Lost l links ++ [])) in
        let sent : IsFault e (Drawn l members ++ (Told l members ++ rest)) = subst (λ (fs : List ScenarioFault). IsFault e fs)
        (append_assoc (Drawn l members) (Told l members) rest) (here (Drawn l members ++ Told l members) rest e (inr h)) in
        let f : IsFault e (all_faults l links members) = later (Tree l) _ e (no_tree_fault l links same tree)
        (later (Placed l) _ e placed sent) in
        subst (λ (fs : List ScenarioFault). IsFault e fs) (are_all l links members made) f

    module _ (drawn : Drawn l members ≡ []) (told : Told l members ≡ []) where
      lost_fault : IsFault e (Dropped l links members ++ (Out l links ++ (Lost l links ++ []))) → IsFault e (faults_in l)
      unfolding all_faults made
      lost_fault h =
          let f : IsFault e (all_faults l links members) = later (Tree l) _ e (no_tree_fault l links same tree)
          (later (Placed l) _ e placed (later (Drawn l members) _ e drawn (later (Told l members) _ e told h))) in
          subst (λ (fs : List ScenarioFault). IsFault e fs) (are_all l links members made) f

      pub dropped_fault : first (Dropped l links members) ≡ Some e → IsFault e (faults_in l)
      dropped_fault h = lost_fault (here (Dropped l links members) _ e (inr h))

      pub spans_fault : Dropped l links members ≡ [] → first (Out l links ++ Lost l links) ≡ Some e → IsFault e (faults_in l)
      spans_fault dropped h =
          lost_fault (later (Dropped l links members) _ e dropped (subst (λ (fs : List ScenarioFault). IsFault e fs)
          (append_assoc (Out l links) (Lost l links) []) (here (Out l links ++ Lost l links) [] e (inr h))))

pub no_fault : (l : Draft) (links : List LinkSpec) (members : List MemberSpec) → Made l links members
    → is_tree (plain_network l.nodes links []) ≡ true
    → Placed l ≡ [] → Drawn l members ≡ [] → Told l members ≡ [] → Dropped l links members ≡ [] → Out l links ≡ [] → Lost l links ≡ []
    → faults_in l ≡ []
unfolding all_faults
no_fault l links members m tree placed drawn told dropped out lost =
    sym (are_all l links members m)
    ∙ no_faults (Tree l) _ (no_tree_fault l links m.links_are tree)
    (no_faults (Placed l) _ placed (no_faults (Drawn l members) _ drawn
    (no_faults (Told l members) _ told (no_faults (Dropped l links members) _ dropped
    (no_faults (Out l links) _ out (no_faults (Lost l links) _ lost refl))))))

-- the scenario that is made is the plain one
pub plain_made : (l : Draft) (links : List LinkSpec) (members : List MemberSpec) (drops : DropRules) → Made l links members → drops
    ≡ drop_rules_of l.drops.items l.outages.items l.losses.items
    → ◌≡◌ {A = PlainScenario} (record {
      until = l.until;
      constants = l.constants;
      room = l.room;
      recovery = l.recovery;
      nodes = l.nodes;
      links = links;
      members = members;
      draws =
          l.draws.items;
      sessions = l.sessions.items;
      drops = drops;
    }) (plain_of l)
unfolding plain_of
plain_made l links members drops m same = grind arith

-- and is accepted
pub accepted_made : (l : Draft) → InRange (plain_of l) → AllByRecursion HasItsPages l.members.items → faults_in l ≡ []
    → IsAccepted (plain_of l)
unfolding plain_of
accepted_made l range pages none = accepted_from (plain_of l) (is_star l.topology) l.members.items l.drops.items range pages refl refl none
