-- How many members there are.
use Rattle.std.proofs.Common.{◌≡◌, ℕ, ◌<◌, ◌≤◌, true, ◌||◌, List, [], ◌∷◌, map, length, nat_eq, arith, ap, sym, ◌∙◌, inl, inr}
use Rattle.std.proofs.lemmas.Bool.{cases_Bool, false≢true}
use Rattle.std.proofs.lemmas.Bool.Decides.{nat_tests}
use Rattle.std.proofs.lemmas.List.Elements.{recursion_from_All}
use Rattle.std.proofs.lemmas.List.{length-map}
use Rattle.std.proofs.lemmas.Map.Steps.{length-le_from_distinct_below}
use Rattle.std.specs.List.{list_any, AllByRecursion}
use Rattle.srm_scenario.specs.declared.parts.MemberSpec.{MemberSpec}
use Rattle.srm_scenario.specs.Plain.{PlainScenario}
use Rattle.srm_scenario.specs.Accepted.{IsAccepted}
use Rattle.srm_net.specs.Limits.{most_nodes}

-- a number among numbers below n is below n
pub below_from_any : (n q : ℕ) (xs : List ℕ) → AllByRecursion (λ x. x < n) xs → list_any (nat_eq q) xs ≡ true → q < n
below_from_any n q [] h e = absurd (false≢true e)
below_from_any n q (x ∷ xs) h e =
    elim (cases_Bool (nat_eq q x)) [
      | inl same ↦ let first = h.0 in let is : q ≡ x = grind (arith, nat_tests) in omega arith
      | inr other ↦ below_from_any n q xs h.1 (ap (λ b. b || list_any (nat_eq q) xs) (sym other) ∙ e)
    ]

pub few_members : (s : PlainScenario) → IsAccepted s → length s.members ≤ most_nodes
few_members s h =
    let hosts = map (λ (k : MemberSpec). k.node) s.members in
    let below = recursion_from_All (λ n. n < s.nodes) hosts h.network.hosts.0 in
    let few : length hosts ≤ s.nodes = length-le_from_distinct_below hosts s.nodes h.network.hosts.1
    (λ q e. below_from_any s.nodes q hosts below e) in
    let same : length hosts ≡ length s.members = length-map s.members (λ (k : MemberSpec). k.node) in let most = h.network.tree.few_nodes in
    omega arith
