-- The topologies grow from node 0, one node after the other.
use Rattle.std.proofs.Common.{◌≡◌, ℕ, zero, suc, ◌+◌, ◌-◌, ◌<◌, ◌≤◌, length, Some, slice_get, refl, ap, ◌∙◌, arith}
use Rattle.std.proofs.lemmas.List.Elements.{All-from_recursion}
use Rattle.std.specs.List.{AllByRecursion}
use Rattle.srm_net.specs.declared.link.LinkSpec.{LinkSpec}
use Rattle.srm_net.specs.Network.{IsWithin}
use Rattle.srm_net.proofs.Parents.{parents_tree}
use Rattle.srm_scenario.specs.declared.delays.Delays.{Delays}
use Rattle.srm_scenario.specs.declared.topology.Topology.{Topology}
use Rattle.srm_scenario.specs.Described.{parent_in, links_to_parents}
use Rattle.srm_scenario.specs.LookUps.{HasDegree}
use Rattle.srm_scenario.specs.Topologies.{TopologiesAreTrees}

-- a node's parent comes before it
parent_below : (t : Topology) (v : ℕ) → HasDegree (Some t) → 1 ≤ v → parent_in t v < v
parent_below t v h some = grind arith

link_at : Topology → Delays → ℕ → LinkSpec
link_at t delays v = record { a = parent_in t v; b = v; delay = delays.delay; back = delays.back }

pub links_length : (t : Topology) (delays : Delays) (v n : ℕ) → length (links_to_parents t delays v n) ≡ n
links_length t delays v zero = refl
links_length t delays v (suc n) = ap suc (links_length t delays (v + 1) n)

-- a link by its number
nth_link : (t : Topology) (delays : Delays) (v n i : ℕ) → i < n → slice_get (links_to_parents t delays v n) i
    ≡ Some (link_at t delays (v + i))
unfolding link_at
nth_link t delays v zero i lt = absurd (omega arith)
nth_link t delays v (suc n) zero lt = ap (λ k. Some (link_at t delays k)) (omega arith)
nth_link t delays v (suc n) (suc i) lt = nth_link t delays (v + 1) n i (omega arith) ∙ ap (λ k. Some (link_at t delays k)) (omega arith)

ends_within : (t : Topology) (delays : Delays) (nodes v n : ℕ) → HasDegree (Some t) → 1 ≤ v → v + n ≤ nodes
    → AllByRecursion (IsWithin nodes) (links_to_parents t delays v n)
ends_within t delays nodes v zero h some le = tt
ends_within t delays nodes v (suc n) h some le =
    let below = parent_below t v h some in
    ((omega arith, omega arith), ends_within t delays nodes (v + 1) n h (omega arith) (omega arith))

pub topologies : TopologiesAreTrees
unfolding link_at
topologies t h delays nodes some few =
    let ks = links_to_parents t delays 1 (nodes - 1) in
    let many : length ks + 1 ≡ nodes = omega (arith, links_length t delays 1 (nodes - 1)) in
    parents_tree (parent_in t) nodes ks some few (All-from_recursion (IsWithin nodes) ks
    (ends_within t delays nodes 1 (nodes - 1) h (omega arith) (omega arith))) many
    (record {
      below = λ v one. parent_below t v h one;
      delay = λ i. delays.delay;
      back = λ i. delays.back;
      link = λ i lt. nth_link t delays 1 (nodes - 1) i (omega (arith, links_length t delays 1 (nodes - 1)))
          ∙ ap (λ k. Some (link_at t delays k)) (omega arith);
    })
