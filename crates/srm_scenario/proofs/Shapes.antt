-- The links of a topology, one after the other.
use Rattle.std.proofs.Common.{◌≡◌, ℕ, suc, ◌+◌, ◌-◌, ◌<◌, List, [], ◌∷◌, ◌++◌, sym, ap, ◌∙◌, arith, append_assoc}
use Rattle.srm_net.specs.declared.link.LinkSpec.{LinkSpec}
use Rattle.srm_scenario.specs.declared.delays.Delays.{Delays}
use Rattle.srm_scenario.specs.declared.topology.Topology.{Topology}
use Rattle.srm_scenario.specs.Described.{parent_in, links_to_parents}

pub links_step : (t : Topology) (delays : Delays) (v size : ℕ) (front : List LinkSpec) → v < size
    → (front ++ (record { a = parent_in t v; b = v; delay = delays.delay; back = delays.back }) ∷ [])
    ++ links_to_parents t delays (v + 1) (size - (v + 1)) ≡ front ++ links_to_parents t delays v (size - v)
links_step t delays v size front lt =
    let k : size - v ≡ suc (size - (v + 1)) = omega arith in
    append_assoc front _ _ ∙ sym (ap (λ n. front ++ links_to_parents t delays v n) k)
