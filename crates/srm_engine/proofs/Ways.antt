-- The ways that members' packets have before them.
use Rattle.std.proofs.Common.{◌≡◌, ◌≢◌, ℕ, arith, Some, option_map, slice_get}
use Rattle.std.proofs.lemmas.List.{length-map}
use Rattle.srm_net.specs.declared.role.Role.{Role}
use Rattle.srm_net.specs.declared.role.Role.TheVariants.{Listener}
use Rattle.srm_net.specs.Network.{Network}
use Rattle.srm_net.specs.Least.{out}
use Rattle.srm_scenario.specs.declared.parts.MemberSpec.{MemberSpec}
use Rattle.srm_scenario.specs.Plain.{PlainScenario, network_of}
use Rattle.srm_cell.specs.Setting.{setting_of}
use Rattle.srm_model.specs.Windows.{least_distance, way_of}

out_of : (p : PlainScenario) (net : Network) (seed m : ℕ) → net ≡ network_of p → out net m ≡ least_distance (setting_of p seed) m
unfolding out least_distance
out_of p net seed m is = grind (arith, length-map)

pub way_of_other : (p : PlainScenario) (net : Network) (seed m : ℕ) (r : Role) → net ≡ network_of p
    → option_map (λ (k : MemberSpec). k.role) (slice_get p.members m) ≡ Some r → r ≢ Listener
    → out net m ≡ way_of (setting_of p seed) m
way_of_other p net seed m r is h ne = grind (arith, out_of)
