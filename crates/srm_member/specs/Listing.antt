-- Distances and hops as lists.
use Rattle.std.specs.Prelude.{ℕ, List}
use Rattle.srm_member.specs.declared.distances.DistanceSource.{DistanceSource}
use Rattle.srm_member.specs.declared.distances.DistanceSource.TheVariants.{Listed, Told}
use Rattle.srm_member.specs.declared.hops.HopSource.{HopSource}
use Rattle.srm_member.specs.declared.hops.HopSource.TheVariants as hops

-- the distances of either source, a list or the half round trips of a network
abbrev pub listed : DistanceSource → List ℕ
listed (Listed ds) = ds
listed (Told ds) = ds

-- the hops of either source, a list or those of a network
abbrev pub hops_listed : HopSource → List ℕ
hops_listed (hops.Listed hs) = hs
hops_listed (hops.Told hs) = hs
