-- What the table of outages tells.
use Rattle.std.specs.Prelude.{◌≡◌, ℕ, ◌≤◌, true, false, List, length, nat_lt}
use Rattle.std.specs.List.Sorted.{IsPartitionedBy, IsPartitionPoint}
use Rattle.srm_net.specs.declared.link.OutageSpec.{OutageSpec}
use Rattle.srm_net.specs.declared.outages.Outages.TheInside.{Inside}
use Rattle.srm_net.specs.DropRules.{is_out, some_ends_after}
use Rattle.srm_net.specs.Outages.{begins_by, last_lasts}

-- the list that was given
abbrev pub outages_listed : Inside → List OutageSpec
outages_listed o = o.list.items

-- for each link and tick, the spans that have begun stand first, and the last of them tells whether the link is out;
-- and the end is that of the last outage of all
pub record FindsOutages (o : Inside) : Type 0 where
  pub begun_first : (l t : ℕ) → IsPartitionedBy (begins_by l t) o.spans.items
  pub last_tells : (l t n : ℕ) → n ≤ length o.spans.items
      → IsPartitionPoint (λ s. begins_by l t s ≡ true) (λ s. begins_by l t s ≡ false) o.spans.items n
      → is_out o.list.items l t ≡ last_lasts o.spans.items n l t
  pub end_tells : (t : ℕ) → nat_lt t o.end ≡ some_ends_after o.list.items t
