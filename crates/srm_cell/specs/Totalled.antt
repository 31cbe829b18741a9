-- The totals of a list of packets.
use Rattle.std.specs.Prelude.{◌≡◌, Bool, slice_set, slice_index, if◌then◌else◌, ℕ, ◌+◌, ◌<◌, ◌^◌, List, ◌++◌, length}
use Rattle.std.specs.Prelude.{Option, Some, None}
use Rattle.std.specs.List.{flat_map, range_with_len}
use Rattle.srm_net.specs.declared.packet.Packet.{Packet}
use Rattle.srm_net.specs.Network.{Network}
use Rattle.srm_scenario.specs.Plain.{PlainScenario}
use Rattle.srm_ledger.specs.declared.kind.Kind.{Kind}
use Rattle.srm_ledger.specs.declared.kind.Kind.TheVariants.{Dropped}
use Rattle.srm_ledger.specs.Counts.{place_at}
use Rattle.srm_cell.specs.Setting.{Traffic, traffic_of}
use Rattle.srm_cell.specs.Crossings.{crossings_at}
use Rattle.srm_net.specs.Limits.{end_of_time}

-- the five numbers of each link in turn
unfoldable pub numbers_of : Traffic → List Packet → List ℕ
numbers_of t ps = flat_map (crossings_at t ps) (range_with_len 0 t.links)

-- counting these packets besides makes of the totals of any packets the totals of both
abbrev pub CountsBesides : Traffic → List Packet → List ℕ → List ℕ → Type 0
CountsBesides t more old new = (ps : List Packet) → old ≡ numbers_of t ps → new ≡ numbers_of t (ps ++ more)

-- so the totals of the packets of a scenario and its network
abbrev pub Counts : PlainScenario → Network → List Packet → List ℕ → List ℕ → Type 0
Counts k net more old new = CountsBesides (traffic_of k net) more old new

-- the numbers are totals of some packets, few enough that so many more may be counted
abbrev pub MayCount : Traffic → ℕ → List ℕ → Type 0
MayCount t more ns = (ps : List Packet) × (length ps + more + 2 < 2 ^ 64) × (ns ≡ numbers_of t ps)

-- one more at a place of a list, where it is so
abbrev pub bump : Bool → ℕ → List ℕ → List ℕ
bump b i ns = if b then slice_set ns i (slice_index ns i + 1) else ns

-- one more of a kind at link l where a packet crosses it, and one more dropped where it is dropped there
abbrev pub with_fate : Bool → Bool → ℕ → Kind → List ℕ → List ℕ
with_fate crosses drops l kind ns = bump drops (place_at l Dropped) (bump crosses (place_at l kind) ns)

-- the packet is one of these members', sent before the latest time of a run, if there is one
abbrev pub IsSentBelow : ℕ → Option Packet → Type 0
IsSentBelow members None = Unit {0}
IsSentBelow members (Some p) = (p.id.sender < members) × (p.sent < end_of_time)
