-- What every scenario that is read has.
use Rattle.std.specs.Prelude.{◌≡◌, ◌≢◌, ℕ, ◌<◌, ◌≤◌, ◌^◌, All, [], Some, length, slice_get}
use Rattle.srm_net.specs.declared.role.Role.TheVariants.{Sender, Late, Listener}
use Rattle.srm_net.specs.declared.link.DropSpec.{DropSpec}
use Rattle.srm_net.specs.declared.link.OutageSpec.{OutageSpec}
use Rattle.srm_net.specs.declared.link.LossSpec.{LossSpec}
use Rattle.srm_net.specs.Orders.{Ascends}
use Rattle.srm_net.specs.Network.{IsNetwork}
use Rattle.srm_net.specs.Paths.{drop_cmp}
use Rattle.srm_scenario.specs.declared.parts.Constants.{Constants}
use Rattle.srm_scenario.specs.declared.parts.Room.{Room}
use Rattle.srm_scenario.specs.declared.parts.LocalRecovery.{LocalRecovery}
use Rattle.srm_scenario.specs.declared.parts.MemberSpec.{MemberSpec}
use Rattle.srm_scenario.specs.declared.parts.DrawSpec.{DrawSpec}
use Rattle.srm_scenario.specs.declared.parts.SessionSpec.{SessionSpec}
use Rattle.srm_scenario.specs.Plain.{PlainScenario, network_of}
use Rattle.srm_scenario.specs.KeyLimits.{greatest_limit, greatest_scope, most_tries}
use Rattle.srm_net.specs.Limits.{end_of_time, most_listed}

-- a constant begins within its limits, which are at most 1,024,000 thousandths
abbrev pub HasRoom : ℕ → ℕ → ℕ → Type 0
HasRoom least first most = (least ≤ first) × (first ≤ most) × (most ≤ greatest_limit)

-- each constant begins within its limits, and backoffs make timers twice or three times as long
pub record AreConstants (c : Constants) (room : Room) : Type 0 where
  pub c1 : HasRoom room.least.c1 c.c1 room.most.c1
  pub c2 : HasRoom room.least.c2 c.c2 room.most.c2
  pub d1 : HasRoom room.least.d1 c.d1 room.most.d1
  pub d2 : HasRoom room.least.d2 c.d2 room.most.d2
  pub twice : 2 ≤ room.backoff
  pub thrice : room.backoff ≤ 3

-- a backoff widens scopes by at most as much as the greatest scope has, a request has no scope after 1 to 10 backoffs,
-- and repairs go in one step or in two
pub record IsRecovery (r : LocalRecovery) : Type 0 where
  pub widen : r.widen ≤ greatest_scope
  pub some_tries : 1 ≤ r.tries
  pub few_tries : r.tries ≤ most_tries
  pub one_step : 1 ≤ r.steps
  pub two_steps : r.steps ≤ 2

-- a member joins before the end of the run and before it leaves, and pages are a late member's alone
pub record IsMember (until : ℕ) (m : MemberSpec) : Type 0 where
  pub join : m.join < until
  pub leave : (at : ℕ) → m.leave ≡ Some at → (m.join < at) × (at ≤ end_of_time)
  pub pages : m.role ≢ Late → m.pages ≡ []
  pub stream : m.stream < 2 ^ 63
  pub scope : m.scope ≤ greatest_scope

-- a member is there at this time, which is before the end of the run
pub record IsThere (until at : ℕ) (m : MemberSpec) : Type 0 where
  pub joined : m.join ≤ at
  pub stays : (leave : ℕ) → m.leave ≡ Some leave → at ≤ leave
  pub early : at < until

-- a draw is by a sender that is there
abbrev pub IsDraw : PlainScenario → DrawSpec → Type 0
IsDraw s d = (k : MemberSpec) × (slice_get s.members d.member ≡ Some k) × (k.role ≡ Sender) × IsThere s.until d.at k

-- a session message is by a member that is there and is no listener
abbrev pub IsSession : PlainScenario → SessionSpec → Type 0
IsSession s r = (k : MemberSpec) × (slice_get s.members r.member ≡ Some k) × (k.role ≢ Listener)
    × IsThere s.until r.at k

-- a drop names a link and a member
abbrev pub IsDrop : PlainScenario → DropSpec → Type 0
IsDrop s d = (d.link < length s.links) × (d.id.sender < length s.members)

-- an outage is of a link, and ends after it begins
abbrev pub IsOutage : PlainScenario → OutageSpec → Type 0
IsOutage s o = (o.link < length s.links) × (o.from < o.to)

-- a loss is of a link, and ends after it begins, where it ends
abbrev pub IsLoss : PlainScenario → LossSpec → Type 0
IsLoss s o = (o.link < length s.links) × ((to : ℕ) → o.to ≡ Some to → o.from < to)

-- an accepted scenario
pub record IsAccepted (s : PlainScenario) : Type 0 where
  pub some_ticks : 1 ≤ s.until
  pub few_ticks : s.until ≤ end_of_time
  pub constants : AreConstants s.constants s.room
  pub recovery : IsRecovery s.recovery
  pub network : IsNetwork (network_of s)
  pub members : All (IsMember s.until) s.members
  pub draws : All (IsDraw s) s.draws
  pub few_draws : length s.draws ≤ most_listed
  pub sessions : All (IsSession s) s.sessions
  pub few_sessions : length s.sessions ≤ most_listed
  pub drops : All (IsDrop s) s.drops.listed
  pub drops_ascend : Ascends drop_cmp s.drops.listed
  pub outages : All (IsOutage s) s.drops.outages
  pub losses : All (IsLoss s) s.drops.losses
