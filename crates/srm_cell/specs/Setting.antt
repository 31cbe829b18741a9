-- What the model needs of a scenario and a seed.
use Rattle.std.specs.Prelude.{◌≡◌, ◌≢◌, ℕ, ◌+◌, ◌<◌, Bool, true, not, ◌&&◌, List, [], ◌∷◌, length}
use Rattle.std.specs.Prelude.{Option, Some, None, unwrap_or, slice_get, nat_lt, ◌==◌, if◌then◌else◌}
use Rattle.srm_net.specs.declared.packet.Packet.{Packet}
use Rattle.srm_net.specs.declared.rank.Rank.{Rank}
use Rattle.srm_net.specs.declared.rank.Rank.TheVariants as rank
use Rattle.srm_net.specs.declared.role.Role.TheVariants.{Receiver}
use Rattle.srm_net.specs.Orders.{Ascends}
use Rattle.srm_net.specs.Network.{Network}
use Rattle.srm_net.specs.Paths as paths
use Rattle.srm_net.specs.DropRules.{DropRules}
use Rattle.srm_net.specs.Scopes.{scope_of}
use Rattle.srm_net.specs.Spreads.{PlainSpread, IsSpread}
-- the distances that a member goes by: half the round trip to each member in turn, rounded down
pub use Rattle.srm_net.specs.Paths.{half_rounds_from}
use Rattle.srm_net.specs.Paths.{hops_from}
use Rattle.srm_scenario.specs.declared.mark.Mark.{Mark}
use Rattle.srm_scenario.specs.declared.parts.MemberSpec.{MemberSpec}
use Rattle.srm_scenario.specs.Plain.{PlainScenario, mark_cmp, network_of, script_of}
use Rattle.srm_scenario.specs.Scripts.{is_mark_rank}
use Rattle.srm_scenario.specs.Presence.{is_present}
use Rattle.srm_member.specs.declared.cause.Cause.{Cause}
use Rattle.srm_member.specs.declared.cause.Cause.TheVariants.{Join, Draw, Report}
use Rattle.srm_member.specs.declared.fixed.Fixed.{Fixed}
use Rattle.srm_member.specs.declared.backoff.BackoffFactor.TheVariants.{Two, Three}
use Rattle.srm_member.specs.declared.steps.Steps.TheVariants.{One}
use Rattle.srm_member.specs.declared.steps.Steps.TheVariants as steps

-- what becomes of packets. Events before `until` are handled. Of each member: when it joins and when it leaves. Of each
-- two members: how long a packet is on its way from the one to the other. Of each packet: whom it reaches, which links
-- it crosses, and at which it is dropped
pub record Traffic : Type 0 where
  pub until : ℕ
  pub members : ℕ
  pub join : ℕ → ℕ
  pub leave : ℕ → Option ℕ
  pub distance : ℕ → ℕ → ℕ
  pub reaches : Packet → ℕ → Bool
  pub links : ℕ
  pub crosses : Packet → ℕ → Bool
  pub drops_at : Packet → ℕ → Bool

-- a traffic, and of each member its fixed part, in which a seed stands, and its script
pub record Setting : Type 0 where
  pub traffic : Traffic
  pub fixed : ℕ → Fixed
  pub script : ℕ → List Mark

-- ---- the setting of a scenario

-- member m of a scenario, and any member where there is none
abbrev pub member_at : PlainScenario → ℕ → MemberSpec
member_at s m = unwrap_or (slice_get s.members m)
    (record { node = 0; role = Receiver; stream = 0; join = 0; leave = None; pages = []; scope = 0 })

-- the part of member m's record that never changes
abbrev pub fixed_of : PlainScenario → ℕ → ℕ → Fixed
fixed_of s seed m = record {
  member = m;
  role = (member_at s m).role;
  backoff = if s.room.backoff == 3 then Three else Two;
  c1 = record { first = s.constants.c1; least = s.room.least.c1; most = s.room.most.c1 };
  c2 = record { first = s.constants.c2; least = s.room.least.c2; most = s.room.most.c2 };
  d1 = record { first = s.constants.d1; least = s.room.least.d1; most = s.room.most.d1 };
  d2 = record { first = s.constants.d2; least = s.room.least.d2; most = s.room.most.d2 };
  dist = half_rounds_from (network_of s) m;
  hops = hops_from (network_of s) m;
  scope = (member_at s m).scope;
  widen = s.recovery.widen;
  tries = s.recovery.tries;
  steps = if s.recovery.steps == 1 then One else steps.Two;
  pages = (member_at s m).pages;
  seed = seed;
  stream = (member_at s m).stream;
}

-- the traffic of a scenario on a network
abbrev pub traffic_of : PlainScenario → Network → Traffic
traffic_of s net = record {
  until = s.until;
  members = length s.members;
  join = λ m. (member_at s m).join;
  leave = λ m. (member_at s m).leave;
  distance = paths.distance net;
  reaches = λ p. paths.reaches net s.drops p.id p.sent (scope_of p.body);
  links = length net.links;
  crosses = λ p. paths.crosses net s.drops p.id p.sent (scope_of p.body);
  drops_at = λ p. paths.drops_at net s.drops p.id p.sent (scope_of p.body);
}

-- the setting of a scenario and a seed
abbrev pub setting_of : PlainScenario → ℕ → Setting
setting_of s seed = record { traffic = traffic_of s (network_of s); fixed = fixed_of s seed; script = script_of s }

-- what becomes of packet p where links drop packets by these rules
abbrev pub IsSpreadOf : Network → DropRules → Packet → PlainSpread → Type 0
IsSpreadOf net rules p b = IsSpread net rules p.id p.sent (scope_of p.body) b

-- ---- flights

-- when member m is handed packet p, if it is: another member than the sender, that the packet reaches, and that is
-- present
abbrev pub arrival_of : Traffic → Packet → ℕ → Option ℕ
arrival_of t p m =
    let at = p.sent + t.distance p.id.sender m in
    if nat_lt m t.members && (not (m == p.id.sender)
    && (t.reaches p m && is_present (t.join m) (t.leave m) t.until at)) then Some at else None

-- ---- marks

-- what a mark of this rank is to a member: a join, a draw, a report, or, where there is no cause, its leave
abbrev pub cause_of_mark : Rank → Mark → Option Cause
cause_of_mark rank.Join k = Some Join
cause_of_mark rank.Draw k = Some (Draw k.page k.ink)
cause_of_mark rank.Report k = Some Report
cause_of_mark _ k = None

-- ---- fit settings

-- each mark's rank is one of marks: that of a join, of a draw, of a report or of a leave
abbrev pub HasOwnRanks : List Mark → Type 0
HasOwnRanks [] = Unit {0}
HasOwnRanks (k ∷ ks) = (is_mark_rank k.rank ≡ true) × HasOwnRanks ks

-- a leave is at the time at which the member leaves, and no mark comes after it
abbrev pub EndsAtLeave : Option ℕ → List Mark → Type 0
EndsAtLeave leave [] = Unit {0}
EndsAtLeave leave (k ∷ ks) = (cause_of_mark k.rank k ≡ None → (leave ≡ Some k.at) × (ks ≡ [])) × EndsAtLeave leave ks

-- what the setting of a scenario has: members' numbers in their fixed parts, scripts in order, with nothing after a
-- leave, and no two members at one place
pub record IsFit (s : Setting) : Type 0 where
  pub numbers : (m : ℕ) → m < s.traffic.members → (s.fixed m).member ≡ m
  pub scripts : (m : ℕ) → m < s.traffic.members → Ascends mark_cmp (s.script m)
  pub ranks : (m : ℕ) → m < s.traffic.members → HasOwnRanks (s.script m)
  pub leaves : (m : ℕ) → m < s.traffic.members → EndsAtLeave (s.traffic.leave m) (s.script m)
  pub apart : (a b : ℕ) → a < s.traffic.members → b < s.traffic.members → a ≢ b → 0 < s.traffic.distance a b
