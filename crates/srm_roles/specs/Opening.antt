-- With what a member of a scenario begins.
use Rattle.std.specs.Prelude.{◌≡◌, ℕ, ◌<◌, List, length}
use Rattle.srm_net.specs.declared.role.Role.{Role}
use Rattle.srm_net.specs.declared.packet.Name.{Name}
use Rattle.srm_net.specs.Network.{Network}
use Rattle.srm_scenario.specs.Plain.{PlainScenario, network_of}
use Rattle.srm_member.specs.declared.fixed.Fixed.{Fixed}
use Rattle.srm_member.specs.Record.{MemberState, opening_state}
pub use Rattle.srm_cell.specs.Setting.{member_at, half_rounds_from, fixed_of}

-- member m is there, with this role, and the network is the scenario's
pub record HasRole (s : PlainScenario) (net : Network) (m : ℕ) (role : Role) : Type 0 where
  pub member : m < length s.members
  pub plays : (member_at s m).role ≡ role
  pub network : net ≡ network_of s

-- what a listener knows: it begins as every member, and holds names
abbrev pub listening : Fixed → List (Name × ℕ) → MemberState
listening f held = record (opening_state f) { held = held }
