-- What the ranges of a scenario file's keys give.
use Rattle.std.specs.Prelude.{◌≡◌, ℕ, ◌≤◌, ◌<◌, ◌^◌, false, [], Some, length}
use Rattle.std.specs.List.{AllByRecursion}
use Rattle.srm_net.specs.Network.{HasDelays}
use Rattle.srm_scenario.specs.declared.entry.MemberEntry.{MemberEntry}
use Rattle.srm_scenario.specs.declared.parts.MemberSpec.{MemberSpec}
use Rattle.srm_scenario.specs.Plain.{PlainScenario}
use Rattle.srm_scenario.specs.Accepted.{AreConstants, IsRecovery}
use Rattle.srm_scenario.specs.KeyLimits.{greatest_scope}
use Rattle.srm_net.specs.Limits.{end_of_time, most_listed}

-- a member's stream, leave and scope are in their ranges
pub record MemberInRange (k : MemberSpec) : Type 0 where
  pub stream : k.stream < 2 ^ 63
  pub leave : (at : ℕ) → k.leave ≡ Some at → at ≤ end_of_time
  pub scope : k.scope ≤ greatest_scope

-- a member for which no pages are given has none
abbrev pub HasItsPages : MemberEntry → Type 0
HasItsPages e = e.has_pages ≡ false → e.spec.pages ≡ []

-- the numbers of a scenario are in their ranges
pub record InRange (s : PlainScenario) : Type 0 where
  pub some_ticks : 1 ≤ s.until
  pub few_ticks : s.until ≤ end_of_time
  pub constants : AreConstants s.constants s.room
  pub recovery : IsRecovery s.recovery
  pub delays : AllByRecursion HasDelays s.links
  pub members : AllByRecursion MemberInRange s.members
  pub few_draws : length s.draws ≤ most_listed
  pub few_sessions : length s.sessions ≤ most_listed
