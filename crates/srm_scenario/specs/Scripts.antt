-- What every member's script has.
use Rattle.std.specs.Prelude.{◌≡◌, ◌≢◌, ℕ, ◌<◌, ◌≤◌, Bool, true, false, All, List, Some, slice_get}
use Rattle.srm_net.specs.declared.rank.Rank.{Rank}
use Rattle.srm_net.specs.declared.rank.Rank.TheVariants.{Join, Draw, Report, Leave}
use Rattle.srm_net.specs.declared.role.Role.TheVariants.{Sender, Listener}
use Rattle.srm_net.specs.Orders.{Ascends}
use Rattle.srm_scenario.specs.declared.mark.Mark.{Mark}
use Rattle.srm_scenario.specs.declared.parts.MemberSpec.{MemberSpec}
use Rattle.srm_scenario.specs.Plain.{PlainScenario, mark_cmp, script_of}
use Rattle.srm_scenario.specs.Accepted.{IsAccepted}

-- the rank of a mark: that of a join, of a draw, of a report or of a leave
abbrev pub is_mark_rank : Rank → Bool
is_mark_rank Join = true
is_mark_rank Draw = true
is_mark_rank Report = true
is_mark_rank Leave = true
is_mark_rank _ = false

-- a mark that fits member k, in a run that ends at `until`: by its rank its join, a draw, a report or its leave
pub record IsMark (until : ℕ) (k : MemberSpec) (x : Mark) : Type 0 where
  pub rank : is_mark_rank x.rank ≡ true
  pub joined : k.join ≤ x.at
  pub stays : (end : ℕ) → k.leave ≡ Some end → x.at ≤ end
  pub early : x.rank ≢ Leave → x.at < until
  pub join : x.rank ≡ Join → (x.at ≡ k.join) × (x.place ≡ 0)
  pub draw : x.rank ≡ Draw → k.role ≡ Sender
  pub report : x.rank ≡ Report → k.role ≢ Listener
  pub leave : x.rank ≡ Leave → (k.leave ≡ Some x.at) × (x.place ≡ 0)

-- a script in rising order, each mark of which fits the member
pub record IsScript (until : ℕ) (k : MemberSpec) (script : List Mark) : Type 0 where
  pub ascends : Ascends mark_cmp script
  pub marks : All (IsMark until k) script

-- each member of an accepted scenario has such a script
abbrev pub ScriptsFit : Type 0
ScriptsFit =
    (s : PlainScenario) → IsAccepted s → (m : ℕ) (k : MemberSpec) → slice_get s.members m ≡ Some k
    → IsScript s.until k (script_of s m)
