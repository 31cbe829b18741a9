-- Fixed parts whose timers' lengths are small numbers, and what a call did.
use Rattle.std.specs.Prelude.{◌≡◌, ◌≤◌, ◌-◌, Bool, true, false, All, Result, IfOk}
use Rattle.srm_member.specs.declared.fixed.Fixed.{Fixed}
use Rattle.srm_member.specs.declared.react.React.{React}
use Rattle.srm_net.specs.declared.packet.PageId.{PageId}
use Rattle.srm_net.specs.declared.packet.Heard.{Heard}
use Rattle.srm_member.specs.Record.{MemberState, Record, Active, Gone, Progress}
use Rattle.srm_member.specs.React.{Reaction}
use Rattle.srm_net.specs.Limits.{greatest_distance}

-- distances are at most 65,534,000,000 ticks
abbrev pub IsBounded : Fixed → Type 0
IsBounded f = All (λ d. d ≤ greatest_distance) f.dist

-- the answer and what the member then knows are those of the table
abbrev pub Gives : React → MemberState → Reaction → Type 0
Gives a after r = (a ≡ r.answer) × (after ≡ r.state)

-- a call gives that, or is refused memory: what the member knew before it, what it is to give, its result, and what the
-- member then knows, of which the fixed part stays in either case
pub record Acts {E : Type 0} (before : MemberState) (r : Reaction) (result : Result React E)
    (after : MemberState) : Type 0 where
  pub ok : IfOk result (λ a. Gives a after r)
  pub fixed : after.fixed ≡ before.fixed

-- the entry of a session message for a page
abbrev pub heard_of : PageId → Progress → Heard
heard_of p s = record { source = p.source; page = p.page; highest = s.next - 1 }

-- the record of what a member knows or, where it is gone, knew
abbrev pub record_of : Bool → MemberState → Record
record_of true m = Gone m.fixed
record_of false m = Active m
