-- What the calls of a member tell.
use Rattle.std.specs.Prelude.{◌≡◌, ℕ, Result, Ok, Err}
use Rattle.srm_member.specs.declared.cause.Cause.{Cause}
use Rattle.srm_member.specs.declared.react.React.{React}
use Rattle.srm_member.specs.declared.exit.Exit.{Exit}
use Rattle.srm_member.specs.declared.fault.MemberFault.{MemberFault}
use Rattle.srm_member.specs.declared.fault.MemberFault.TheVariants.{NoMemory, Spent}
use Rattle.srm_member.specs.Record.{Record, Active, Gone, exit_of}
use Rattle.srm_member.specs.React.{react}

-- of a call with this cause at this time: the record before it, its result, and the record after it. An active member
-- answers as the tables say, or is gone where memory is refused; a member that is gone has nothing to answer with
abbrev pub Reacts : Record → ℕ → Cause → Result React MemberFault → Record → Type 0
Reacts (Active m) at cause (Ok a) after = let r = react m at cause in (a ≡ r.answer) × (after ≡ Active r.state)
Reacts (Active m) at cause (Err NoMemory) after = after ≡ Gone m.fixed
Reacts (Gone f) at cause (Err Spent) after = after ≡ Gone f
Reacts r at cause q after = ⊥

-- of a member's end: the record before it, its result, and the record after it, which is gone
abbrev pub Finishes : Record → Result Exit MemberFault → Record → Type 0
Finishes (Active m) (Ok e) after = (e ≡ exit_of m) × (after ≡ Gone m.fixed)
Finishes (Active m) (Err NoMemory) after = after ≡ Gone m.fixed
Finishes (Gone f) (Err Spent) after = after ≡ Gone f
Finishes r q after = ⊥
