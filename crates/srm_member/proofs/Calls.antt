-- Calls of an active member.
use Rattle.std.proofs.Common.{arith}
use Rattle.std.proofs.Common.{◌≡◌, ℕ, Bool, false, Ok}
use Rattle.srm_member.specs.declared.cause.Cause.{Cause}
use Rattle.srm_member.specs.declared.intervals.Intervals.{Intervals}
use Rattle.srm_member.specs.declared.react.React.{React}
use Rattle.srm_member.specs.Record.{MemberState, Record, Active}
use Rattle.srm_net.specs.Roles.{is_listener}
use Rattle.srm_member.specs.React.{react_active, intervals_of, adapted_at, adapted_since, telling_intervals}
use Rattle.srm_member.specs.Reacts.{Reacts}
use Rattle.srm_member.specs.Fit.{Gives, record_of}
use Rattle.srm_member.proofs.LawProofs.{as_active}

-- an active member's answer is the table's, with what it tells of intervals
pub call_tells : (r : Record) (gone : Bool) (m m2 : MemberState) (at : ℕ) (cause : Cause) (a : React) → record_of gone m ≡ r → gone ≡ false
    → is_listener m.fixed.role ≡ false
    → Gives a m2 (telling_intervals cause (intervals_of m) (react_active m at cause)) → Reacts r at cause (Ok a) (Active m2)
call_tells r gone m m2 at cause a view on role g = grind (arith, as_active)

-- the answer to an event that is no join, and what the member knows then, are the table's
pub call_gives : (r : Record) (gone : Bool) (m m2 : MemberState) (at : ℕ) (cause : Cause) (a b : React) (before : Intervals)
    → record_of gone m ≡ r → gone ≡ false → is_listener m.fixed.role ≡ false
    → adapted_at cause (intervals_of m) (intervals_of m2) ≡ adapted_since (intervals_of m) (intervals_of m2)
    → Gives a m2 (react_active m at cause)
    → before ≡ intervals_of m → b ≡ record a { adapted = adapted_since before (intervals_of m2) } → Reacts r at cause (Ok b) (Active m2)
call_gives r gone m m2 at cause a b before view on role since g were is = grind (arith, call_tells)
