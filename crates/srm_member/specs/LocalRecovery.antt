-- Local recovery: how far requests and repairs go, and which repairs serve which requests.
use Rattle.std.specs.Prelude.{ℕ, ◌+◌, ◌-◌, ◌*◌, min, Bool, true, false, not, ◌&&◌, ◌||◌, Option, Some, None, ◌==◌}
use Rattle.std.specs.Prelude.{nat_lt, nat_le, slice_index, if◌then◌else◌}
use Rattle.std.specs.Option.{option_map}
use Rattle.srm_net.specs.declared.packet.Local.{Local}
use Rattle.srm_member.specs.declared.fixed.Fixed.{Fixed}
use Rattle.srm_member.specs.declared.entries.Repairing.{Repairing}
use Rattle.srm_member.specs.declared.mark.RepairMark.{RepairMark}
use Rattle.srm_member.specs.declared.resting.Resting.{Resting}
use Rattle.srm_member.specs.declared.steps.Steps.{Steps}
use Rattle.srm_member.specs.declared.steps.Steps.TheVariants.{One, Two}

-- the hops between this member and another
abbrev pub hops_to : Fixed → ℕ → ℕ
hops_to f who = slice_index f.hops who

-- ---- how far packets go

-- the scope of a request after so many backoffs: none where the member's requests have none, or it backed off often
-- enough
abbrev pub scope_of_request : Fixed → ℕ → Option ℕ
scope_of_request f backoffs =
    if (f.scope == 0) || nat_le f.tries backoffs then None else Some (min 65535 (f.scope + backoffs * f.widen))

-- the scope of a repair by this member, for a request of this width by that member
abbrev pub scope_of_repair : Fixed → Steps → ℕ → ℕ → ℕ
scope_of_repair f One who width = width + hops_to f who
scope_of_repair f Two who width = width

-- what a repair carries besides, by the timer that it comes from: nothing where the request had no scope
abbrev pub local_of : Fixed → Repairing → Option Local
local_of f r = option_map
    (λ w. record { scope = scope_of_repair f f.steps r.requester w; requester = r.requester; width = w }) r.width

-- ---- marks

-- the mark of a repair after so many hops: none where it has no scope
abbrev pub mark_after : ℕ → Option Local → Option RepairMark
mark_after hops local = option_map
    (λ (l : Local). record { requester = l.requester; width = l.width; left = l.scope - hops }) local

-- the mark of a repair from this member, where it is heard
abbrev pub mark_from : Fixed → ℕ → Option Local → Option RepairMark
mark_from f who local = mark_after (hops_to f who) local

-- whether the repair of this mark serves a request of this width by that member: one that went to all serves every
-- request, and no other serves a request that went to all. Any other serves it if it was meant for one of that
-- member's, at least as wide, and not for this member's own, since the repair has to go on from there; or if all that
-- heard the request are within what it had left
abbrev pub serves : Fixed → Option RepairMark → ℕ → Option ℕ → Bool
serves f None who width = true
serves f (Some k) who None = false
serves f (Some k) who (Some width) =
    ((k.requester == who) && (not (who == f.member) && nat_le width k.width))
    || nat_le (hops_to f who + width) k.left

-- whether a rest holds at this time for a request of this width by that member
abbrev pub rests_for : ℕ → Fixed → Resting → ℕ → Option ℕ → Bool
rests_for at f rest who width = nat_lt at rest.until && serves f rest.mark who width

-- whether a repair by that member is a duplicate, after such a rest: this member rests for the request that it answers,
-- and it is no second step
abbrev pub is_duplicate : ℕ → Fixed → Resting → ℕ → Option Local → Bool
is_duplicate at f rest who None = rests_for at f rest who None
is_duplicate at f rest who (Some l) = not (l.requester == who) && rests_for at f rest l.requester (Some l.width)

-- ---- repair timers

-- a timer for a request of the member's own is that of a second step
abbrev pub is_second_step : Fixed → Repairing → Bool
is_second_step f r = r.requester == f.member

-- whether a request goes further than one of this width
abbrev pub is_wider : Option ℕ → Option ℕ → Bool
is_wider width None = false
is_wider None (Some than) = true
is_wider (Some width) (Some than) = nat_lt than width

-- whether a request of this width takes a pending repair timer over
abbrev pub takes_over : Fixed → Option ℕ → Repairing → Bool
takes_over f width r = not (is_second_step f r) && is_wider width r.width

-- whether repairs go in two steps
abbrev pub are_two : Steps → Bool
are_two One = false
are_two Two = true
