-- What holds of every interval, through all of its changes.
use Rattle.std.proofs.Common.{List, [], ◌∷◌, arith}
use Rattle.srm_member.specs.Intervals.{Limits, Interval, opening_interval}
use Rattle.srm_member.specs.IntervalLaws.{Change, changed, after_changes, IsOrdered, IsWithinLimits}
use Rattle.srm_member.specs.IntervalLaws.{ConstantsStayWithinLimits, WithoutRoomConstantsStay}

-- start and width are within their limits
abbrev pub AreWithin : Limits → Limits → Interval → Type 0
AreWithin start width i = IsWithinLimits start i.start × IsWithinLimits width i.width

pub changed_within : (start width : Limits) → IsOrdered start → IsOrdered width → (c : Change) (i : Interval)
    → AreWithin start width i → AreWithin start width (changed start width c i)
changed_within start width hs hw c i h = grind arith

always_within : (start width : Limits) → IsOrdered start → IsOrdered width → (cs : List Change) (i : Interval)
    → AreWithin start width i → AreWithin start width (after_changes start width cs i)
always_within start width hs hw [] i h = h
always_within start width hs hw (c ∷ cs) i h =
    always_within start width hs hw cs (changed start width c i) (changed_within start width hs hw c i h)

pub constants_stay_within_limits : ConstantsStayWithinLimits
constants_stay_within_limits start width cs hs hw = always_within start width hs hw cs (opening_interval start width) (hs, hw)

pub without_room_constants_stay : WithoutRoomConstantsStay
without_room_constants_stay start width cs hs hw = grind (arith, constants_stay_within_limits)
