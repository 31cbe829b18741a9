-- What holds of every interval, through all of its changes.
use Rattle.std.specs.Prelude.{◌≡◌, ℕ, ◌≤◌, List, [], ◌∷◌}
use Rattle.srm_member.specs.Intervals.{Limits, Interval, opening_interval, begin_period, take_in_delay, send_first}
use Rattle.srm_member.specs.Intervals.{hear_duplicate}

-- what changes an interval: a period begins, a delay of so many ticks over a distance is taken in, the member sends
-- first, a duplicate is heard
pub data Change : Type 0 where
  Begins : Change
  Delays : (ticks distance : ℕ) → Change
  Sends : Change
  Hears : Change

-- an interval after a change, with the limits of its start and of its width
abbrev pub changed : Limits → Limits → Change → Interval → Interval
changed start width Begins i = begin_period start width i
changed start width (Delays t d) i = take_in_delay t d i
changed start width Sends i = send_first start i
changed start width Hears i = hear_duplicate i

-- an interval after these changes, one after the other
abbrev pub after_changes : Limits → Limits → List Change → Interval → Interval
after_changes start width [] i = i
after_changes start width (c ∷ cs) i = after_changes start width cs (changed start width c i)

-- the interval that a member has after these changes
abbrev pub interval_after : Limits → Limits → List Change → Interval
interval_after start width cs = after_changes start width cs (opening_interval start width)

-- the first value is neither below the least nor above the most
abbrev pub IsOrdered : Limits → Type 0
IsOrdered l = (l.least ≤ l.first) × (l.first ≤ l.most)

-- a constant is neither below its least nor above its most
abbrev pub IsWithinLimits : Limits → ℕ → Type 0
IsWithinLimits l x = (l.least ≤ x) × (x ≤ l.most)

-- start and width stay within their limits
abbrev pub ConstantsStayWithinLimits : Type 0
ConstantsStayWithinLimits =
    (start width : Limits) (cs : List Change) → IsOrdered start → IsOrdered width
    → let i = interval_after start width cs in IsWithinLimits start i.start × IsWithinLimits width i.width

-- least, first value and most are one
abbrev pub HasNoRoom : Limits → Type 0
HasNoRoom l = (l.least ≡ l.first) × (l.most ≡ l.first)

-- start and width without room stay what they were at first: timers are fixed then
abbrev pub WithoutRoomConstantsStay : Type 0
WithoutRoomConstantsStay =
    (start width : Limits) (cs : List Change) → HasNoRoom start → HasNoRoom width
    → let i = interval_after start width cs in (i.start ≡ start.first) × (i.width ≡ width.first)
