-- What holds of the intervals of every member's timers.
use Rattle.std.specs.Prelude.{◌≡◌, ◌≢◌, ℕ, Bool, true, false, List, None}
use Rattle.srm_net.specs.declared.packet.Body.{Body}
use Rattle.srm_net.specs.declared.packet.Body.TheVariants.{Drawop, Request, Repair, Session}
use Rattle.srm_member.specs.declared.cause.Cause.{Cause}
use Rattle.srm_member.specs.declared.cause.Cause.TheVariants.{Join, Arrival, Ask, Answer, Draw, Report}
use Rattle.srm_member.specs.declared.react.React.{React}
use Rattle.srm_member.specs.declared.fixed.Fixed.{Fixed}
use Rattle.srm_net.specs.declared.role.Role.TheVariants.{Listener}
use Rattle.srm_member.specs.IntervalLaws.{Change, after_changes, IsOrdered, IsWithinLimits, HasNoRoom}
use Rattle.srm_member.specs.Record.{MemberState, opening_state, timers_of}
use Rattle.srm_member.specs.React.{react}

-- an event changes intervals by their four changes alone
abbrev pub IntervalsChangeAlone : Type 0
IntervalsChangeAlone =
    (m : MemberState) (at : ℕ) (cause : Cause) → let after = (react m at cause).state in
    ((cs : List Change) × (after.request_interval ≡ after_changes m.fixed.c1 m.fixed.c2 cs m.request_interval))
    × ((cs : List Change) × (after.repair_interval ≡ after_changes m.fixed.d1 m.fixed.d2 cs m.repair_interval))

-- whether an event may change the interval of request timers: a packet that arrives, or a request timer that expires
abbrev pub may_adapt_requests : Cause → Bool
may_adapt_requests Join = false
may_adapt_requests (Arrival k) = true
may_adapt_requests (Ask n) = true
may_adapt_requests (Answer n) = false
may_adapt_requests (Draw page ink) = false
may_adapt_requests Report = false

-- whether a packet may change the interval of repair timers: a request or a repair
abbrev pub is_of_recovery : Body → Bool
is_of_recovery (Drawop n ink) = false
is_of_recovery (Request n scope) = true
is_of_recovery (Repair n ink local) = true
is_of_recovery (Session hs) = false

-- whether an event may change it: a request or a repair that arrives, or a repair timer that expires
abbrev pub may_adapt_repairs : Cause → Bool
may_adapt_repairs Join = false
may_adapt_repairs (Arrival k) = is_of_recovery k.body
may_adapt_repairs (Ask n) = false
may_adapt_repairs (Answer n) = true
may_adapt_repairs (Draw page ink) = false
may_adapt_repairs Report = false

-- every other event leaves the interval as it is
abbrev pub OtherEventsLeaveIntervals : Type 0
OtherEventsLeaveIntervals =
    (m : MemberState) (at : ℕ) (cause : Cause) → let after = (react m at cause).state in
    (may_adapt_requests cause ≡ false → after.request_interval ≡ m.request_interval)
    × (may_adapt_repairs cause ≡ false → after.repair_interval ≡ m.repair_interval)

-- a listener's intervals stay
abbrev pub ListenersIntervalsStay : Type 0
ListenersIntervalsStay =
    (m : MemberState) (at : ℕ) (cause : Cause) → m.fixed.role ≡ Listener → let after = (react m at cause).state in
    (after.request_interval ≡ m.request_interval) × (after.repair_interval ≡ m.repair_interval)

-- the first value of each constant is neither below its least nor above its most
pub record HasOrderedLimits (f : Fixed) : Type 0 where
  pub c1 : IsOrdered f.c1
  pub c2 : IsOrdered f.c2
  pub d1 : IsOrdered f.d1
  pub d2 : IsOrdered f.d2

-- each constant is neither below its least nor above its most
pub record IsAdaptedWithin (m : MemberState) : Type 0 where
  pub c1 : IsWithinLimits m.fixed.c1 m.request_interval.start
  pub c2 : IsWithinLimits m.fixed.c2 m.request_interval.width
  pub d1 : IsWithinLimits m.fixed.d1 m.repair_interval.start
  pub d2 : IsWithinLimits m.fixed.d2 m.repair_interval.width

-- constants are within their limits at first
abbrev pub ConstantsBeginWithinLimits : Type 0
ConstantsBeginWithinLimits = (f : Fixed) → HasOrderedLimits f → IsAdaptedWithin (opening_state f)

-- and stay within them
abbrev pub ConstantsOfMembersStayWithinLimits : Type 0
ConstantsOfMembersStayWithinLimits =
    (m : MemberState) (at : ℕ) (cause : Cause) → HasOrderedLimits m.fixed → IsAdaptedWithin m
    → IsAdaptedWithin (react m at cause).state

-- of each constant least, first value and most are one
pub record HasFixedTimers (f : Fixed) : Type 0 where
  pub c1 : HasNoRoom f.c1
  pub c2 : HasNoRoom f.c2
  pub d1 : HasNoRoom f.d1
  pub d2 : HasNoRoom f.d2

-- two records that differ in intervals alone
abbrev pub DifferInIntervals : MemberState → MemberState → Type 0
DifferInIntervals m k = k ≡ record m { request_interval = k.request_interval; repair_interval = k.repair_interval }

-- two answers that differ in what they tell of intervals alone
abbrev pub DifferInAdapted : React → React → Type 0
DifferInAdapted a b = b ≡ record a { adapted = b.adapted }

-- without room averages, duplicates and who sent first make no difference: members whose records differ in intervals
-- alone give the same answers, but for what they tell of intervals, and have the same timers, and their records differ
-- in intervals alone then
abbrev pub FixedTimersIgnoreWhatIsSeen : Type 0
FixedTimersIgnoreWhatIsSeen =
    (m k : MemberState) (at : ℕ) (cause : Cause) → HasFixedTimers m.fixed → IsAdaptedWithin m → IsAdaptedWithin k
    → DifferInIntervals m k
    → DifferInAdapted (react m at cause).answer (react k at cause).answer
    × (timers_of (react k at cause).state ≡ timers_of (react m at cause).state)
    × DifferInIntervals (react m at cause).state (react k at cause).state

-- without room no event but a join tells of intervals
abbrev pub FixedTimersAreToldAtJoinsAlone : Type 0
FixedTimersAreToldAtJoinsAlone =
    (m : MemberState) (at : ℕ) (cause : Cause) → HasFixedTimers m.fixed → IsAdaptedWithin m → cause ≢ Join
    → (react m at cause).answer.adapted ≡ None

-- a listener tells nothing of intervals
abbrev pub ListenersTellNoIntervals : Type 0
ListenersTellNoIntervals =
    (m : MemberState) (at : ℕ) (cause : Cause) → m.fixed.role ≡ Listener → (react m at cause).answer.adapted ≡ None
