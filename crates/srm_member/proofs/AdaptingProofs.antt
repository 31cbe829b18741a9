-- What holds of the intervals of every member's timers.
use Rattle.std.proofs.Common.{arith}
use Rattle.std.proofs.Common.{◌≡◌, List, [], ◌∷◌, ◌++◌, refl, ap, sym, ◌∙◌}
use Rattle.srm_member.specs.declared.fixed.Fixed.{Fixed}
use Rattle.srm_member.specs.Intervals.{Interval, Limits}
use Rattle.srm_member.specs.IntervalLaws.{Change, changed, after_changes}
use Rattle.srm_member.specs.Record.{MemberState}
use Rattle.srm_member.specs.React.{react}
use Rattle.srm_member.specs.AdaptingLaws.{IntervalsChangeAlone, ListenersIntervalsStay, IsAdaptedWithin}
use Rattle.srm_member.specs.AdaptingLaws.{ConstantsBeginWithinLimits, ConstantsOfMembersStayWithinLimits}
use Rattle.srm_member.proofs.IntervalProofs.{AreWithin, changed_within}
use Rattle.srm_member.proofs.IntervalChanges.{adapts_react}
use Rattle.srm_member.proofs.LawProofs.{as_listener}

-- ---- the four changes alone

-- an interval after some changes of another
abbrev Follows : Limits → Limits → Interval → Interval → Type 0
Follows start width i j = (cs : List Change) × (j ≡ after_changes start width cs i)

one_more : (start width : Limits) (c : Change) (cs : List Change) (i : Interval)
    → after_changes start width (cs ++ c ∷ []) i ≡ changed start width c (after_changes start width cs i)
one_more start width c [] i = refl
one_more start width c (x ∷ cs) i = one_more start width c cs (changed start width x i)

follows : (start width : Limits) (i : Interval) (c : Change) (j : Interval) → Follows start width i j
    → Follows start width i (changed start width c j)
follows start width i c j h = (h.0 ++ c ∷ [], ap (changed start width c) h.1 ∙ sym (one_more start width c h.0 i))

pub intervals_change_alone : IntervalsChangeAlone
intervals_change_alone m at cause =
    let f = m.fixed in
    let a = adapts_react f (Follows f.c1 f.c2 m.request_interval) (Follows f.d1 f.d2 m.repair_interval)
    (follows f.c1 f.c2 m.request_interval) (follows f.d1 f.d2 m.repair_interval) m at cause
    (record { same = refl; requests = ([], refl); repairs = ([], refl) }) in
    (a.requests, a.repairs)

-- ---- listeners

pub listeners_intervals_stay : ListenersIntervalsStay
listeners_intervals_stay m at cause role = grind (arith, as_listener)

-- ---- limits

pub constants_begin_within_limits : ConstantsBeginWithinLimits
constants_begin_within_limits f h = record { c1 = h.c1; c2 = h.c2; d1 = h.d1; d2 = h.d2 }

-- within limits of a fixed part
pub within_of : (f : Fixed) (m : MemberState) → f ≡ m.fixed → AreWithin f.c1 f.c2 m.request_interval
    → AreWithin f.d1 f.d2 m.repair_interval → IsAdaptedWithin m
within_of f m e p q = grind arith

pub constants_stay : ConstantsOfMembersStayWithinLimits
constants_stay m at cause h w =
    let f = m.fixed in
    let a = adapts_react f (AreWithin f.c1 f.c2) (AreWithin f.d1 f.d2) (changed_within f.c1 f.c2 h.c1 h.c2)
    (changed_within f.d1 f.d2 h.d1 h.d2) m at cause
    (record { same = refl; requests = (w.c1, w.c2); repairs = (w.d1, w.d2) }) in
    within_of f (react m at cause).state (sym a.same) a.requests a.repairs
