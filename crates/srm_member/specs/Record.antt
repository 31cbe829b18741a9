-- What a member knows: its record, the timers in it, and what it ends with.
use Rattle.std.specs.Prelude.{ℕ, ◌+◌, Bool, ◌==◌, if◌then◌else◌, List, [], ◌∷◌, ◌++◌, map, Option, Some, None}
use Rattle.std.specs.declared.cmp.Ordering.{Ordering}
use Rattle.std.specs.Ordering.{nat_cmp, min_by_ordering}
use Rattle.std.specs.Cmp.Lexicographic.{slice_cmp}
use Rattle.rand_pcg.specs.Lcg.{Lcg, started, increment_of}
use Rattle.rand_pcg.specs.Pcg.{multiplier_64}
use Rattle.srm_net.specs.declared.packet.Name.{Name}
use Rattle.srm_net.specs.declared.packet.PageId.{PageId}
use Rattle.srm_net.specs.declared.rank.Rank.TheVariants.{Request, Repair}
use Rattle.srm_net.specs.Keys.{rank_number}
use Rattle.srm_member.specs.declared.fixed.Fixed.{Fixed}
use Rattle.srm_member.specs.declared.due.Due.{Due}
use Rattle.srm_member.specs.declared.exit.Exit.{Exit}
pub use Rattle.srm_member.specs.declared.entries.Missing.{Missing}
pub use Rattle.srm_member.specs.declared.entries.Repairing.{Repairing}
pub use Rattle.srm_member.specs.declared.mark.RepairMark.{RepairMark}
use Rattle.srm_member.specs.Intervals.{Interval, opening_interval}

-- of one page: numbers below floor do not concern the member, and next is the first number not heard of
pub record Progress : Type 0 where
  pub floor : ℕ
  pub next : ℕ

-- what an active member knows: its fixed part; its generator; the intervals of its request timers and of its repair
-- timers; its progress on each page; the inks of the names that it holds; the names that it lacks; its repair timers;
-- and, of names that it answered or heard repaired, the time before which it does not answer again, with the mark of
-- the repair where that had a scope. Finite maps are lists of entries whose keys rise
pub record MemberState : Type 0 where
  pub fixed : Fixed
  pub words : Lcg
  pub request_interval : Interval
  pub repair_interval : Interval
  pub progress : List (PageId × Progress)
  pub held : List (Name × ℕ)
  pub missing : List (Name × Missing)
  pub repairs : List (Name × Repairing)
  pub rests : List (Name × ℕ)
  pub marks : List (Name × RepairMark)

-- a member's record: active, or gone, which keeps the fixed part alone
pub data Record : Type 0 where
  Active : (state : MemberState) → Record
  Gone : (fixed : Fixed) → Record

-- what a member knows at first
abbrev pub opening_state : Fixed → MemberState
opening_state f = record {
  fixed = f;
  words = started 64 multiplier_64 f.seed (increment_of 64 f.stream);
  request_interval = opening_interval f.c1 f.c2;
  repair_interval = opening_interval f.d1 f.d2;
  progress = [];
  held = [];
  missing = [];
  repairs = [];
  rests = [];
  marks = [];
}

-- the record of a member at first
abbrev pub opening_record : Fixed → Record
opening_record f = Active (opening_state f)

-- the part that never changes
abbrev pub fixed_part : Record → Fixed
fixed_part (Active m) = m.fixed
fixed_part (Gone f) = f

-- ---- timers

-- the request timers and the repair timers of what a member knows
abbrev pub timers_of : MemberState → List Due
timers_of m =
    map (λ e. record { time = e.1.expiry; rank = Request; name = e.0 }) m.missing
    ++ map (λ e. record { time = e.1.expiry; rank = Repair; name = e.0 }) m.repairs

-- the timers of a record: none where it is gone
abbrev pub timers : Record → List Due
timers (Active m) = timers_of m
timers (Gone f) = []

-- timers are compared by time, rank and name
abbrev pub due_cmp : Due → Due → Ordering
due_cmp d e =
    slice_cmp nat_cmp (d.time ∷ rank_number d.rank ∷ d.name.source ∷ d.name.page ∷ d.name.number ∷ [])
    (e.time ∷ rank_number e.rank ∷ e.name.source ∷ e.name.page ∷ e.name.number ∷ [])

-- the earlier of a timer and another, if there is another
abbrev pub earlier_timer : Due → Option Due → Due
earlier_timer d None = d
earlier_timer d (Some e) = min_by_ordering (due_cmp d e) d e

-- the least of these timers
abbrev pub earliest : List Due → Option Due
earliest [] = None
earliest (d ∷ ds) = Some (earlier_timer d (earliest ds))

-- a record's next timer
abbrev pub due_of : Record → Option Due
due_of r = earliest (timers r)

-- how many elements pass a test
abbrev pub count_if : {A : Type 0} → (A → Bool) → List A → ℕ
count_if p [] = 0
count_if p (x ∷ xs) = (if p x then 1 else 0) + count_if p xs

-- how many timers of a record expire at a tick
abbrev pub timers_at : ℕ → Record → ℕ
timers_at t r = count_if (λ d. d.time == t) (timers r)

-- ---- the end

-- what a member ends with: the names that it holds, with their inks, and those that it lacks
abbrev pub exit_of : MemberState → Exit
exit_of m = record { member = m.fixed.member; held = m.held; missing = map (λ e. e.0) m.missing }
