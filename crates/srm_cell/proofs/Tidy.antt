-- Cells whose inboxes and scripts are in order, and what the least event says of them.
use Rattle.std.proofs.Common.{◌≡◌, ℕ, ◌<◌, ◌≤◌, ◌+◌, true, List, [], ◌∷◌, sym, ap, ◌∙◌, subst, ◌≢◌}
use Rattle.std.proofs.Common.{arith, Ordering, Less, Equal, Greater, Option, Some, None, is_lt, Bool, nat_le}
use Rattle.std.specs.Option.{option_map_or}
use Rattle.std.specs.Ordering.{min_by_ordering}
use Rattle.srm_cell.proofs.CellLemmas.{first_le, first_timer, next_event_is}
use Rattle.srm_cell.proofs.Rising.{Above, OnEvent, OnStep, earlier_on}
use Rattle.srm_cell.specs.Cells.{arrival_key, mark_key, timer_key, Event, PlainCell, earlier, first_arrival}
use Rattle.srm_cell.specs.Cells.{first_mark, handle, hear, hear_at, next_event, step_at}
use Rattle.srm_cell.specs.Flights.{flight_cmp, flight_total}
use Rattle.srm_cell.specs.OwnRuns.{told_to}
use Rattle.srm_cell.specs.Setting.{Traffic, arrival_of}
use Rattle.srm_cell.specs.declared.flight.Flight.{Flight}
use Rattle.srm_member.proofs.AllIn.{AllIn}
use Rattle.srm_member.proofs.OrderLemmas.{From, from_greater, from_not_greater, from_trans, not_greater}
use Rattle.srm_member.proofs.OrderLemmas.{rises_place}
use Rattle.srm_member.specs.declared.cause.Cause.{Cause}
use Rattle.srm_member.specs.declared.due.Due.{Due}
use Rattle.srm_net.specs.Keys.{rank_number, key_cmp}
use Rattle.srm_net.specs.Orders.{NoneBelow, Rises}
use Rattle.srm_net.specs.declared.key.Key.{Key}
use Rattle.srm_net.specs.declared.packet.Packet.{Packet}
use Rattle.srm_net.specs.declared.rank.Rank.TheVariants.{Arrival}
use Rattle.srm_scenario.specs.Plain.{mark_cmp}
use Rattle.srm_scenario.specs.declared.mark.Mark.{Mark}
use Rattle.srm_net.proofs.Basics.{nat_cmp_self}
use Rattle.srm_net.proofs.TotalOrders.{key_total}
use Rattle.srm_member.specs.Record.{MemberState}
use Rattle.srm_cell.specs.Cells.{timers_in}

-- ---- keys of flights and marks of one member

pub flight_keys : (m : ℕ) (f g : Flight) → key_cmp (arrival_key m f) (arrival_key m g) ≡ flight_cmp f g
flight_keys m f g = let e = nat_cmp_self m in let r = nat_cmp_self (rank_number Arrival) in simp (e, r)

pub mark_keys : (m : ℕ) (k l : Mark) → key_cmp (mark_key m k) (mark_key m l) ≡ mark_cmp k l
mark_keys m k l = let e = nat_cmp_self m in simp e

abbrev pub NotBefore : Key → Key → Type 0
NotBefore k l = From key_cmp key_total k l

pub later_not_before : (k l : Key) → k.time < l.time → NotBefore k l
later_not_before k l h = grind arith

pub not_before_time : (k l : Key) → NotBefore k l → k.time ≤ l.time
not_before_time k l h = first_le k l (not_greater key_cmp key_total k l h)

-- ---- what the least event says of all others

-- an event, if any, is not before k
abbrev pub Least : Key → Option Event → Type 0
Least k None = Unit {0}
Least k (Some e) = NotBefore k e.key

least_parts : (k : Key) (r : Ordering) (d e : Event) → key_cmp d.key e.key ≡ r → NotBefore k (min_by_ordering r d e).key → NotBefore k d.key
    × NotBefore k e.key
least_parts k Less d e q h = (
  h,
  from_trans key_cmp key_total k d.key e.key h
      (from_not_greater key_cmp key_total d.key e.key (λ g. let x : Less ≡ Greater = sym q ∙ g in cc)),
)
least_parts k Equal d e q h = (
  h,
  from_trans key_cmp key_total k d.key e.key h
      (from_not_greater key_cmp key_total d.key e.key (λ g. let x : Equal ≡ Greater = sym q ∙ g in cc)),
)
least_parts k Greater d e q h = (from_trans key_cmp key_total k e.key d.key h (from_greater key_cmp key_total e.key d.key q), h)

pub least_earlier : (k : Key) (x y : Option Event) → Least k (earlier x y) → Least k x × Least k y
least_earlier k x y h = grind (arith, least_parts)

pub record IsTidy (c : PlainCell) : Type 0 where
  pub flights : Rises flight_cmp c.inbox
  pub marks : Rises mark_cmp c.script

flights_from : (k : Key) (m : ℕ) (f : Flight) (fs : List Flight) → NotBefore k (arrival_key m f) → NoneBelow flight_cmp f fs
    → AllIn (λ g. NotBefore k (arrival_key m g)) fs
flights_from k m f [] h n = tt
flights_from k m f (g ∷ gs) h n =
    (from_trans key_cmp key_total k (arrival_key m f) (arrival_key m g) h (ap is_lt (flight_keys m g f) ∙ n.0), flights_from k m f gs h n.1)

all_flights : (k : Key) (m : ℕ) (c : PlainCell) (fs : List Flight) → Least k (first_arrival m c fs) → Rises flight_cmp fs
    → AllIn (λ g. NotBefore k (arrival_key m g)) fs
all_flights k m c [] h r = tt
all_flights k m c (f ∷ fs) h r = (h, flights_from k m f fs h r.0)

marks_from : (k : Key) (m : ℕ) (f : Mark) (fs : List Mark) → NotBefore k (mark_key m f) → NoneBelow mark_cmp f fs
    → AllIn (λ g. NotBefore k (mark_key m g)) fs
marks_from k m f [] h n = tt
marks_from k m f (g ∷ gs) h n =
    (from_trans key_cmp key_total k (mark_key m f) (mark_key m g) h (ap is_lt (mark_keys m g f) ∙ n.0), marks_from k m f gs h n.1)

all_marks : (k : Key) (m : ℕ) (c : PlainCell) (fs : List Mark) → Least k (first_mark m c fs) → Rises mark_cmp fs
    → AllIn (λ g. NotBefore k (mark_key m g)) fs
all_marks k m c [] h r = tt
all_marks k m c (f ∷ fs) h r = (h, marks_from k m f fs h r.0)

all_timers : (k : Key) (m : ℕ) (c : PlainCell) (ds : List Due) → Least k (first_timer m c ds) → AllIn (λ d. NotBefore k (timer_key m d)) ds
all_timers k m c [] h = tt
all_timers k m c (d ∷ ds) h = let p = least_earlier k (Some _) (first_timer m c ds) h in (p.0, all_timers k m c ds p.1)

-- where a cell's least event is not before k, nothing that it has pending is
pub above_least : (k : Key) (m : ℕ) (c : PlainCell) → IsTidy c → Least k (next_event m c) → Above (NotBefore k) m c
above_least k m c t least =
    let h : Least k (earlier (first_arrival m c c.inbox) (earlier (first_mark m c c.script) (first_timer m c (timers_in c.holds)))) =
    subst (Least k) (next_event_is m c) least in
    let p = least_earlier k (first_arrival m c c.inbox) _ h in
    let q = least_earlier k (first_mark m c c.script) (first_timer m c (timers_in c.holds)) p.1 in
    record {
      flights = all_flights k m c c.inbox p.0 t.flights;
      marks = all_marks k m c c.script q.0 t.marks;
      dues =
          all_timers k m c (timers_in c.holds) q.1;
    }

-- ---- cells stay tidy

abbrev pub RestTidy : Event → Type 0
RestTidy e = IsTidy e.rest

arrival_tidy : (m : ℕ) (c : PlainCell) (fs : List Flight) → IsTidy c → Rises flight_cmp fs → OnEvent RestTidy (first_arrival m c fs)
arrival_tidy m c [] t r = tt
arrival_tidy m c (f ∷ fs) t r = record { flights = r.1; marks = t.marks }

mark_tidy : (m : ℕ) (c : PlainCell) (ks : List Mark) → IsTidy c → Rises mark_cmp ks → OnEvent RestTidy (first_mark m c ks)
mark_tidy m c [] t r = tt
mark_tidy m c (k ∷ ks) t r = record { flights = t.flights; marks = r.1 }

timer_tidy : (m : ℕ) (c : PlainCell) (ds : List Due) → IsTidy c → OnEvent RestTidy (first_timer m c ds)
timer_tidy m c [] t = tt
timer_tidy m c (d ∷ ds) t = earlier_on RestTidy (Some _) (first_timer m c ds) t (timer_tidy m c ds t)

pub next_tidy : (m : ℕ) (c : PlainCell) → IsTidy c → OnEvent RestTidy (next_event m c)
next_tidy m c t = subst (OnEvent RestTidy) (sym (next_event_is m c))
    (earlier_on RestTidy (first_arrival m c c.inbox) _ (arrival_tidy m c c.inbox t t.flights)
    (earlier_on RestTidy (first_mark m c c.script) (first_timer m c (timers_in c.holds)) (mark_tidy m c c.script t t.marks)
    (timer_tidy m c (timers_in c.holds) t)))

tidy_handle : (e : Event) (holds : Option MemberState) (cause : Option Cause) → IsTidy e.rest
    → OnStep (λ d. IsTidy d.cell) (handle e holds cause)
unfolding handle
tidy_handle e holds cause t = grind arith

pub tidy_step : (e : Event) → IsTidy e.rest → OnStep (λ d. IsTidy d.cell) (step_at (Some e))
tidy_step e t = tidy_handle e e.rest.holds e.cause t

tidy_hear_at : (p : Packet) (o : Option ℕ) (c : PlainCell) → IsTidy c → IsTidy (hear_at p o c)
tidy_hear_at p None c t = t
tidy_hear_at p (Some at) c t = record { flights = rises_place flight_cmp flight_total _ c.inbox t.flights; marks = t.marks }

pub tidy_told : (s : Traffic) (x : Option Packet) (m : ℕ) (c : PlainCell) → IsTidy c → IsTidy (told_to s x m c)
unfolding hear
tidy_told s None m c t = t
tidy_told s (Some p) m c t = tidy_hear_at p (arrival_of s p m) c t

-- ---- what a packet's arrival is

-- a packet reaches another member after the distance to it
pub arrival_is : (s : Traffic) (p : Packet) (m at : ℕ) → arrival_of s p m ≡ Some at → (m < s.members) × (m ≢ p.id.sender)
    × (p.sent + s.distance p.id.sender m ≡ at)
arrival_is s p m at h = grind arith

-- whether a time is no later than a leave, if there is one
abbrev pub is_up_to : ℕ → Option ℕ → Bool
is_up_to at leave = option_map_or (nat_le at) leave true

-- a packet does not arrive after the member left
pub arrival_up_to : (s : Traffic) (p : Packet) (m at : ℕ) → arrival_of s p m ≡ Some at → is_up_to at (s.leave m) ≡ true
arrival_up_to s p m at h = grind arith
