-- No two events that a cell has pending have one key.
use Rattle.std.proofs.Common.{◌≡◌, ◌≢◌, ℕ, T, List, [], ◌∷◌, ◌++◌, map, refl, sym, ap, ◌∙◌, arith, Less, Equal}
use Rattle.std.specs.FinMap.Entries.{is_sorted, below_all}
use Rattle.srm_net.specs.declared.key.Key.{Key}
use Rattle.srm_net.specs.declared.packet.Name.{Name}
use Rattle.srm_net.specs.Keys.{key_cmp}
use Rattle.srm_net.specs.declared.rank.Rank.{Rank}
use Rattle.srm_net.specs.declared.rank.Rank.TheVariants.{Request, Repair}
use Rattle.srm_net.specs.Names.{name_cmp}
use Rattle.srm_net.specs.Orders.{Ascends}
use Rattle.srm_net.proofs.Basics.{T_first, T_second, T_less}
use Rattle.srm_scenario.specs.declared.mark.Mark.{Mark}
use Rattle.srm_scenario.specs.Plain.{mark_cmp}
use Rattle.srm_member.specs.declared.due.Due.{Due}
use Rattle.srm_member.specs.declared.entries.Missing.{Missing}
use Rattle.srm_member.specs.declared.entries.Repairing.{Repairing}
use Rattle.srm_member.specs.Record.{MemberState}
use Rattle.srm_member.proofs.AllIn.{AllIn, AllIn-each, AllIn-map}
use Rattle.srm_cell.specs.declared.flight.Flight.{Flight}
use Rattle.srm_cell.specs.Flights.{flight_cmp}
use Rattle.srm_cell.specs.Setting.{HasOwnRanks}
use Rattle.srm_cell.specs.Cells.{PlainCell, arrival_key, mark_key, timer_key, pending_keys, DiffersFrom, AllDiffer}
use Rattle.srm_cell.proofs.Clear.{Differs, differ_rank, timer_differs, IsDistinct, flights_differ, marks_differ, marks_apart}
use Rattle.srm_cell.proofs.Clear.{not_of_mark, due_ranks}
use Rattle.srm_cell.proofs.Clear.{dues_apart}
use Rattle.srm_cell.specs.Cells.{timers_in}
use Rattle.srm_cell.proofs.Rising.{SoundHeld}
use Rattle.std.proofs.Common.{Option, Some, None}

key_self : (k : Key) → key_cmp k k ≡ Equal
key_self k = grind arith

pub not_same : (k l : Key) → Differs k l → k ≢ l
not_same k l d e = d (ap (key_cmp k) (sym e) ∙ key_self k)

from_all : {A : Type 0} (k : Key) (f : A → Key) (xs : List A) → AllIn (λ x. Differs k (f x)) xs → DiffersFrom k (map f xs)
from_all k f [] h = tt
from_all k f (x ∷ xs) h = (not_same k (f x) h.0, from_all k f xs h.1)

differs_append : (k : Key) (xs ys : List Key) → DiffersFrom k xs → DiffersFrom k ys → DiffersFrom k (xs ++ ys)
differs_append k [] ys h g = g
differs_append k (x ∷ xs) ys h g = (h.0, differs_append k xs ys h.1 g)

pub all_differ_append : (xs ys : List Key) → AllDiffer xs → AllDiffer ys → AllIn (λ x. DiffersFrom x ys) xs → AllDiffer (xs ++ ys)
all_differ_append [] ys h g a = g
all_differ_append (x ∷ xs) ys h g a = (differs_append x xs ys h.0 a.0, all_differ_append xs ys h.1 g a.1)

arrivals_differ : (m : ℕ) (fs : List Flight) → Ascends flight_cmp fs → AllDiffer (map (arrival_key m) fs)
arrivals_differ m [] h = tt
arrivals_differ m (f ∷ fs) h = (from_all (arrival_key m f) (arrival_key m) fs (flights_differ m f fs h.0), arrivals_differ m fs h.1)

all_marks_differ : (m : ℕ) (ks : List Mark) → Ascends mark_cmp ks → AllDiffer (map (mark_key m) ks)
all_marks_differ m [] h = tt
all_marks_differ m (k ∷ ks) h = (from_all (mark_key m k) (mark_key m) ks (marks_differ m k ks h.0), all_marks_differ m ks h.1)

-- ---- timers

module _ {V : Type 0} (expiry : V → ℕ) (m : ℕ) (rank : Rank) where
  abbrev due : (Name × V) → Due
  due e = record { time = expiry e.1; rank = rank; name = e.0 }

  later_names : (e : Name × V) (es : List (Name × V)) → T (below_all name_cmp e.0 es)
      → AllIn (λ x. Differs (timer_key m (due e)) (timer_key m (due x))) es
  later_names e [] h = tt
  later_names e (x ∷ es) h = (
    timer_differs m rank (expiry e.1) e.0 x.0 (expiry x.1) (λ q. let y : Less ≡ Equal = sym (T_less _ (T_first _ _ h)) ∙ q in cc),
    later_names e es (T_second _ _ h),
  )

  dues_differ : (es : List (Name × V)) → T (is_sorted name_cmp es) → AllDiffer (map (λ e. timer_key m (due e)) es)
  dues_differ [] h = tt
  dues_differ (e ∷ es) h = (
    from_all (timer_key m (due e)) (λ e. timer_key m (due e)) es (later_names e es (T_first _ _ h)),
    dues_differ es (T_second _ _ h),
  )

map_both : {A B C D : Type 0} (t : C → D) (f : A → C) (g : B → C) (xs : List A) (ys : List B) → map t (map f xs ++ map g ys)
    ≡ map (λ x. t (f x)) xs ++ map (λ y. t (g y)) ys
map_both t f g [] [] = refl
map_both t f g [] (y ∷ ys) = ap (λ l. t (g y) ∷ l) (map_both t f g [] ys)
map_both t f g (x ∷ xs) ys = ap (λ l. t (f x) ∷ l) (map_both t f g xs ys)

memory_differs : (m : ℕ) (state : MemberState) → T (is_sorted name_cmp state.missing) → T (is_sorted name_cmp state.repairs)
    → AllDiffer (map (timer_key m) (timers_in (Some state)))
memory_differs m state h g =
    rw (map_both (timer_key m) (due (λ (v : Missing). v.expiry) m Request) (due (λ (v : Repairing). v.expiry) m Repair)
    state.missing state.repairs)
    (all_differ_append _ _ (dues_differ (λ (v : Missing). v.expiry) m Request state.missing h)
    (dues_differ (λ (v : Repairing). v.expiry) m Repair state.repairs g)
    (AllIn-map (λ x. DiffersFrom x (map (λ e. timer_key m (due (λ (v : Repairing). v.expiry) m Repair e)) state.repairs)) _ state.missing
    (AllIn-each _ (λ e. from_all (timer_key m (due (λ (v : Missing). v.expiry) m Request e)) _ state.repairs
    (AllIn-each _ (λ x. differ_rank (timer_key m (due (λ (v : Missing). v.expiry) m Request e))
    (timer_key m (due (λ (v : Repairing). v.expiry) m Repair x)) (λ q. cc)) state.repairs))
    state.missing)))

timers_differ : (m : ℕ) (r : Option MemberState) → SoundHeld r → AllDiffer (map (timer_key m) (timers_in r))
timers_differ m (Some state) s = memory_differs m state s.asks s.answers
timers_differ m None s = tt

marks_and_timers : (m : ℕ) (r : Option MemberState) (ks : List Mark) → HasOwnRanks ks
    → AllIn (λ k. DiffersFrom (mark_key m k) (map (timer_key m) (timers_in r))) ks
marks_and_timers m r [] h = tt
marks_and_timers m r (k ∷ ks) h =
    let own = h.0 in (
      from_all (mark_key m k) (timer_key m) (timers_in r) (dues_apart m (mark_key m k) (timers_in r)
          (not_of_mark k.rank Request own refl) (not_of_mark k.rank Repair own refl) (due_ranks r)),
      marks_and_timers m r ks h.1,
    )

pub cell_keys_differ : (m : ℕ) (c : PlainCell) → IsDistinct c → SoundHeld c.holds → AllDiffer (pending_keys m c)
cell_keys_differ m c d s =
    let marks = map (mark_key m) c.script in
    let dues = map (timer_key m) (timers_in c.holds) in
    all_differ_append (map (arrival_key m) c.inbox) (marks ++ dues) (arrivals_differ m c.inbox d.flights)
    (all_differ_append marks dues (all_marks_differ m c.script d.marks) (timers_differ m c.holds s)
    (AllIn-map (λ x. DiffersFrom x (map (timer_key m) (timers_in c.holds)))
    (mark_key m) c.script (marks_and_timers m c.holds c.script d.ranks)))
    (AllIn-map (λ x. DiffersFrom x (map (mark_key m) c.script ++ map (timer_key m) (timers_in c.holds))) (arrival_key m) c.inbox
    (AllIn-each _ (λ f. differs_append (arrival_key m f) (map (mark_key m) c.script) (map (timer_key m) (timers_in c.holds))
    (from_all (arrival_key m f) (mark_key m) c.script (marks_apart m (arrival_key m f) c.script d.ranks refl))
    (from_all (arrival_key m f) (timer_key m) (timers_in c.holds)
    (dues_apart m (arrival_key m f) (timers_in c.holds) (λ e. cc) (λ e. cc) (due_ranks c.holds)))) c.inbox))
