-- A cell's next event after it hears a packet: the packet's arrival, or what was next.
use Rattle.std.proofs.Common.{arith}
use Rattle.std.proofs.Common.{◌≡◌, ◌≢◌, ◌<◌, ◌≤◌, ℕ, Bool, cond, List, [], ◌∷◌, Option, Some, None, option_map, refl, sym, ap, ◌∙◌}
use Rattle.std.proofs.Common.{subst, Ordering, Less, Equal, Greater, is_lt, false, true≢false, Result, Ok, Err}
use Rattle.std.specs.Result.{OnOk, is_err}
use Rattle.std.specs.Ordering.{min_by_ordering, ordering_reverse}
use Rattle.srm_net.specs.declared.key.Key.{Key}
use Rattle.srm_net.specs.declared.packet.Packet.{Packet}
use Rattle.srm_net.specs.Keys.{key_cmp}
use Rattle.srm_net.specs.Orders.{place}
use Rattle.srm_net.proofs.TotalOrders.{key_total}
use Rattle.srm_scenario.specs.declared.mark.Mark.{Mark}
use Rattle.srm_member.specs.declared.cause.Cause.TheVariants.{Arrival}
use Rattle.srm_member.specs.declared.due.Due.{Due}
use Rattle.srm_member.proofs.OrderLemmas.{from_refl, from_trans, from_not_greater, not_greater}
use Rattle.srm_cell.specs.declared.flight.Flight.{Flight}
use Rattle.srm_cell.specs.declared.pending_event.Source.{Source}
use Rattle.srm_cell.specs.declared.pending_event.Source.TheVariants.{Inbox, Nowhere}
use Rattle.srm_cell.specs.declared.pending_event.Next.{Next}
use Rattle.srm_cell.specs.Flights.{flight_cmp}
use Rattle.srm_cell.specs.Cells.{PlainCell, Event, arrival_key, earlier, first_arrival, first_mark, next_timer, next_event, hear_at}
use Rattle.srm_cell.specs.Pending.{IsNext, Stands, arriving, first_of, never}
use Rattle.srm_cell.proofs.CellLemmas.{earlier-map, event_map, first_le, second_le}
use Rattle.srm_cell.proofs.Nexts.{keyed_next}
use Rattle.srm_cell.proofs.Tidy.{Least, flight_keys, least_earlier}
use Rattle.srm_cell.specs.Cells.{due_in}

pub if_ok : {A E : Type 0} (r : Result A E) (P : Type 0) → is_err r ≡ false → OnOk r P → P
if_ok (Ok x) P e h = h
if_ok (Err x) P e h = absurd (true≢false e)

-- ---- of three events the least is found in either order

lesser_once : (k l n : Key) → key_cmp k l ≢ Greater → key_cmp l n ≢ Greater → key_cmp k n ≢ Greater
lesser_once k l n h g =
    not_greater key_cmp key_total k n
    (from_trans key_cmp key_total k l n (from_not_greater key_cmp key_total k l h) (from_not_greater key_cmp key_total l n g))

turned : (k l : Key) (r : Ordering) → key_cmp k l ≡ r → key_cmp l k ≡ ordering_reverse r
turned k l r h = key_total.antisymm l k ∙ ap ordering_reverse h

greater_once : (k l n : Key) → key_cmp k l ≡ Greater → key_cmp l n ≡ Greater → key_cmp k n ≡ Greater
greater_once k l n h g = turned n k Less (key_total.trans n l k (turned l n Greater g) (turned k l Greater h))

less_not : (r : Ordering) → r ≡ Less → r ≢ Greater
less_not r h g = let x : Less ≡ Greater = sym h ∙ g in cc

equal_not : (r : Ordering) → r ≡ Equal → r ≢ Greater
equal_not r h g = let x : Equal ≡ Greater = sym h ∙ g in cc

first_kept : (r : Ordering) (d e : Event) → r ≢ Greater → min_by_ordering r d e ≡ d
first_kept r d e h = grind arith

second_kept : (r : Ordering) (d e : Event) → r ≡ Greater → min_by_ordering r d e ≡ e
second_kept r d e h = ap (λ q. min_by_ordering q d e) h

all_kept : (d e f : Event) → key_cmp d.key e.key ≢ Greater → key_cmp e.key f.key ≢ Greater
    → min_by_ordering (key_cmp d.key f.key) d f ≡ min_by_ordering (key_cmp d.key e.key) d e
all_kept d e f h g = first_kept _ d f (lesser_once d.key e.key f.key h g) ∙ sym (first_kept _ d e h)

of_three : (d e f : Event) (r s : Ordering) → key_cmp d.key e.key ≡ r → key_cmp e.key f.key ≡ s
    → min_by_ordering (key_cmp (min_by_ordering r d e).key f.key) (min_by_ordering r d e) f
    ≡ min_by_ordering (key_cmp d.key (min_by_ordering s e f).key) d (min_by_ordering s e f)
of_three d e f r s h g = grind (arith, all_kept, greater_once)

earlier_of_three : (x y z : Option Event) → earlier (earlier x y) z ≡ earlier x (earlier y z)
earlier_of_three x y z = grind (arith, of_three)

pub some_first : (d : Event) (o : Option Event) → earlier (Some d) o ≢ None
some_first d None h = cc
some_first d (Some e) h = cc

none_of_two : (x y : Option Event) → earlier x y ≡ None → x ≡ None
none_of_two None y h = refl
none_of_two (Some d) y h = absurd (some_first d y h)

-- ---- what is next

module _ (m : ℕ) (p : Packet) (at : ℕ) where
  abbrev heard : PlainCell → PlainCell
  heard c = hear_at p (Some at) c

  abbrev flight : Flight
  flight = record { arrival = at; packet = p }

  -- the arrival of a flight, and the cell without it
  abbrev coming : Flight → PlainCell → Event
  coming f c = record { key = arrival_key m f; cause = Some (Arrival f.packet); rest = c }

  place_by : (c : PlainCell) (f : Flight) (fs : List Flight) (r : Ordering) (b : Bool) → b ≡ is_lt (ordering_reverse r)
      → first_arrival m (heard c) (cond b (f ∷ place flight_cmp flight fs) (flight ∷ f ∷ fs))
      ≡ Some (min_by_ordering r (coming flight (record c { inbox = f ∷ fs })) (event_map heard (coming f (record c { inbox = fs }))))
  place_by c f fs r b h = grind arith

  -- the first arrival is the packet's, or what was the first
  first_heard : (c : PlainCell) (fs : List Flight) → first_arrival m (heard c) (place flight_cmp flight fs)
      ≡ earlier (Some (coming flight (record c { inbox = fs }))) (option_map (event_map heard) (first_arrival m c fs))
  first_heard c [] = refl
  first_heard c (f ∷ fs) =
      let same = flight_keys m flight f in
      let back : is_lt (flight_cmp f flight) ≡ is_lt (ordering_reverse (key_cmp (arrival_key m flight) (arrival_key m f))) =
      ap is_lt (sym (flight_keys m f flight) ∙ key_total.antisymm (arrival_key m f) (arrival_key m flight)) in
      place_by c f fs (key_cmp (arrival_key m flight) (arrival_key m f)) (is_lt (flight_cmp f flight)) back

  marks_alike : (c : PlainCell) (ks : List Mark) → first_mark m (heard c) ks ≡ option_map (event_map heard) (first_mark m c ks)
  marks_alike c [] = refl
  marks_alike c (k ∷ ks) = refl

  timers_alike : (c : PlainCell) (o : Option Due) → next_timer m (heard c) o ≡ option_map (event_map heard) (next_timer m c o)
  timers_alike c None = refl
  timers_alike c (Some d) = refl

  -- the next event is the packet's arrival, or what was next
  next_heard : (c : PlainCell) → next_event m (heard c) ≡ earlier (Some (coming flight c)) (option_map (event_map heard) (next_event m c))
  unfolding next_event
  next_heard c =
      let a = first_arrival m c c.inbox in
      let k = first_mark m c c.script in
      let t = next_timer m c (due_in c.holds) in
      ap (λ o. earlier o (earlier (first_mark m (heard c) c.script) (next_timer m (heard c) (due_in c.holds)))) (first_heard c c.inbox)
      ∙ ap (λ o. earlier (earlier (Some (coming flight c)) (option_map (event_map heard) a))
      (earlier o (next_timer m (heard c) (due_in c.holds)))) (marks_alike c c.script)
      ∙ ap (λ o. earlier (earlier (Some (coming flight c)) (option_map (event_map heard) a)) (earlier (option_map (event_map heard) k) o))
      (timers_alike c (due_in c.holds))
      ∙ ap (earlier (earlier (Some (coming flight c)) (option_map (event_map heard) a))) (earlier-map heard k t)
      ∙ earlier_of_three (Some (coming flight c)) (option_map (event_map heard) a) (option_map (event_map heard) (earlier k t))
      ∙ ap (earlier (Some (coming flight c))) (earlier-map heard a (earlier k t))

  first_of_two : (d : Event) (x : Option Event) → ((a : Event) → x ≡ Some a → key_cmp d.key a.key ≢ Greater)
      → earlier (Some d) (option_map (event_map heard) x) ≡ Some d
  first_of_two d None b = refl
  first_of_two d (Some a) b = ap Some (first_kept _ d (event_map heard a) (b a refl))

  -- the packet's arrival is the first where it is not after another
  is_first : (c : PlainCell) → ((a : Event) → first_arrival m c c.inbox ≡ Some a → key_cmp (arrival_key m flight) a.key ≢ Greater)
      → first_of Inbox m (heard c) ≡ Some (coming flight c)
  is_first c b = first_heard c c.inbox ∙ first_of_two (coming flight c) (first_arrival m c c.inbox) b

  -- no arrival is where nothing is next, or before what is next
  no_arrival : (c : PlainCell) → next_event m c ≡ None → first_arrival m c c.inbox ≡ None
  unfolding next_event
  no_arrival c h = none_of_two (first_arrival m c c.inbox) _ h

  arrivals_from : (c : PlainCell) (e : Event) → next_event m c ≡ Some e → Least e.key (first_arrival m c c.inbox)
  unfolding next_event
  arrivals_from c e h = (least_earlier e.key (first_arrival m c c.inbox) _
      (subst (Least e.key) (sym h) (from_refl key_cmp key_total e.key))).0

  none_before : (c : PlainCell) (e a : Event) → next_event m c ≡ Some e → first_arrival m c c.inbox ≡ Some a → key_cmp e.key a.key ≢ Greater
  none_before c e a h g = not_greater key_cmp key_total e.key a.key (subst (Least e.key) g (arrivals_from c e h))

  source_alike : (c : PlainCell) (s : Source) (e : Event) → first_of s m c ≡ Some e → key_cmp (arrival_key m flight) e.key ≡ Greater
      → first_of s m (heard c) ≡ Some (event_map heard e)
  source_alike c s e h after = grind arith

  next_with : (c : PlainCell) (o : Option Event) → next_event m c ≡ o → next_event m (heard c)
      ≡ earlier (Some (coming flight c)) (option_map (event_map heard) o)
  next_with c o h = next_heard c ∙ ap (λ o. earlier (Some (coming flight c)) (option_map (event_map heard) o)) h

  stands_none : (c : PlainCell) → next_event m c ≡ None → Stands m (heard c) (Some (arriving m at p.id)) (next_event m (heard c))
  stands_none c h = (
    coming flight c,
    next_with c None h,
    refl,
    is_first c (λ a q. let x : None ≡ Some a = sym (no_arrival c h) ∙ q in cc),
  )

  stands_first : (c : PlainCell) (e : Event) → next_event m c ≡ Some e → key_cmp (arrival_key m flight) e.key ≢ Greater
      → Stands m (heard c) (Some (arriving m at p.id)) (next_event m (heard c))
  stands_first c e h b = (
    coming flight c,
    next_with c (Some e) h ∙ ap Some (first_kept _ (coming flight c) (event_map heard e) b),
    refl,
    is_first c (λ a q. lesser_once (arrival_key m flight) e.key a.key b (none_before c e a h q)),
  )

  at_one_tick : (c : PlainCell) (n : Next) (e : Event) → key_cmp (arrival_key m flight) e.key ≢ Greater
      → next_event m c ≡ Some e → IsNext m c n (Some e) → n.time ≤ at → (at ≡ n.time → n.source ≡ Inbox)
      → IsNext m (heard c) n (next_event m (heard c))
  at_one_tick c n e ng q h le b =
      let sooner = first_le (arrival_key m flight) e.key ng in
      let is = h.0 in
      let time : at ≡ n.time = omega arith in
      subst (λ (n : Next). IsNext m (heard c) n (next_event m (heard c)))
      (λ i. record { time = time i; source = sym (b time) i })
      (keyed_next m (heard c) (Some (arriving m at p.id)) _ (stands_first c e q ng))

  -- the packet's arrival is next where it is sooner than what was next
  pub next_sooner : (c : PlainCell) (n : Next) (o : Option Event) → next_event m c ≡ o → IsNext m c n o → at < n.time
      → IsNext m (heard c) (record { time = at; source = Inbox }) (next_event m (heard c))
  next_sooner c n None q h lt = keyed_next m (heard c) (Some (arriving m at p.id)) _ (stands_none c q)
  next_sooner c n (Some e) q h lt = keyed_next m (heard c) (Some (arriving m at p.id)) _
      (stands_first c e q (λ g. let le = second_le (arrival_key m flight) e.key g in let is = h.0 in omega arith))

  -- and what was next is so where it is sooner, or an arrival no later
  next_kept : (c : PlainCell) (n : Next) (e : Event) (r : Ordering) → key_cmp (arrival_key m flight) e.key ≡ r
      → next_event m c ≡ Some e → IsNext m c n (Some e) → n.time ≤ at → (at ≡ n.time → n.source ≡ Inbox)
      → IsNext m (heard c) n (next_event m (heard c))
  next_kept c n e Greater k q h le b = subst (IsNext m (heard c) n)
      (sym (next_with c (Some e) q ∙ ap Some (second_kept _ (coming flight c) (event_map heard e) k)))
      (h.0, source_alike c n.source e h.1 k)
  next_kept c n e Less k q h le b = at_one_tick c n e (less_not _ k) q h le b
  next_kept c n e Equal k q h le b = at_one_tick c n e (equal_not _ k) q h le b

  pub next_later : (c : PlainCell) (n : Next) (o : Option Event) → next_event m c ≡ o → IsNext m c n o → n.time ≤ at
      → (at ≡ n.time → n.source ≡ Inbox) → at ≤ never → IsNext m (heard c) n (next_event m (heard c))
  next_later c n None q h le b most =
      let time = ap (λ (n : Next). n.time) h in
      let x : Inbox ≡ Nowhere = sym (b (omega arith)) ∙ ap (λ (n : Next). n.source) h in cc
  next_later c n (Some e) q h le b most = next_kept c n e _ refl q h le b
