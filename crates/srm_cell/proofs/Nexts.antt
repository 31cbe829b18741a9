-- Where a cell has its next event.
use Rattle.std.proofs.Common.{arith}
use Rattle.std.proofs.Common.{◌≡◌, ◌<◌, ◌≤◌, ◌⊎◌, cond, ℕ, List, [], ◌∷◌, Option, Some, None, IfSome, IsSomeAnd, option_map}
use Rattle.std.proofs.Common.{slice_get, refl, sym, ap, ◌∙◌, subst, le-ltb, lt-ltb, Ordering, Less, Equal, Greater}
use Rattle.std.proofs.lemmas.Option.{same_Some}
use Rattle.std.specs.Ordering.{is_gt, min_by_ordering}
use Rattle.srm_net.specs.Keys.{key_cmp, rank_number}
use Rattle.srm_net.specs.declared.key.Key.{Key}
use Rattle.srm_net.specs.declared.packet.PacketId.{PacketId}
use Rattle.srm_net.specs.declared.rank.Rank.TheVariants.{Arrival, Request, Repair}
use Rattle.srm_scenario.specs.declared.mark.Mark.{Mark}
use Rattle.srm_member.specs.declared.due.Due.{Due}
use Rattle.srm_cell.specs.declared.flight.Flight.{Flight}
use Rattle.srm_cell.specs.Cells.{PlainCell, Event, first_arrival, first_mark, next_timer, next_event, earlier, before, due_in}
use Rattle.srm_cell.specs.Cells.{time_of}
use Rattle.srm_cell.specs.Cells.{step_at, own_step, handle, Idle}
use Rattle.srm_cell.specs.declared.pending_event.Next.{Next}
use Rattle.srm_cell.specs.declared.pending_event.PendingEvent.{PendingEvent}
use Rattle.srm_cell.specs.declared.pending_event.Source.{Source}
use Rattle.srm_cell.specs.declared.pending_event.Source.TheVariants.{Inbox, Script, Timer}
use Rattle.srm_cell.specs.Pending.{IsNext, Stands, first_of, never, next_of, no_next, sooner_pending, tick_of}

-- an event with this key, which is what is pending
abbrev pub Known : Key → Option Event → Option Event → Type 0
Known k o q = (e : Event) × (o ≡ Some e) × (k ≡ e.key) × (q ≡ Some e)

pub arrival_known : (m : ℕ) (p : PlainCell) (fs : List Flight) (t : ℕ) (id : PacketId)
    → ◌≡◌ {A = Option (ℕ × PacketId)} (Some (t, id)) (option_map (λ (f : Flight). (f.arrival, f.packet.id)) (slice_get fs 0))
    → Known (record { time = t; member = m; rank = Arrival; a = id.sender; b = 0; c = id.count }) (first_arrival m p fs)
    (first_arrival m p fs)
arrival_known m p [] t id h = cc
arrival_known m p (f ∷ fs) t id h =
    let pair : ◌≡◌ {A = ℕ × PacketId} (t, id) (f.arrival, f.packet.id) = cc in
    let time : t ≡ f.arrival = ap (λ (x : ℕ × PacketId). x.0) pair in
    let same : id ≡ f.packet.id = ap (λ (x : ℕ × PacketId). x.1) pair in
    (_, refl, (λ i. record { time = time i; member = m; rank = Arrival; a = (same i).sender; b = 0; c = (same i).count }), refl)

pub mark_known : (m : ℕ) (p : PlainCell) (ks rest : List Mark) (k : Mark) → ks ≡ k ∷ rest
    → Known (record { time = k.at; member = m; rank = k.rank; a = 0; b = 0; c = k.place }) (first_mark m p ks)
    (first_mark m p ks)
mark_known m p ks rest k h = subst
    (λ xs. Known (record { time = k.at; member = m; rank = k.rank; a = 0; b = 0; c = k.place }) (first_mark m p xs) (first_mark m p xs))
    (sym h) (_, refl, refl, refl)

pub timer_known : (m : ℕ) (p : PlainCell) (o : Option Due) (d : Due) → Some d ≡ o
    → Known (record { time = d.time; member = m; rank = d.rank; a = d.name.source; b = d.name.page; c = d.name.number })
    (next_timer m p o) (next_timer m p o)
timer_known m p o d h = (_, ap (next_timer m p) (sym h), refl, ap (next_timer m p) (sym h))

-- ---- the sooner of two

sooner_by : (m : ℕ) (c : PlainCell) (p q : PendingEvent) (x y : Option Event) (r : Ordering) → key_cmp p.key q.key ≡ r
    → Stands m c (Some p) x → Stands m c (Some q) y
    → Stands m c (cond (is_gt r) (Some q) (Some p)) (earlier x y)
sooner_by m c p q x y r h7 h g = grind arith

pub sooner_stands : (m : ℕ) (c : PlainCell) (d e : Option PendingEvent) (x y : Option Event) → Stands m c d x → Stands m c e y
    → Stands m c (sooner_pending d e) (earlier x y)
sooner_stands m c d e x y h g = grind (arith, sooner_by)

-- what is pending with the least key tells when and where the next event is
pub keyed_next : (m : ℕ) (c : PlainCell) (d : Option PendingEvent) (o : Option Event) → Stands m c d o → IsNext m c (next_of d) o
keyed_next m c None o h = subst (IsNext m c no_next) (sym h) refl
keyed_next m c (Some p) o h =
    subst (IsNext m c (record { time = p.key.time; source = p.source })) (sym h.1) (ap (λ (k : Key). k.time) h.2, h.3)

-- ---- one that is sooner than both others has the least key

sooner_key : (k l : Key) → k.time < l.time → key_cmp k l ≡ Less
sooner_key k l h = grind arith

later_key : (k l : Key) → l.time < k.time → key_cmp k l ≡ Greater
later_key k l h = grind arith

first_sooner : (x y : Option Event) → tick_of x < tick_of y → tick_of y ≤ never → earlier x y ≡ x
first_sooner None y lt le = absurd (omega arith)
first_sooner (Some d) None lt le = refl
first_sooner (Some d) (Some e) lt le = ap (λ r. Some (min_by_ordering r d e)) (sooner_key d.key e.key lt)

second_sooner : (x y : Option Event) → tick_of y < tick_of x → tick_of x ≤ never → earlier x y ≡ y
second_sooner None y lt le = refl
second_sooner (Some d) None lt le = absurd (omega arith)
second_sooner (Some d) (Some e) lt le = ap (λ r. Some (min_by_ordering r d e)) (later_key d.key e.key lt)

level_key : (k l : Key) → k.time ≡ l.time → k.member ≡ l.member → k.rank ≡ Arrival → (l.rank ≡ Request) ⊎ (l.rank ≡ Repair)
    → key_cmp k l ≡ Less
unfolding rank_number
level_key k l h g a r = grind arith

-- of one tick and member, a packet's arrival goes before a timer of a request or of a repair
level_sooner : (m : ℕ) (x y : Option Event) → tick_of x < never → tick_of x ≡ tick_of y
    → IfSome x (λ d. (d.key.member ≡ m) × (d.key.rank ≡ Arrival))
    → IfSome y (λ e. (e.key.member ≡ m) × ((e.key.rank ≡ Request) ⊎ (e.key.rank ≡ Repair))) → earlier x y ≡ x
level_sooner m None y lt h a b = absurd (omega arith)
level_sooner m (Some d) None lt h a b = refl
level_sooner m (Some d) (Some e) lt h a b =
    ap (λ r. Some (min_by_ordering r d e)) (level_key d.key e.key h (a.0 ∙ sym b.0) a.1 b.1)

arrival_ranked : (m : ℕ) (c : PlainCell) (fs : List Flight)
    → IfSome (first_arrival m c fs) (λ d. (d.key.member ≡ m) × (d.key.rank ≡ Arrival))
arrival_ranked m c [] = tt
arrival_ranked m c (f ∷ fs) = (refl, refl)

timer_ranked : (m : ℕ) (c : PlainCell) (o : Option Due) → IsSomeAnd o (λ d. (d.rank ≡ Request) ⊎ (d.rank ≡ Repair))
    → IfSome (next_timer m c o) (λ e. (e.key.member ≡ m) × ((e.key.rank ≡ Request) ⊎ (e.key.rank ≡ Repair)))
timer_ranked m c None h = tt
timer_ranked m c (Some d) h = (refl, h)

-- the earlier of two is one of them
one_of_two : (P : Option Event → Type 0) (x y : Option Event) → P x → P y → P (earlier x y)
one_of_two P None y a b = b
one_of_two P (Some d) None a b = a
one_of_two P (Some d) (Some e) a b = elim (key_cmp d.key e.key) as (λ r. P (Some (min_by_ordering r d e))) [
  | Less ↦ a
  | Equal ↦ a
  | Greater ↦ b
]

module _ (m : ℕ) (c : PlainCell) where
  abbrev first : Source → Option Event
  first s = first_of s m c

  soonest : (s : Source) (t : ℕ) → next_event m c ≡ first s → tick_of (first s) < t → t ≤ never
      → IsNext m c (record { time = tick_of (first s); source = s }) (next_event m c)
  soonest s t is lt le = subst (IsNext m c (record { time = tick_of (first s); source = s })) (sym is) (by (first s) refl lt)
    where
      by : (x : Option Event) → first s ≡ x → tick_of x < t → IsNext m c (record { time = tick_of x; source = s }) x
      by None h lt = absurd (omega arith)
      by (Some e) h lt = (refl, h)

  pub arrival_next : tick_of (first Inbox) < tick_of (first Script) → tick_of (first Inbox) < tick_of (first Timer)
      → tick_of (first Script) ≤ never → tick_of (first Timer) ≤ never
      → IsNext m c (record { time = tick_of (first Inbox); source = Inbox }) (next_event m c)
  unfolding next_event
  arrival_next lk lt nk nt = soonest Inbox _ (first_sooner (first Inbox) (earlier (first Script) (first Timer))
      (one_of_two (λ o. tick_of (first Inbox) < tick_of o) (first Script) (first Timer) lk lt)
      (one_of_two (λ o. tick_of o ≤ never) (first Script) (first Timer) nk nt)) lk nk

  pub level_next : tick_of (first Inbox) < tick_of (first Script) → tick_of (first Inbox) ≡ tick_of (first Timer)
      → tick_of (first Script) ≤ never → IsSomeAnd (due_in c.holds) (λ d. (d.rank ≡ Request) ⊎ (d.rank ≡ Repair))
      → IsNext m c (record { time = tick_of (first Inbox); source = Inbox }) (next_event m c)
  unfolding next_event
  level_next lk same nk r = soonest Inbox _
      (ap (earlier (first Inbox)) (second_sooner (first Script) (first Timer) (omega (arith, lk, same)) nk)
      ∙ level_sooner m (first Inbox) (first Timer) (omega (arith, lk, nk)) same (arrival_ranked m c c.inbox)
      (timer_ranked m c (due_in c.holds) r)) lk nk

  pub mark_next : tick_of (first Script) < tick_of (first Inbox) → tick_of (first Script) < tick_of (first Timer)
      → tick_of (first Inbox) ≤ never → tick_of (first Timer) ≤ never
      → IsNext m c (record { time = tick_of (first Script); source = Script }) (next_event m c)
  unfolding next_event
  mark_next la lt na nt = soonest Script _ (ap (earlier (first Inbox)) (first_sooner (first Script) (first Timer) lt nt)
      ∙ second_sooner (first Inbox) (first Script) la na) la na

  pub timer_next : tick_of (first Timer) < tick_of (first Inbox) → tick_of (first Timer) < tick_of (first Script)
      → tick_of (first Inbox) ≤ never → tick_of (first Script) ≤ never
      → IsNext m c (record { time = tick_of (first Timer); source = Timer }) (next_event m c)
  unfolding next_event
  timer_next la lk na nk = soonest Timer _ (ap (earlier (first Inbox)) (second_sooner (first Script) (first Timer) lk nk)
      ∙ second_sooner (first Inbox) (first Timer) la na) la na

-- ---- the own step

-- what is not before the end is not due
pub none_due : (till : ℕ) (o : Option Event) → ((u : ℕ) → time_of o ≡ Some u → till ≤ u) → before till o ≡ None
none_due till None h = refl
none_due till (Some e) h = ap (λ b. cond b (Some e) None) (le-ltb e.key.time till (h e.key.time refl))

module _ (till m : ℕ) (p : PlainCell) where
  -- where nothing is due there is no step
  pub idle_step : before till (next_event m p) ≡ None → own_step till m p ≡ Idle
  unfolding own_step
  idle_step h = ap step_at h

  -- so it is where the next event is not before the end
  pub none_before : (n : Next) (o : Option Event) → next_event m p ≡ o → IsNext m p n o → till ≤ n.time → own_step till m p ≡ Idle
  none_before n None q h le = idle_step (ap (before till) q)
  none_before n (Some e) q h le = idle_step (ap (before till) q ∙ none_due till (Some e) (λ u f. omega (arith, h.0, same_Some _ u f)))

  -- and where it is before the end there is one
  pub some_before : (n : Next) (o : Option Event) → IsNext m p n o → n.time < till → till ≤ never → (e : Event) × (o ≡ Some e)
      × IsNext m p n (Some e)
  some_before n None h lt le = let t = ap (λ (n : Next). n.time) h in absurd (omega arith)
  some_before n (Some e) h lt le = (e, refl, h)

  pub takes : (e : Event) → next_event m p ≡ Some e → e.key.time < till → own_step till m p ≡ handle e e.rest.holds e.cause
  unfolding own_step
  takes e q lt = ap (λ o. step_at (before till o)) q ∙ ap (λ b. step_at (cond b (Some e) None)) (lt-ltb e.key.time till lt)
