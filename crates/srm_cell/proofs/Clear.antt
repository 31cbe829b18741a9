-- After a step no event that is pending has its key; and what a step does to inbox, script and packet count.
use Rattle.std.proofs.Common.{◌≡◌, ℕ, suc, ◌<◌, ◌+◌, ◌/◌, min, Bool, true, false, cond, not, T, List, [], ◌∷◌, map, refl}
use Rattle.std.proofs.Common.{sym, ap, ◌∙◌, subst, ◌≢◌, ◌⊎◌, inl, inr, arith, Less, Equal, Greater, Option, Some, None, nat_lt, is_lt}
use Rattle.std.proofs.Common.{true≢false}
use Rattle.std.specs.Ordering.{eq_by_cmp, is_eq, ordering_reverse}
use Rattle.std.specs.FinMap.Entries.{put, find, by_order, is_sorted, below_all}
use Rattle.srm_cell.proofs.CellLemmas.{first_timer, next_event_is}
use Rattle.srm_cell.proofs.Rising.{Above, OnEvent, OnStep, earlier_on, step_above}
use Rattle.srm_cell.specs.Cells.{arrival_key, mark_key, timer_key, Done, Event, Full, PlainCell, Stepped, before, cause_of_timer}
use Rattle.srm_cell.specs.Cells.{first_arrival, first_mark, handle, next_event, sending_step, step_at}
use Rattle.srm_cell.proofs.Tidy.{NotBefore, flight_keys, mark_keys}
use Rattle.srm_cell.specs.Flights.{flight_cmp}
use Rattle.srm_cell.specs.Setting.{HasOwnRanks}
use Rattle.srm_cell.specs.declared.flight.Flight.{Flight}
use Rattle.srm_member.proofs.AllIn.{AllIn, AllIn-append, AllIn-each, AllIn-map, AllIn-weaker}
use Rattle.srm_member.proofs.Bounds.{request_length_pos}
use Rattle.srm_member.proofs.FewerTimers.{In, IsSound, found, in_append, in_map}
use Rattle.srm_member.proofs.FewerTimers.{no_table}
use Rattle.srm_member.proofs.LawProofs.{as_active}
use Rattle.srm_net.specs.Roles.{is_listener}
use Rattle.srm_member.specs.React.{Reaction, expire_repair, expire_repair_by_entry, expire_request, expire_request_by_entry, back_off}
use Rattle.srm_member.specs.React.{react, request_length, with_request_delay, with_request_first, with_answer_seen}
use Rattle.srm_member.specs.React.{with_own_timer_ended, with_rest, without}
use Rattle.srm_member.specs.LocalRecovery.{local_of, mark_after}
use Rattle.srm_member.specs.declared.entries.Missing.{Missing}
use Rattle.srm_member.specs.declared.entries.Repairing.{Repairing}
use Rattle.srm_member.specs.Record.{MemberState, timers_of}
use Rattle.srm_member.specs.declared.cause.Cause.{Cause}
use Rattle.srm_member.specs.declared.cause.Cause.TheVariants.{Answer, Ask}
use Rattle.srm_member.specs.declared.due.Due.{Due}
use Rattle.srm_net.specs.Keys.{key_cmp, numbers_of_key}
use Rattle.srm_net.specs.Names.{name_cmp}
use Rattle.srm_net.specs.Orders.{AllAfter, Ascends}
use Rattle.srm_net.specs.declared.key.Key.{Key}
use Rattle.srm_net.specs.declared.packet.Body.{Body}
use Rattle.srm_net.specs.declared.packet.Name.{Name}
use Rattle.srm_net.specs.declared.packet.Packet.{Packet}
use Rattle.srm_net.specs.declared.rank.Rank.{Rank}
use Rattle.srm_net.specs.declared.rank.Rank.TheVariants.{Arrival, Request, Repair}
use Rattle.srm_scenario.specs.Plain.{mark_cmp}
use Rattle.srm_scenario.specs.Scripts.{is_mark_rank}
use Rattle.srm_scenario.specs.declared.mark.Mark.{Mark}
use Rattle.srm_net.specs.Limits.{most_sent}
use Rattle.srm_net.proofs.Basics.{same_numbers, T_first, T_second, T_less, nth_number}
use Rattle.srm_net.proofs.TotalOrders.{key_total, name_total, one_rank}
use Rattle.srm_cell.specs.Cells.{timers_in}
use Rattle.srm_cell.proofs.Rising.{SoundHeld}

-- ---- keys that differ

abbrev pub Differs : Key → Key → Type 0
Differs k l = key_cmp k l ≢ Equal

same_keys : (k l : Key) → key_cmp k l ≡ Equal → numbers_of_key k ≡ numbers_of_key l
same_keys k l e = same_numbers (numbers_of_key k) (numbers_of_key l) e

pub differ_time : (k l : Key) → k.time ≢ l.time → Differs k l
unfolding nth_number
differ_time k l ne e = ne (ap (nth_number 0) (same_keys k l e))

pub differ_member : (k l : Key) → k.member ≢ l.member → Differs k l
unfolding nth_number
differ_member k l ne e = ne (ap (nth_number 1) (same_keys k l e))

pub differ_rank : (k l : Key) → k.rank ≢ l.rank → Differs k l
unfolding nth_number
differ_rank k l ne e = ne (one_rank k.rank l.rank (ap (nth_number 2) (same_keys k l e)))

pub later_differs : (k l : Key) → k.time < l.time → Differs k l
later_differs k l lt = differ_time k l (λ e. omega arith)

-- k comes before l, where l is not before k and is another key
pub then_after : (k l : Key) → NotBefore k l → Differs k l → key_cmp k l ≡ Less
then_after k l h ne = elim (key_cmp k l) as (λ r. key_cmp k l ≡ r → key_cmp k l ≡ Less) [
  | Less ↦ λ e. e
  | Equal ↦ λ e. absurd (ne e)
  | Greater ↦ λ e. let x : true ≡ false = sym (ap is_lt (key_total.antisymm l k ∙ ap ordering_reverse e)) ∙ h in absurd (true≢false x)
] refl

-- timers of two names at one tick and of one rank have different keys
pub timer_differs : (m : ℕ) (rank : Rank) (t : ℕ) (n k : Name) (u : ℕ) → (name_cmp n k ≡ Equal → u ≢ t)
    → Differs (timer_key m (record { time = t; rank = rank; name = n })) (timer_key m (record { time = u; rank = rank; name = k }))
unfolding nth_number
timer_differs m rank t n k u apart e = grind arith

-- ---- a name's entry in a table after it is written over, or taken out

module _ {V : Type 0} (p : V → Type 0) where
  abbrev Clear : Name → (Name × V) → Type 0
  Clear n e = name_cmp n e.0 ≡ Equal → p e.1

  below_clear : (n k : Name) (es : List (Name × V)) → (name_cmp n k ≡ Less) ⊎ (name_cmp n k ≡ Equal) → T (below_all name_cmp k es)
      → AllIn (Clear n) es
  below_clear n k [] h s = tt
  below_clear n k (e ∷ es) h s =
      let ke = T_less _ (T_first _ _ s) in
      let ne : name_cmp n e.0 ≡ Less = elim h [ inl a ↦ name_total.trans n k e.0 a ke | inr a ↦ name_total.congr n k e.0 a ∙ ke ] in
      ((λ q. let x : Less ≡ Equal = sym ne ∙ q in cc), below_clear n k es h (T_second _ _ s))

  put_clear : (n : Name) (v : V) (es : List (Name × V)) → T (is_sorted name_cmp es) → p v → AllIn (Clear n) (put name_cmp n v es)
  put_clear n v [] s h = ((λ q. h), tt)
  put_clear n v (e ∷ es) s h = elim (name_cmp n e.0) as (λ r. name_cmp n e.0 ≡ r
      → AllIn (Clear n) (by_order r ((n, v) ∷ e ∷ es) ((e.0, v) ∷ es) (e ∷ put name_cmp n v es))) [
        | Less ↦ λ q. ((λ x. h), ((λ x. let y : Less ≡ Equal = sym q ∙ x in cc), below_clear n e.0 es (inl q) (T_first _ _ s)))
        | Equal ↦ λ q. ((λ x. h), below_clear n e.0 es (inr q) (T_first _ _ s))
        | Greater ↦ λ q. ((λ x. let y : Greater ≡ Equal = sym q ∙ x in cc), put_clear n v es (T_second _ _ s) h)
      ] refl

  without_clear : (n : Name) (es : List (Name × V)) → AllIn (Clear n) (without n es)
  without_clear n [] = tt
  without_clear n (e ∷ es) = elim (eq_by_cmp name_cmp n e.0) as
      (λ b. eq_by_cmp name_cmp n e.0 ≡ b → AllIn (Clear n) (cond (not b) (e ∷ without n es) (without n es))) [
        | true ↦ λ q. without_clear n es
        | false ↦ λ q. ((λ x. absurd (true≢false (sym (ap is_eq x) ∙ q))), without_clear n es)
      ] refl

-- ---- after a timer is handled, no timer has its key

module _ (m t : ℕ) (state : MemberState) (sound : IsSound state) (n : Name) where
  abbrev AskKey : Key
  AskKey = timer_key m (record { time = t; rank = Request; name = n })

  abbrev AnswerKey : Key
  AnswerKey = timer_key m (record { time = t; rank = Repair; name = n })

  abbrev ClearOf : Key → MemberState → Type 0
  ClearOf k r = AllIn (λ d. Differs k (timer_key m d)) (timers_of r)

  clear_of : (k : Key) (r : MemberState) → AllIn (λ e. Differs k (timer_key m (record { time = e.1.expiry; rank = Request; name = e.0 })))
      r.missing
      → AllIn (λ e. Differs k (timer_key m (record { time = e.1.expiry; rank = Repair; name = e.0 }))) r.repairs → ClearOf k r
  clear_of k r h g = AllIn-append (λ d. Differs k (timer_key m d)) _ _ (AllIn-map (λ d. Differs k (timer_key m d)) _ r.missing h)
      (AllIn-map (λ d. Differs k (timer_key m d)) _ r.repairs g)

  asked_clear : (w : Missing) → In (n, w) state.missing → (o : Option Missing) → find name_cmp n state.missing ≡ o
      → ClearOf AskKey (expire_request_by_entry t n state o).state
  asked_clear w h None e = absurd (found (λ (x : Missing). true) n w state.missing h e)
  asked_clear w h (Some x) e =
      let asked = with_request_delay t n x (with_request_first x state) in
      let len = request_length asked (min (x.backoffs + 1) 10) n in
      let lt : t < t + len = (let one = request_length_pos asked (min (x.backoffs + 1) 10) n in omega arith) in
      let v : Missing = record { detected = x.detected; expiry = t + len; backoffs = min (x.backoffs + 1) 10; ignore = t + len / 2 } in
      clear_of AskKey (back_off t n x (with_request_first x state))
      (AllIn-weaker (Clear (λ (y : Missing). y.expiry ≢ t) n)
      (λ e. Differs AskKey (timer_key m (record { time = e.1.expiry; rank = Request; name = e.0 })))
      (λ e c. timer_differs m Request t n e.0 e.1.expiry c) (put name_cmp n v state.missing)
      (put_clear (λ (y : Missing). y.expiry ≢ t) n v state.missing sound.asks (λ q. omega arith)))
      (AllIn-each (λ e. Differs AskKey (timer_key m (record { time = e.1.expiry; rank = Repair; name = e.0 })))
      (λ e. differ_rank AskKey (timer_key m (record { time = e.1.expiry; rank = Repair; name = e.0 }))
      (λ q. cc)) state.repairs)

  answered_clear : (w : Repairing) → In (n, w) state.repairs → (o : Option Repairing) → find name_cmp n state.repairs ≡ o
      → ClearOf AnswerKey (expire_repair_by_entry t n state o).state
  answered_clear w h None e = absurd (found (λ (x : Repairing). true) n w state.repairs h e)
  answered_clear w h (Some x) e =
      let mark = mark_after 0 (local_of state.fixed x) in
      let rested = with_rest t n state.fixed.member mark (with_answer_seen t x state) in
      clear_of AnswerKey (with_own_timer_ended t n x mark state)
      (AllIn-each (λ e. Differs AnswerKey (timer_key m (record { time = e.1.expiry; rank = Request; name = e.0 })))
      (λ e. differ_rank AnswerKey (timer_key m (record { time = e.1.expiry; rank = Request; name = e.0 }))
      (λ q. cc)) rested.missing)
      (AllIn-weaker (Clear (λ (y : Repairing). y.expiry ≢ t) n)
      (λ e. Differs AnswerKey (timer_key m (record { time = e.1.expiry; rank = Repair; name = e.0 })))
      (λ e c. timer_differs m Repair t n e.0 e.1.expiry c) (without n rested.repairs)
      (without_clear (λ (y : Repairing). y.expiry ≢ t) n rested.repairs))

  pub asks_clear : (w : Missing) → In (n, w) state.missing → ClearOf AskKey (react state t (Ask n)).state
  unfolding expire_request
  asks_clear w h = let role = state.fixed.role in
      elim (is_listener role) as (λ b. is_listener role ≡ b → ClearOf AskKey (react state t (Ask n)).state) [
        | true ↦ λ l. absurd (no_table (n, w) state.missing (sound.listener l).0 h)
        | false ↦ λ l. subst (λ (r : Reaction). ClearOf AskKey r.state) (sym (as_active state t (Ask n) l))
            (asked_clear w h (find name_cmp n state.missing) refl)
      ] refl

  pub answers_clear : (w : Repairing) → In (n, w) state.repairs → ClearOf AnswerKey (react state t (Answer n)).state
  unfolding expire_repair
  answers_clear w h = elim (is_listener state.fixed.role) as (λ b. is_listener state.fixed.role ≡ b
      → ClearOf AnswerKey (react state t (Answer n)).state) [
        | true ↦ λ l. absurd (no_table (n, w) state.repairs (sound.listener l).1 h)
        | false ↦ λ l. subst (λ (r : Reaction). ClearOf AnswerKey r.state) (sym (as_active state t (Answer n) l))
            (answered_clear w h (find name_cmp n state.repairs) refl)
      ] refl

-- ---- cells in which no two pending events have one key

pub record IsDistinct (c : PlainCell) : Type 0 where
  pub flights : Ascends flight_cmp c.inbox
  pub marks : Ascends mark_cmp c.script
  pub ranks : HasOwnRanks c.script

-- an event and what its cell has besides it: another source's events, or the timers less this one
abbrev pub Besides : ℕ → PlainCell → Event → Type 0
Besides m c e =
    (Above (Differs e.key) m e.rest)
    ⊎ ((e.rest ≡ c) × (AllIn (λ f. Differs e.key (arrival_key m f)) c.inbox) × (AllIn (λ k. Differs e.key (mark_key m k)) c.script)
    × ((d : Due) × In d (timers_in c.holds) × (e.key ≡ timer_key m d) × (e.cause ≡ Some (cause_of_timer d.rank d.name))))

pub flights_differ : (m : ℕ) (f : Flight) (fs : List Flight) → AllAfter flight_cmp f fs
    → AllIn (λ g. Differs (arrival_key m f) (arrival_key m g)) fs
flights_differ m f [] h = tt
flights_differ m f (g ∷ gs) h = ((λ e. let x : Less ≡ Equal = sym h.0 ∙ sym (flight_keys m f g) ∙ e in cc), flights_differ m f gs h.1)

pub marks_differ : (m : ℕ) (k : Mark) (ks : List Mark) → AllAfter mark_cmp k ks → AllIn (λ l. Differs (mark_key m k) (mark_key m l)) ks
marks_differ m k [] h = tt
marks_differ m k (l ∷ ls) h = ((λ e. let x : Less ≡ Equal = sym h.0 ∙ sym (mark_keys m k l) ∙ e in cc), marks_differ m k ls h.1)

-- marks have other ranks than arrivals and timers
pub not_of_mark : (r q : Rank) → is_mark_rank r ≡ true → is_mark_rank q ≡ false → r ≢ q
not_of_mark r q own other e = true≢false (sym own ∙ ap is_mark_rank e ∙ other)

pub marks_apart : (m : ℕ) (k : Key) (ks : List Mark) → HasOwnRanks ks → is_mark_rank k.rank ≡ false
    → AllIn (λ l. Differs k (mark_key m l)) ks
marks_apart m k [] h other = tt
marks_apart m k (l ∷ ls) h other = (
  differ_rank k (mark_key m l) (λ e. not_of_mark l.rank k.rank h.0 other (sym e)),
  marks_apart m k ls h.1 other,
)

-- a cell's timers are request timers and repair timers
abbrev pub IsOfTimer : Due → Type 0
IsOfTimer d = (d.rank ≡ Request) ⊎ (d.rank ≡ Repair)

pub due_ranks : (holds : Option MemberState) → AllIn IsOfTimer (timers_in holds)
due_ranks (Some m) = AllIn-append IsOfTimer _ _
    (AllIn-map IsOfTimer _ m.missing (AllIn-each _ (λ e. inl refl) m.missing))
    (AllIn-map IsOfTimer _ m.repairs (AllIn-each _ (λ e. inr refl) m.repairs))
due_ranks None = tt

pub dues_apart : (m : ℕ) (k : Key) (ds : List Due) → k.rank ≢ Request → k.rank ≢ Repair → AllIn IsOfTimer ds
    → AllIn (λ d. Differs k (timer_key m d)) ds
dues_apart m k ds ask answer h = AllIn-weaker IsOfTimer (λ d. Differs k (timer_key m d))
    (λ d r. differ_rank k (timer_key m d) (λ e. elim r [ inl q ↦ ask (e ∙ q) | inr q ↦ answer (e ∙ q) ])) ds h

rank_in : (d : Due) (ds : List Due) → AllIn IsOfTimer ds → In d ds → IsOfTimer d
rank_in d [] h g = absurd g
rank_in d (x ∷ ds) h (inl e) = subst IsOfTimer e h.0
rank_in d (x ∷ ds) h (inr g) = rank_in d ds h.1 g

arrival_besides : (m : ℕ) (c : PlainCell) (fs : List Flight) → IsDistinct c → Ascends flight_cmp fs
    → OnEvent (Besides m c) (first_arrival m c fs)
arrival_besides m c [] t a = tt
arrival_besides m c (f ∷ fs) t a = inl (record {
  flights = flights_differ m f fs a.0;
  marks = marks_apart m (arrival_key m f) c.script t.ranks refl;
  dues = dues_apart m (arrival_key m f) (timers_in c.holds) (λ e. cc) (λ e. cc)
      (due_ranks c.holds);
})

mark_besides : (m : ℕ) (c : PlainCell) (ks : List Mark) → IsDistinct c → Ascends mark_cmp ks → HasOwnRanks ks
    → OnEvent (Besides m c) (first_mark m c ks)
mark_besides m c [] t a r = tt
mark_besides m c (k ∷ ks) t a r =
    let own = r.0 in
    inl (record {
      flights = AllIn-each (λ f. Differs (mark_key m k) (arrival_key m f))
          (λ f. differ_rank (mark_key m k) (arrival_key m f) (not_of_mark k.rank Arrival own refl)) c.inbox;
      marks = marks_differ m k ks a.0;
      dues = dues_apart m (mark_key m k) (timers_in c.holds)
          (not_of_mark k.rank Request own refl) (not_of_mark k.rank Repair own refl) (due_ranks c.holds);
    })

timer_besides : (m : ℕ) (c : PlainCell) (ds : List Due) → IsDistinct c → ((d : Due) → In d ds → In d (timers_in c.holds))
    → OnEvent (Besides m c) (first_timer m c ds)
timer_besides m c [] t h = tt
timer_besides m c (d ∷ ds) t h =
    let rank = rank_in d (timers_in c.holds) (due_ranks c.holds) (h d (inl refl)) in
    earlier_on (Besides m c) (Some _) (first_timer m c ds)
    (inr (
      refl,
      AllIn-each (λ f. Differs (timer_key m d) (arrival_key m f))
          (λ f. differ_rank (timer_key m d) (arrival_key m f)
          (λ e. elim rank [
            | inl z ↦ (let q : Request ≡ Arrival = sym z ∙ e in cc)
            | inr z ↦ (let q : Repair ≡ Arrival = sym z ∙ e in cc)
          ])) c.inbox,
      marks_apart m (timer_key m d) c.script t.ranks (elim rank [ inl z ↦ ap is_mark_rank z | inr z ↦ ap is_mark_rank z ]),
      (d, h d (inl refl), refl, refl),
    ))
    (timer_besides m c ds t (λ x g. h x (inr g)))

pub next_besides : (m : ℕ) (c : PlainCell) → IsDistinct c → OnEvent (Besides m c) (next_event m c)
next_besides m c t = subst (OnEvent (Besides m c)) (sym (next_event_is m c))
    (earlier_on (Besides m c) (first_arrival m c c.inbox) _ (arrival_besides m c c.inbox t t.flights)
    (earlier_on (Besides m c) (first_mark m c c.script) (first_timer m c (timers_in c.holds)) (mark_besides m c c.script t t.marks t.ranks)
    (timer_besides m c (timers_in c.holds) t (λ d h. h))))

-- ---- after a step its key is pending no more

abbrev ClearIn : ℕ → Key → Stepped → Type 0
ClearIn m k d = Above (Differs k) m d.cell

clear_by : (m : ℕ) (k : Key) (b : Bool) (x : Stepped) → ClearIn m k x → OnStep (ClearIn m k) (cond b (Done x) Full)
clear_by m k true x h = h
clear_by m k false x h = tt

clear_sending : (m : ℕ) (k : Key) (e : Event) (r : Reaction) (body : Option Body) → AllIn (λ f. Differs k (arrival_key m f)) e.rest.inbox
    → AllIn (λ l. Differs k (mark_key m l)) e.rest.script
    → AllIn (λ d. Differs k (timer_key m d)) (timers_of r.state) → OnStep (ClearIn m k) (sending_step e r body)
clear_sending m k e r None f l d = record { flights = f; marks = l; dues = d }
clear_sending m k e r (Some body) f l d = clear_by m k (nat_lt e.rest.sent most_sent) _ (record { flights = f; marks = l; dues = d })

clear_cause : (m : ℕ) (e : Event) (state : MemberState) → IsSound state → (d : Due) → In d (timers_of state) → e.key ≡ timer_key m d
    → AllIn (λ d. Differs e.key (timer_key m d)) (timers_of (react state e.key.time (cause_of_timer d.rank d.name)).state)
clear_cause m e state sound d h q =
    elim (in_append d (map (λ e. record { time = e.1.expiry; rank = Request; name = e.0 }) state.missing) _ h) [
      | inl g ↦
          let r = in_map (λ (e : Name × Missing). record { time = e.1.expiry; rank = Request; name = e.0 }) d state.missing g in
          let is : e.key ≡ timer_key m (record { time = r.0.1.expiry; rank = Request; name = r.0.0 }) = q ∙ ap (timer_key m) (sym r.2) in
          let now : e.key ≡ timer_key m (record { time = e.key.time; rank = Request; name = r.0.0 }) = is
          ∙ ap (λ t. timer_key m (record { time = t; rank = Request; name = r.0.0 })) (sym (ap (λ (k : Key). k.time) is)) in
          subst (λ (d : Due). AllIn (λ x. Differs e.key (timer_key m x))
          (timers_of (react state e.key.time (cause_of_timer d.rank d.name)).state)) r.2
          (subst (λ k. AllIn (λ x. Differs k (timer_key m x)) (timers_of (react state e.key.time (Ask r.0.0)).state)) (sym now)
          (asks_clear m e.key.time state sound r.0.0 r.0.1 r.1))
      | inr g ↦
          let r = in_map (λ (e : Name × Repairing). record { time = e.1.expiry; rank = Repair; name = e.0 }) d state.repairs g in
          let is : e.key ≡ timer_key m (record { time = r.0.1.expiry; rank = Repair; name = r.0.0 }) = q ∙ ap (timer_key m) (sym r.2) in
          let now : e.key ≡ timer_key m (record { time = e.key.time; rank = Repair; name = r.0.0 }) = is
          ∙ ap (λ t. timer_key m (record { time = t; rank = Repair; name = r.0.0 })) (sym (ap (λ (k : Key). k.time) is)) in
          subst (λ (d : Due). AllIn (λ x. Differs e.key (timer_key m x))
          (timers_of (react state e.key.time (cause_of_timer d.rank d.name)).state)) r.2
          (subst (λ k. AllIn (λ x. Differs k (timer_key m x)) (timers_of (react state e.key.time (Answer r.0.0)).state)) (sym now)
          (answers_clear m e.key.time state sound r.0.0 r.0.1 r.1))
    ]

clear_handle : (m : ℕ) (e : Event) (holds : Option MemberState) (cause : Option Cause)
    → AllIn (λ f. Differs e.key (arrival_key m f)) e.rest.inbox
    → AllIn (λ l. Differs e.key (mark_key m l)) e.rest.script
    → SoundHeld holds → (d : Due) → In d (timers_in holds) → e.key ≡ timer_key m d → cause ≡ Some (cause_of_timer d.rank d.name)
    → OnStep (ClearIn m e.key) (handle e holds cause)
unfolding handle
clear_handle m e None cause fs ks s d h q c = absurd h
clear_handle m e (Some state) None fs ks s d h q c = cc
clear_handle m e (Some state) (Some cause) fs ks s d h q c =
    let same : cause ≡ cause_of_timer d.rank d.name = cc in
    let r = react state e.key.time cause in
    clear_sending m e.key e r r.answer.body fs ks
    (subst (λ k. AllIn (λ x. Differs e.key (timer_key m x)) (timers_of (react state e.key.time k).state)) (sym same)
    (clear_cause m e state s d h q))

pub clear_step : (m : ℕ) (c : PlainCell) (e : Event) → SoundHeld c.holds → Besides m c e → OnStep (ClearIn m e.key) (step_at (Some e))
clear_step m c e sound (inl a) = step_above (Differs e.key) m e.key.time (later_differs e.key) e refl a
clear_step m c e sound (inr h) =
    let d = h.3 in
    clear_handle m e e.rest.holds e.cause
    (subst (λ (b : PlainCell). AllIn (λ f. Differs e.key (arrival_key m f)) b.inbox) (sym h.0) h.1)
    (subst (λ (b : PlainCell). AllIn (λ l. Differs e.key (mark_key m l)) b.script) (sym h.0) h.2)
    (subst (λ (b : PlainCell). SoundHeld b.holds) (sym h.0) sound) d.0
    (subst (λ (b : PlainCell). In d.0 (timers_in b.holds)) (sym h.0) d.1) d.2 d.3

-- ---- what a step does to the inbox, the script and the packet count

abbrev pub IsTail : {A : Type 0} → List A → List A → Type 0
IsTail {A} ys xs = (ys ≡ xs) ⊎ ((x : A) × (xs ≡ x ∷ ys))

pub all_tail : {A : Type 0} (Q : A → Type 0) (ys xs : List A) → IsTail ys xs → AllIn Q xs → AllIn Q ys
all_tail Q ys xs (inl e) h = subst (AllIn Q) (sym e) h
all_tail Q ys xs (inr e) h = (subst (AllIn Q) e.1 h).1

pub ranks_tail : (ys xs : List Mark) → IsTail ys xs → HasOwnRanks xs → HasOwnRanks ys
ranks_tail ys xs (inl e) h = subst HasOwnRanks (sym e) h
ranks_tail ys xs (inr e) h = (subst HasOwnRanks e.1 h).1

pub record RestOf (c : PlainCell) (e : Event) : Type 0 where
  pub sent : e.rest.sent ≡ c.sent
  pub inbox : IsTail e.rest.inbox c.inbox
  pub script : IsTail e.rest.script c.script

arrival_rest : (m : ℕ) (c : PlainCell) (fs : List Flight) → c.inbox ≡ fs → OnEvent (RestOf c) (first_arrival m c fs)
arrival_rest m c [] h = tt
arrival_rest m c (f ∷ fs) h = record { sent = refl; inbox = inr (f, h); script = inl refl }

mark_rest : (m : ℕ) (c : PlainCell) (ks : List Mark) → c.script ≡ ks → OnEvent (RestOf c) (first_mark m c ks)
mark_rest m c [] h = tt
mark_rest m c (k ∷ ks) h = record { sent = refl; inbox = inl refl; script = inr (k, h) }

timer_rest : (m : ℕ) (c : PlainCell) (ds : List Due) → OnEvent (RestOf c) (first_timer m c ds)
timer_rest m c [] = tt
timer_rest m c (d ∷ ds) = earlier_on (RestOf c) (Some _) (first_timer m c ds) (record { sent = refl; inbox = inl refl; script = inl refl })
    (timer_rest m c ds)

pub next_rest : (m : ℕ) (c : PlainCell) → OnEvent (RestOf c) (next_event m c)
next_rest m c = subst (OnEvent (RestOf c)) (sym (next_event_is m c))
    (earlier_on (RestOf c) (first_arrival m c c.inbox) _ (arrival_rest m c c.inbox refl)
    (earlier_on (RestOf c) (first_mark m c c.script) (first_timer m c (timers_in c.holds)) (mark_rest m c c.script refl)
    (timer_rest m c (timers_in c.holds))))

-- the count after a step, by what it sent
abbrev pub CountAfter : ℕ → Option Packet → ℕ → Type 0
CountAfter before None after = after ≡ before
CountAfter before (Some p) after = (p.id.count ≡ before) × (after ≡ suc before)

pub record StepOf (e : Event) (d : Stepped) : Type 0 where
  pub inbox : d.cell.inbox ≡ e.rest.inbox
  pub script : d.cell.script ≡ e.rest.script
  pub count : CountAfter e.rest.sent d.row.sent d.cell.sent

step_of_handle : (e : Event) (holds : Option MemberState) (cause : Option Cause) → OnStep (StepOf e) (handle e holds cause)
unfolding handle
step_of_handle e holds cause = grind arith

pub step_is_of : (e : Event) → OnStep (StepOf e) (step_at (Some e))
step_is_of e = step_of_handle e e.rest.holds e.cause
