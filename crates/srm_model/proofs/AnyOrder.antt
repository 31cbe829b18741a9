-- The packets of a window's rows, heard in any order.
use Rattle.std.proofs.lemmas.Grind.{common_steps}
use Rattle.std.proofs.Common.{◌≡◌, ◌≢◌, ℕ, suc, ◌<◌, ◌≤◌, ◌+◌, true, false, List, [], ◌∷◌, ◌++◌, refl, sym, ap, ◌∙◌, subst, arith}
use Rattle.std.proofs.Common.{Option, Some, None, Bool, inl, inr, append_assoc, zero-add, Equal}
use Rattle.srm_net.specs.Orders.{ordered}
use Rattle.std.specs.List.{Contains, count_by, cons_option}
use Rattle.std.specs.List.Sorted.{IsPermutation}
use Rattle.std.proofs.lemmas.List.Elements.{Contains-append_left, Contains-append_right, Contains-append_cases, Contains-push_cases}
use Rattle.std.proofs.lemmas.List.Elements.{filter_map-append}
use Rattle.std.proofs.lemmas.List.Sorted.{sum_by-IsPermutation, Contains-permutation, IsPermutation-refl, IsPermutation-sym}
use Rattle.std.proofs.lemmas.List.Sums.{sum_by-append}
use Rattle.srm_net.specs.declared.packet.PacketId.{PacketId}
use Rattle.srm_net.specs.declared.packet.Packet.{Packet}
use Rattle.srm_net.proofs.Basics.{one_if, nth_number}
use Rattle.srm_member.specs.declared.row.Row.{Row}
use Rattle.srm_member.proofs.OrderLemmas.{place-comm}
use Rattle.srm_cell.specs.declared.flight.Flight.{Flight}
use Rattle.srm_cell.specs.Flights.{flight_cmp, flight_total}
use Rattle.srm_cell.specs.Setting.{Traffic, Setting, IsFit}
use Rattle.srm_cell.specs.Cells.{PlainCell, hear, hear_at}
use Rattle.srm_cell.specs.OwnRuns.{hear_rows, told_to}
use Rattle.srm_cell.specs.Crossings.{joined, packets_of}
use Rattle.srm_model.specs.World.{World, row_cmp, IsReached}
use Rattle.srm_model.specs.Handed.{SentIn, same_packet}
use Rattle.srm_model.specs.Schedules.{IsSafe}
use Rattle.srm_model.specs.WindowRuns.{OwnResult, AreOwnRuns, rows_in, cells_in, each_hears, AreNewInTurn, IsMerge, after_window}
use Rattle.srm_model.specs.WindowLaws.{PacketsAreHeardInAnyOrder}
use Rattle.srm_model.proofs.HandedOnce.{packets_are_their_identities}
use Rattle.srm_model.proofs.TraceRows.{count_first, count_none, contains_none, sent_more, is_same, not_same, same_self, contained_split}
use Rattle.srm_model.proofs.OneWindow.{windows_agree, some_merge}
use Rattle.srm_model.proofs.WindowPackets.{window_packets_are_new, later_is_new, new_after}

-- ---- two packets, in either order

apart_flights : (f g : Flight) → f.packet.id ≢ g.packet.id → flight_cmp f g ≢ Equal
unfolding nth_number
apart_flights f g ne e = grind arith

either_flight : (p q : Packet) (a b : Option ℕ) (c : PlainCell) → p.id ≢ q.id → hear_at p a (hear_at q b c) ≡ hear_at q b (hear_at p a c)
either_flight p q None b c ne = refl
either_flight p q (Some a) None c ne = refl
either_flight p q (Some a) (Some b) c ne =
    let f : Flight = record { arrival = a; packet = p } in
    let g : Flight = record { arrival = b; packet = q } in
    ap (λ (i : List Flight). record c { inbox = i }) (place-comm flight_cmp flight_total f g (apart_flights f g ne) c.inbox)

-- whether this is the packet with an identity
abbrev is_packet : PacketId → Option Packet → Bool
is_packet k None = false
is_packet k (Some p) = same_packet k p.id

-- how many rows send it
abbrev sendings : PacketId → List Row → ℕ
sendings k rows = count_by (λ (r : Row). is_packet k r.sent) rows

sent_first : (p : Packet) (r : Row) (rows : List Row) → r.sent ≡ Some p → SentIn p (r ∷ rows)
sent_first p r rows e = (r, Contains-append_left (r ∷ []) rows r (0, omega arith, refl), e)

sent_later : (p : Packet) (r : Row) (rows : List Row) → SentIn p rows → SentIn p (r ∷ rows)
sent_later p r rows h = (h.0, Contains-append_right (r ∷ []) rows h.0 h.1, h.2)

sendings_first : (k : PacketId) (r : Row) (rows : List Row) → sendings k (r ∷ rows) ≡ one_if (is_packet k r.sent) + sendings k rows
sendings_first k r rows = count_first (λ (q : Row). is_packet k q.sent) r rows

sendings_around : (k : PacketId) (before : List Row) (r : Row) (after : List Row) → sendings k (before ++ r ∷ after)
    ≡ one_if (is_packet k r.sent) + sendings k (before ++ after)
sendings_around k before r after = grind (arith, common_steps)

-- what is among the rows beside one is among all
around : (before : List Row) (r : Row) (after : List Row) (q : Row) → Contains (before ++ after) q → Contains (before ++ r ∷ after) q
around before r after q h = elim (Contains-append_cases before after q h) [
  | inl g ↦ Contains-append_left before (r ∷ after) q g
  | inr g ↦ Contains-append_right before (r ∷ after) q (Contains-append_right (r ∷ []) after q g)
]

-- a packet that some row sends is sent by a row
some_sends : (k : PacketId) (rows : List Row) → 0 < sendings k rows → (r : Row) × Contains rows r × (is_packet k r.sent ≡ true)
some_sends k [] lt = let none : sendings k [] ≡ 0 = refl in absurd (omega arith)
some_sends k (r ∷ rows) lt = elim (is_packet k r.sent) as
    (λ b. is_packet k r.sent ≡ b → (q : Row) × Contains (r ∷ rows) q × (is_packet k q.sent ≡ true)) [
      | true ↦ λ e. (r, Contains-append_left (r ∷ []) rows r (0, omega arith, refl), e)
      | false ↦ λ e.
          let count = sendings_first k r rows in
          let zero_here : one_if (is_packet k r.sent) ≡ 0 = ap one_if e in
          let more = some_sends k rows (omega arith) in
          (more.0, Contains-append_right (r ∷ []) rows more.0 more.1, more.2)
    ] refl

packet_of : (k : PacketId) (o : Option Packet) → is_packet k o ≡ true → (p : Packet) × (o ≡ Some p) × (k ≡ p.id)
packet_of k None e = cc
packet_of k (Some p) e = (p, refl, is_same k p.id e)

is_its_own : (p : Packet) (o : Option Packet) → o ≡ Some p → is_packet p.id o ≡ true
is_its_own p o e = ap (is_packet p.id) e ∙ same_self p.id

-- ---- many packets, in any order, where each identity is that of one packet

module _ (t : Traffic) (Known : Packet → Type 0) (one : (p q : Packet) → Known p → Known q → p.id ≡ q.id → p ≡ q) where
  abbrev AllKnown : List Row → Type 0
  AllKnown rows = (p : Packet) → SentIn p rows → Known p

  module _ (m : ℕ) where
    either : (x y : Option Packet) → ((p : Packet) → x ≡ Some p → Known p) → ((p : Packet) → y ≡ Some p → Known p) → (c : PlainCell)
        → told_to t x m (told_to t y m c) ≡ told_to t y m (told_to t x m c)
    unfolding hear
    either x y h g c = grind (arith, either_flight)

    -- the packet of one row may be heard before those of the rows before it
    forward : (before : List Row) (r : Row) (after : List Row) (c : PlainCell) → AllKnown before
        → ((p : Packet) → r.sent ≡ Some p → Known p)
        → hear_rows t m (before ++ r ∷ after) c ≡ hear_rows t m (before ++ after) (told_to t r.sent m c)
    forward [] r after c h g = refl
    forward (b ∷ bs) r after c h g =
        forward bs r after (told_to t b.sent m c) (λ p s. h p (sent_later p b bs s)) g
        ∙ ap (hear_rows t m (bs ++ after)) (either r.sent b.sent g (λ p e. h p (sent_first p b bs e)) c)

    nothing_heard : (rows : List Row) (c : PlainCell) → ((k : PacketId) → sendings k rows ≡ 0) → hear_rows t m rows c ≡ c
    nothing_heard [] c h = refl
    nothing_heard (r ∷ rows) c h =
        let none : told_to t r.sent m c ≡ c = elim r.sent as (λ o. r.sent ≡ o → told_to t o m c ≡ c) [
          | None ↦ λ e. refl
          | Some p ↦ λ e.
              let count = sendings_first p.id r rows in
              let zero_all = h p.id in
              let here : one_if (is_packet p.id r.sent) ≡ 1 = ap one_if (is_its_own p r.sent e) in
              absurd (omega arith)
        ] refl in
        nothing_heard rows (told_to t r.sent m c) (λ k. let count = sendings_first k r rows in let zero_all = h k in omega arith) ∙ none

    pub in_any_order : (xs ys : List Row) → ((k : PacketId) → sendings k xs ≡ sendings k ys) → AllKnown xs → AllKnown ys → (c : PlainCell)
        → hear_rows t m xs c ≡ hear_rows t m ys c
    in_any_order [] ys same known others c = sym (nothing_heard ys c (λ k. sym (same k)))
    in_any_order (x ∷ xs) ys same known others c = elim x.sent as (λ o. x.sent ≡ o → hear_rows t m (x ∷ xs) c ≡ hear_rows t m ys c) [
      | None ↦ λ e.
          let fewer : (k : PacketId) → sendings k xs ≡ sendings k ys = λ k.
          let count = sendings_first k x xs in
          let none : one_if (is_packet k x.sent) ≡ 0 = ap (λ o. one_if (is_packet k o)) e in
          let all = same k in omega arith in
          ap (λ o. hear_rows t m xs (told_to t o m c)) e
          ∙ in_any_order xs ys fewer (λ p s. known p (sent_later p x xs s)) others c
      | Some p ↦ λ e.
          let count = sendings_first p.id x xs in
          let here : one_if (is_packet p.id x.sent) ≡ 1 = ap one_if (is_its_own p x.sent e) in
          let all = same p.id in
          let at = some_sends p.id ys (omega arith) in
          let q = packet_of p.id at.0.sent at.2 in
          let is : p ≡ q.0 = one p q.0 (known p (sent_first p x xs e)) (others q.0 (at.0, at.1, q.1)) q.2 in
          let packets : x.sent ≡ at.0.sent = e ∙ ap Some is ∙ sym q.1 in
          let cut = contained_split ys at.0 at.1 in
          let rest = cut.0 ++ cut.1 in
          let in_ys : (z : Packet) → SentIn z rest → SentIn z ys = λ z s.
          (s.0, subst (λ l. Contains l s.0) (sym cut.2) (around cut.0 at.0 cut.1 s.0 s.1), s.2) in
          let fewer : (k : PacketId) → sendings k xs ≡ sendings k rest = λ k.
          let a = sendings_first k x xs in
          let b = sendings_around k cut.0 at.0 cut.1 in
          let w : sendings k ys ≡ sendings k (cut.0 ++ at.0 ∷ cut.1) = ap (sendings k) cut.2 in
          let d : one_if (is_packet k x.sent) ≡ one_if (is_packet k at.0.sent) = ap (λ o. one_if (is_packet k o)) packets in
          let f = same k in omega arith in
          in_any_order xs rest fewer (λ z s. known z (sent_later z x xs s)) (λ z s. others z (in_ys z s)) (told_to t x.sent m c)
          ∙ ap (λ o. hear_rows t m rest (told_to t o m c)) packets
          ∙ sym (forward cut.0 at.0 cut.1 c (λ z s. others z (in_ys z (sent_more z cut.0 cut.1 s))) (λ z s. others z (at.0, at.1, s)))
          ∙ ap (λ l. hear_rows t m l c) (sym cut.2)
    ] refl

  pub each_in_any_order : (xs ys : List Row) → ((k : PacketId) → sendings k xs ≡ sendings k ys) → AllKnown xs → AllKnown ys
      → (i : ℕ) (cs : List PlainCell) → each_hears t i xs cs ≡ each_hears t i ys cs
  each_in_any_order xs ys same known others i [] = refl
  each_in_any_order xs ys same known others i (c ∷ cs) =
      let first = in_any_order i xs ys same known others c in
      let more = each_in_any_order xs ys same known others (suc i) cs in
      λ j. first j ∷ more j

-- ---- a window's packets

sendings_keep : (k : PacketId) (xs ys : List Row) → IsPermutation xs ys → sendings k ys ≡ sendings k xs
sendings_keep k xs ys h = sum_by-IsPermutation (λ (r : Row). one_if (is_packet k r.sent)) xs ys h

none_sends : (k : PacketId) (rows : List Row) → ((p : Packet) → SentIn p rows → p.id ≢ k) → sendings k rows ≡ 0
none_sends k rows h = count_none (λ (r : Row). is_packet k r.sent) rows (λ r at. by r at r.sent refl)
  where
    by : (r : Row) → Contains rows r → (o : Option Packet) → r.sent ≡ o → is_packet k r.sent ≡ false
    by r at None e = ap (is_packet k) e
    by r at (Some p) e = ap (is_packet k) e ∙ not_same k p.id (λ s. h p (r, at, e) (sym s))

-- ---- rows that send the same packets

in_packets : (p : Packet) (rows : List Row) → SentIn p rows → Contains (packets_of rows) p
in_packets p rows h =
    let cut = contained_split rows h.0 h.1 in
    let here : packets_of (h.0 ∷ cut.1) ≡ p ∷ packets_of cut.1 = ap (λ o. cons_option o (packets_of cut.1)) h.2 in
    let whole : packets_of rows ≡ packets_of cut.0 ++ p ∷ packets_of cut.1 = ap packets_of cut.2
    ∙ filter_map-append (λ (r : Row). r.sent) cut.0 (h.0 ∷ cut.1) ∙ ap (λ l. packets_of cut.0 ++ l) here in
    subst (λ l. Contains l p) (sym whole) (Contains-append_right (packets_of cut.0) (p ∷ packets_of cut.1) p
    (Contains-append_left (p ∷ []) (packets_of cut.1) p (0, omega arith, refl)))

from_packets : (p : Packet) (rows : List Row) → Contains (packets_of rows) p → SentIn p rows
from_packets p [] h = absurd (contains_none p h)
from_packets p (r ∷ rows) h = by r.sent refl (λ g. from_packets p rows g) h
  where
    by : (o : Option Packet) → r.sent ≡ o → (Contains (packets_of rows) p → SentIn p rows) → Contains (cons_option o (packets_of rows)) p
        → SentIn p (r ∷ rows)
    by None e more h = sent_later p r rows (more h)
    by (Some q) e more h = elim (Contains-append_cases (q ∷ []) (packets_of rows) p h) [
      | inl g ↦ elim (Contains-push_cases [] q p g) [
        | inl none ↦ absurd (contains_none p none)
        | inr is ↦ sent_first p r rows (e ∙ ap Some is)
      ]
      | inr g ↦ sent_later p r rows (more g)
    ]

sendings_of_packets : (k : PacketId) (rows : List Row)
    → sendings k rows ≡ count_by (λ (p : Packet). same_packet k p.id) (packets_of rows)
sendings_of_packets k [] = refl
sendings_of_packets k (r ∷ rows) = sendings_first k r rows ∙ by r.sent (sendings_of_packets k rows)
  where
    by : (o : Option Packet) → sendings k rows ≡ count_by (λ (p : Packet). same_packet k p.id) (packets_of rows)
        → one_if (is_packet k o) + sendings k rows ≡ count_by (λ (p : Packet). same_packet k p.id) (cons_option o (packets_of rows))
    by None more = zero-add (sendings k rows) ∙ more
    by (Some p) more = ap (λ n. one_if (same_packet k p.id) + n) more
        ∙ sym (count_first (λ (q : Packet). same_packet k q.id) p (packets_of rows))

-- what the second rows send the first do, and each identity as often
record SendAlike (xs ys : List Row) : Type 0 where
  sent : (p : Packet) → SentIn p ys → SentIn p xs
  as_often : (k : PacketId) → sendings k ys ≡ sendings k xs

alike_by_rows : (xs ys : List Row) → IsPermutation xs ys → SendAlike xs ys
alike_by_rows xs ys h = record {
  sent = λ p s. (s.0, Contains-permutation ys xs s.0 (IsPermutation-sym xs ys h) s.1, s.2);
  as_often = λ k. sendings_keep k xs ys h;
}

alike_by_packets : (xs ys : List Row) → IsPermutation (packets_of xs) (packets_of ys) → SendAlike xs ys
alike_by_packets xs ys h = record {
  sent = λ p s. from_packets p xs
      (Contains-permutation (packets_of ys) (packets_of xs) p (IsPermutation-sym (packets_of xs) (packets_of ys) h) (in_packets p ys s));
  as_often = λ k. sendings_of_packets k ys
      ∙ sum_by-IsPermutation (λ (p : Packet). one_if (same_packet k p.id)) (packets_of xs) (packets_of ys) h
      ∙ sym (sendings_of_packets k xs);
}

module _ (s : Setting) (w : World) (till : ℕ) (fit : IsFit s) (reached : IsReached s w) (within : till ≤ s.traffic.until)
    (safe : IsSafe s till w) (results : List OwnResult) (alone : AreOwnRuns till 0 w.cells results) where
  abbrev lists : List Row
  lists = joined (rows_in results)

  abbrev all : List Row
  all = ordered row_cmp lists

  merge : IsMerge (rows_in results) all
  merge = some_merge (rows_in results)

  abbrev v : World
  v = after_window s w results all

  there : IsReached s v
  there = (windows_agree s w v till fit reached within safe
      (record { results = results; rows = all; alone = alone; merged = merge; is = refl })).1

  module _ (rows : List Row) (alike : SendAlike lists rows) where
    in_all : (p : Packet) → SentIn p rows → SentIn p all
    in_all p h = let row = alike.sent p h in (row.0, Contains-permutation lists all row.0 merge.all row.1, row.2)

    known : (p : Packet) → SentIn p rows → SentIn p v.trace
    known p h = let row = in_all p h in (row.0, Contains-append_right w.trace all row.0 row.1, row.2)

    new_in_turn : AreNewInTurn s.traffic rows (cells_in results)
    new_in_turn before after r p split sent =
        let at : Contains rows r = subst (λ l. Contains l r) (sym split) (Contains-append_right before (r ∷ after) r
        (Contains-append_left (r ∷ []) after r (0, omega arith, refl))) in
        let row = in_all p (r, at, sent) in
        let x = row.0 in
        let cut = contained_split all x row.1 in
        let told = window_packets_are_new s w till fit reached within safe results all alone merge cut.0 cut.1 x p cut.2 row.2 in
        let whole : v.trace ≡ (w.trace ++ cut.0) ++ x ∷ cut.1 = ap (λ l. w.trace ++ l) cut.2
        ∙ sym (append_assoc w.trace cut.0 (x ∷ cut.1)) in
        let earlier = later_is_new s v there (w.trace ++ cut.0) cut.1 x p whole row.2 in
        let later : (q : Packet) → SentIn q cut.1 → q.id ≢ p.id = λ q h.
        let on = contained_split cut.1 h.0 h.1 in
        let further : v.trace ≡ ((w.trace ++ cut.0) ++ x ∷ on.0) ++ h.0 ∷ on.1 = whole
        ∙ ap (λ l. (w.trace ++ cut.0) ++ x ∷ l) on.2 ∙ sym (append_assoc (w.trace ++ cut.0) (x ∷ on.0) (h.0 ∷ on.1)) in
        let other = later_is_new s v there ((w.trace ++ cut.0) ++ x ∷ on.0) on.1 h.0 q further h.2 p
        (x, Contains-append_right (w.trace ++ cut.0) (x ∷ on.0) x (Contains-append_left (x ∷ []) on.0 x (0, omega arith, refl)), row.2) in
        λ e. other (sym e) in
        let a = none_sends p.id cut.0 (λ q h. earlier q (h.0, Contains-append_right w.trace cut.0 h.0 h.1, h.2)) in
        let b = none_sends p.id cut.1 later in
        let c : sendings p.id all ≡ one_if (is_packet p.id r.sent) + sendings p.id (cut.0 ++ cut.1) =
        ap (sendings p.id) cut.2 ∙ sendings_around p.id cut.0 x cut.1
        ∙ ap (λ o. one_if (is_packet p.id o) + sendings p.id (cut.0 ++ cut.1)) (row.2 ∙ sym sent) in
        let d : sendings p.id (cut.0 ++ cut.1) ≡ sendings p.id cut.0 + sendings p.id cut.1 =
        sum_by-append (λ (q : Row). one_if (is_packet p.id q.sent)) cut.0 cut.1 in
        let f : sendings p.id rows ≡ sendings p.id all = alike.as_often p.id ∙ sym (sendings_keep p.id lists all merge.all) in
        let g : sendings p.id rows ≡ one_if (is_packet p.id r.sent) + sendings p.id (before ++ after) =
        ap (sendings p.id) split ∙ sendings_around p.id before r after in
        let i : sendings p.id (before ++ after) ≡ sendings p.id before + sendings p.id after =
        sum_by-append (λ (q : Row). one_if (is_packet p.id q.sent)) before after in
        let unsent : sendings p.id before ≡ 0 = omega arith in
        let other : (q : Packet) → SentIn q (w.trace ++ before) → q.id ≢ p.id = λ q h.
        elim (Contains-append_cases w.trace before h.0 h.1) [
          | inl old ↦ earlier q (h.0, Contains-append_left w.trace cut.0 h.0 old, h.2)
          | inr now ↦ λ e.
              let on = contained_split before h.0 now in
              let j : sendings p.id before ≡ one_if (is_packet p.id h.0.sent) + sendings p.id (on.0 ++ on.1) =
              ap (sendings p.id) on.2 ∙ sendings_around p.id on.0 h.0 on.1 in
              let k : one_if (is_packet p.id h.0.sent) ≡ 1 =
              ap (λ n. one_if (is_packet n h.0.sent)) (sym e) ∙ ap one_if (is_its_own q h.0.sent h.2) in
              absurd (omega arith)
        ] in
        (new_after s w till results before p reached alone other, told.1, told.2)

  -- rows that send the packets of the window are heard alike, in whatever order they do
  module _ (xs ys : List Row) (first : SendAlike lists xs) (second : SendAlike lists ys) where
    heard_alike : AreNewInTurn s.traffic xs (cells_in results)
        × (each_hears s.traffic 0 xs (cells_in results) ≡ each_hears s.traffic 0 ys (cells_in results))
    heard_alike = (
      new_in_turn xs first,
      each_in_any_order s.traffic (λ p. SentIn p v.trace) (packets_are_their_identities s v there) xs ys
          (λ k. first.as_often k ∙ sym (second.as_often k)) (known xs first) (known ys second) 0 (cells_in results),
    )

  -- the packets alone tell what is heard
  pub heard_by_packets : (rows : List Row) → IsPermutation (packets_of lists) (packets_of rows)
      → AreNewInTurn s.traffic rows (cells_in results)
      × (each_hears s.traffic 0 rows (cells_in results) ≡ each_hears s.traffic 0 lists (cells_in results))
  heard_by_packets rows h =
      heard_alike rows lists (alike_by_packets lists rows h) (alike_by_rows lists lists (IsPermutation-refl lists))

pub packets_are_heard_in_any_order : PacketsAreHeardInAnyOrder
packets_are_heard_in_any_order s w till fit reached within safe results rows alone perm =
    let alike = alike_by_rows (joined (rows_in results)) in (
      new_in_turn s w till fit reached within safe results alone rows (alike rows perm),
      λ others h. (heard_alike s w till fit reached within safe results alone rows others (alike rows perm) (alike others h)).1,
    )
