-- In the sequential run each flight of a packet that was sent is on the way or was handed, and nothing else is.
use Rattle.std.proofs.Common.{◌≡◌, ℕ, zero, suc, ◌<◌, ◌≤◌, ◌+◌, Bool, true, false, cond, ◌&&◌, List, [], ◌∷◌, ◌++◌, length, refl, sym, ap}
use Rattle.std.proofs.Common.{◌∙◌, subst, ◌≢◌, inl, inr, arith, Option, Some, None, is_some}
use Rattle.std.proofs.Common.{option_map, nat_lt, slice_get, eqb-true, ◌==◌}
use Rattle.std.proofs.lemmas.Bool.{eqb-false}
use Rattle.std.specs.List.{Contains, count_by}
use Rattle.std.proofs.lemmas.Option.{same_Some}
use Rattle.srm_net.specs.declared.key.Key.{Key}
use Rattle.srm_net.specs.declared.packet.PacketId.{PacketId}
use Rattle.srm_net.specs.declared.packet.Body.{Body}
use Rattle.srm_net.specs.declared.packet.Packet.{Packet}
use Rattle.srm_net.proofs.Basics.{one_if, count_last}
use Rattle.srm_member.specs.declared.cause.Cause.{Cause}
use Rattle.srm_member.specs.declared.row.About.TheVariants.{Of}
use Rattle.srm_member.specs.declared.row.Row.{Row}
use Rattle.srm_member.specs.React.{react}
use Rattle.srm_member.proofs.AllIn.{AllIn, AllIn-place, AllIn-weaker}
use Rattle.srm_cell.specs.declared.flight.Flight.{Flight}
use Rattle.srm_cell.specs.Flights.{flight_cmp}
use Rattle.srm_cell.specs.Setting.{Setting, arrival_of}
use Rattle.srm_cell.specs.Cells.{PlainCell, hear_at, hear, Event, earlier, first_arrival, first_mark, next_timer, next_event}
use Rattle.srm_cell.specs.Cells.{before, Idle, Stepped, word_of_body, word_of, about_of}
use Rattle.srm_cell.specs.OwnRuns.{told_to}
use Rattle.srm_model.specs.World.{World, cells_after, least_event, step, opening, opening_cells, IsReached, IsLast}
use Rattle.srm_model.specs.Handed.{SentIn, same_packet, is_arrival_of, handing_count, is_sending, sending_count, PacketsAreNumbered}
use Rattle.srm_model.specs.Handed.{PacketsAreHandedOnce, HandedPacketsWereSent, PacketsAreTheirIdentities}
use Rattle.srm_model.proofs.OneStep.{TakesFlight, NoArrival, Takes, Sends, Steps, StepFacts, step_facts, here_after}
use Rattle.srm_model.proofs.OneStep.{there_after, each_after, length_after, length_opening, nothing_left, run_keeps, arrival_is}
use Rattle.srm_model.proofs.TraceRows.{contains_none, contains_cases, sent_more, sent_cases, sent_now, count_first}
use Rattle.srm_model.proofs.TraceRows.{count_none, count_place, not_same, not_arrival, here, IsSplit, no_split, split_cases}
use Rattle.srm_model.proofs.Settled.{EachCell}
use Rattle.srm_cell.specs.Cells.{due_in}

about_other : (cause : Option Cause) (body : Option Body) → NoArrival cause → (k : Packet) → about_of cause body ≢ Of k
about_other cause body none k h = grind arith

pub same_of : (p q : Packet) → Of p ≡ Of q → p ≡ q
same_of p q h = cc

-- ---- flights

abbrev pub is_flight : PacketId → Flight → Bool
is_flight k f = same_packet k f.packet.id

abbrev pub inbox_of : Option PlainCell → List Flight
inbox_of None = []
inbox_of (Some c) = c.inbox

abbrev pub sent_by : Option PlainCell → ℕ
sent_by None = 0
sent_by (Some c) = c.sent

abbrev pub sent_of : List PlainCell → ℕ → ℕ
sent_of cs x = sent_by (slice_get cs x)

pub all_contained : {A : Type 0} (Q : A → Type 0) (xs : List A) → AllIn Q xs → (x : A) → Contains xs x → Q x
all_contained Q [] h x c = absurd (contains_none x c)
all_contained Q (y ∷ ys) h x (zero, l, e) = subst Q e h.0
all_contained Q (y ∷ ys) h x (suc k, l, e) = all_contained Q ys h.1 x (k, omega arith, e)

module _ (s : Setting) where
  -- of a flight to member j: its packet was sent, and it arrives when that packet does
  abbrev pub IsFlight : List Row → ℕ → Flight → Type 0
  IsFlight trace j f = SentIn f.packet trace × (arrival_of s.traffic f.packet j ≡ Some f.arrival)

  -- what is known of a row that hands packet p, and of the rows before it
  abbrev pub WasSent : List Row → Row → Packet → Type 0
  WasSent before r p = SentIn p before × (r.cause ≡ word_of_body p.body) × (arrival_of s.traffic p r.key.member ≡ Some r.key.time)

  -- a packet's number, and when it is sent
  abbrev pub IsNumbered : List Row → Row → Packet → Type 0
  IsNumbered before r p = (p.id.sender ≡ r.key.member) × (p.id.count ≡ sending_count r.key.member before) × (p.sent ≡ r.key.time)

  pub record Handed (cs : List PlainCell) (trace : List Row) : Type 0 where
    pub members : length cs ≡ s.traffic.members
    pub counted : (p : Packet) → SentIn p trace → p.id.count < sent_of cs p.id.sender
    pub handed : (r : Row) → Contains trace r → (p : Packet) → r.about ≡ Of p → p.id.count < sent_of cs p.id.sender
    pub one : (p q : Packet) → SentIn p trace → SentIn q trace → p.id ≡ q.id → p ≡ q
    pub flights : EachCell (λ j c. AllIn (IsFlight trace j) c.inbox) cs
    pub once : (p : Packet) → SentIn p trace → (j : ℕ) → count_by (is_flight p.id) (inbox_of (slice_get cs j)) + handing_count p.id j trace
        ≡ one_if (is_some (arrival_of s.traffic p j))
    pub sendings : (j : ℕ) → sent_of cs j ≡ sending_count j trace
    pub numbers : (rows after : List Row) (r : Row) (p : Packet) → IsSplit trace rows r after → r.sent ≡ Some p → IsNumbered rows r p
    pub before : (rows after : List Row) (r : Row) (p : Packet) → IsSplit trace rows r after → r.about ≡ Of p → WasSent rows r p

  -- ---- after a step

  module _ (cs : List PlainCell) (trace : List Row) (e : Event) (d : Stepped) (was : Handed cs trace) (steps : Steps s.traffic.until cs e d)
    where
      abbrev m : ℕ
      m = e.key.member

      abbrev after : List PlainCell
      after = cells_after s m d 0 cs

      abbrev rows : List Row
      rows = trace ++ d.row ∷ []

      pub facts : StepFacts cs e d
      facts = step_facts s.traffic.until cs e d steps

      pub member : d.row.key.member ≡ m
      member = ap (λ (k : Key). k.member) facts.does.key

      -- ---- packet counts

      told_sent : (y : Option Packet) (j : ℕ) (o : Option PlainCell) → sent_by (option_map (told_to s.traffic y j) o) ≡ sent_by o
      unfolding hear
      told_sent y j o = grind arith

      sent_was : sent_of cs m ≡ e.rest.sent
      sent_was = ap sent_by facts.here ∙ sym facts.pending.sent

      sent_is : sent_of after m ≡ d.cell.sent
      sent_is = ap sent_by (here_after s m d cs facts.cell facts.here)

      -- the packet of this step
      pub record IsNew (p : Packet) : Type 0 where
        pub sender : p.id.sender ≡ m
        pub count : p.id.count ≡ sent_of cs p.id.sender
        pub now : p.id.count < sent_of after p.id.sender
        pub at : p.sent ≡ d.row.key.time

      -- by its body, if any
      Counts : Option Body → Type 0
      Counts body = (d.cell.sent ≡ e.rest.sent + one_if (is_some d.row.sent)) × ((p : Packet) → d.row.sent ≡ Some p → IsNew p)

      counts_by : (body : Option Body) → Sends e body d → Counts body
      unfolding Counts
      counts_by body h = grind (arith, sent_is, facts)

      counts : (body : Option Body) × Counts body
      counts = elim facts.does.how [ inl a ↦ (_, counts_by _ a.sends) | inr l ↦ (_, counts_by None l.sends) ]

      sent_then : d.cell.sent ≡ e.rest.sent + one_if (is_some d.row.sent)
      unfolding Counts
      sent_then = counts.1.0

      grows_here : e.rest.sent ≤ d.cell.sent
      grows_here = let n = sent_then in omega arith

      pub is_new : (p : Packet) → d.row.sent ≡ Some p → IsNew p
      unfolding Counts
      is_new p q = counts.1.1 p q

      sent_grows : (j : ℕ) → sent_of cs j ≤ sent_of after j
      sent_grows j = elim (j == m) as (λ b. (j == m) ≡ b → sent_of cs j ≤ sent_of after j) [
        | true ↦ λ q.
            let same : j ≡ m = eqb-true _ _ q in
            let a = ap (sent_of cs) same ∙ sent_was in
            let b = ap (sent_of after) same ∙ sent_is in
            let up = grows_here in
            omega arith
        | false ↦ λ q. let a = ap sent_by (there_after s m d cs j (eqb-false _ _ q)) ∙ told_sent d.row.sent j (slice_get cs j) in
            omega arith
      ] refl

      -- the counts of the cells are those of the rows
      sends_here : is_sending m d.row ≡ is_some d.row.sent
      sends_here = let yes : (d.row.key.member == m) ≡ true = Rattle.std.proofs.Common.eq-eqb _ _ member in
          ap (λ b. b && is_some d.row.sent) yes

      sends_there : (j : ℕ) → j ≢ m → is_sending j d.row ≡ false
      sends_there j ne = grind (arith, member)

      sendings_after : (j : ℕ) → sent_of after j ≡ sending_count j rows
      sendings_after j =
          let last = count_last (is_sending j) trace d.row in
          let old = was.sendings j in
          elim (j == m) as (λ b. (j == m) ≡ b → sent_of after j ≡ sending_count j rows) [
            | true ↦ λ q.
                let same : j ≡ m = eqb-true _ _ q in
                let a = ap (sent_of cs) same ∙ sent_was in
                let b = ap (sent_of after) same ∙ sent_is in
                let n = sent_then in
                let one : one_if (is_sending j d.row) ≡ one_if (is_some d.row.sent) = ap (λ i. one_if (is_sending i d.row)) same
                ∙ ap one_if sends_here in
                omega arith
            | false ↦ λ q.
                let ne = eqb-false _ _ q in
                let a = ap sent_by (there_after s m d cs j ne) ∙ told_sent d.row.sent j (slice_get cs j) in
                let none : one_if (is_sending j d.row) ≡ 0 = ap one_if (sends_there j ne) in
                omega arith
          ] refl

      numbered_now : (p : Packet) → d.row.sent ≡ Some p → IsNumbered trace d.row p
      numbered_now p q =
          let n = is_new p q in
          let sender : p.id.sender ≡ d.row.key.member = n.sender ∙ sym member in
          (sender, n.count ∙ was.sendings p.id.sender ∙ ap (λ j. sending_count j trace) sender, n.at)

      numbers_after : (first last : List Row) (r : Row) (p : Packet) → IsSplit rows first r last → r.sent ≡ Some p → IsNumbered first r p
      numbers_after first last r p split q = grind (arith, split_cases, numbered_now)

      -- another packet than all before
      pub new_id : (p : Packet) → IsNew p → (k : PacketId) → k.count < sent_of cs k.sender → p.id ≢ k
      new_id p new k lt q = grind arith

      counted_after : (p : Packet) → SentIn p rows → p.id.count < sent_of after p.id.sender
      counted_after p t = elim (sent_cases p trace d.row t) [
        | inl g ↦ (let a = was.counted p g in let b = sent_grows p.id.sender in omega arith)
        | inr g ↦ (is_new p g).now
      ]

      -- ---- the row's arrival

      pub about_is : (body : Option Body) × (d.row.about ≡ about_of e.cause body)
      about_is = elim facts.does.how [
        | inl a ↦ (let body = (react a.state e.key.time a.cause).answer.body in (body, a.about ∙ ap (λ c. about_of c body) (sym a.is)))
        | inr l ↦ (None, l.about ∙ ap (λ c. about_of c None) (sym l.is))
      ]

      pub about_arrival : (t : TakesFlight facts.cell e) → d.row.about ≡ Of t.flight.packet
      about_arrival t = about_is.1 ∙ ap (λ c. about_of c about_is.0) t.cause

      pub about_none : NoArrival e.cause → (k : Packet) → d.row.about ≢ Of k
      about_none none k q = about_other e.cause about_is.0 none k (sym about_is.1 ∙ q)

      inbox_was : AllIn (IsFlight trace m) facts.cell.inbox
      inbox_was = was.flights m facts.cell facts.here

      pub taken : (t : TakesFlight facts.cell e) → IsFlight trace m t.flight
      taken t = (subst (AllIn (IsFlight trace m)) t.inbox inbox_was).0

      left_by : Takes facts.cell e → AllIn (IsFlight trace m) e.rest.inbox
      left_by (inl t) = (subst (AllIn (IsFlight trace m)) t.inbox inbox_was).1
      left_by (inr t) = subst (AllIn (IsFlight trace m)) (sym t.0) inbox_was

      left : AllIn (IsFlight trace m) d.cell.inbox
      left = subst (AllIn (IsFlight trace m)) (sym facts.does.inbox) (left_by facts.pending.takes)

      -- a packet that the row hands was counted
      row_counted_by : Takes facts.cell e → (k : Packet) → d.row.about ≡ Of k → k.id.count < sent_of cs k.id.sender
      row_counted_by h0 k q = grind arith

      -- and so was every packet that an earlier row hands
      pub handed_was : (r : Row) → Contains rows r → (p : Packet) → r.about ≡ Of p → p.id.count < sent_of cs p.id.sender
      handed_was r t k q = elim (contains_cases trace d.row r t) [
        | inl g ↦ was.handed r g k q
        | inr g ↦ row_counted_by facts.pending.takes k (ap (λ (y : Row). y.about) g ∙ q)
      ]

      handed_after : (r : Row) → Contains rows r → (p : Packet) → r.about ≡ Of p → p.id.count < sent_of after p.id.sender
      handed_after r t k q = let a = handed_was r t k q in let b = sent_grows k.id.sender in omega arith

      one_after : (p q : Packet) → SentIn p rows → SentIn q rows → p.id ≡ q.id → p ≡ q
      one_after p q hp hq same = elim (sent_cases p trace d.row hp) [
        | inl gp ↦ elim (sent_cases q trace d.row hq) [
          | inl gq ↦ was.one p q gp gq same
          | inr gq ↦ absurd (new_id q (is_new q gq) p.id (was.counted p gp) (sym same))
        ]
        | inr gp ↦ elim (sent_cases q trace d.row hq) [
          | inl gq ↦ absurd (new_id p (is_new p gp) q.id (was.counted q gq) same)
          | inr gq ↦ same_Some p q (sym gp ∙ gq)
        ]
      ]

      -- ---- flights

      flights_more : (j : ℕ) (fs : List Flight) → AllIn (IsFlight trace j) fs → AllIn (IsFlight rows j) fs
      flights_more j fs a = AllIn-weaker (IsFlight trace j) (IsFlight rows j) (λ f g. (sent_more f.packet trace (d.row ∷ []) g.0, g.1)) fs a

      flights_hear : (p : Packet) → d.row.sent ≡ Some p → (j : ℕ) (o : Option ℕ) (c : PlainCell) → arrival_of s.traffic p j ≡ o
          → AllIn (IsFlight trace j) c.inbox → AllIn (IsFlight rows j) (hear_at p o c).inbox
      flights_hear p y j None c q a = flights_more j c.inbox a
      flights_hear p y j (Some at) c q a = AllIn-place (IsFlight rows j) flight_cmp _ c.inbox (sent_now p trace d.row y, q)
          (flights_more j c.inbox a)

      flights_told : (y : Option Packet) → d.row.sent ≡ y → (j : ℕ) (c : PlainCell) → AllIn (IsFlight trace j) c.inbox
          → AllIn (IsFlight rows j) (told_to s.traffic y j c).inbox
      unfolding hear
      flights_told None y j c a = flights_more j c.inbox a
      flights_told (Some p) y j c a = flights_hear p y j (arrival_of s.traffic p j) c refl a

      flights_after : EachCell (λ j c. AllIn (IsFlight rows j) c.inbox) after
      flights_after = each_after s (λ j c. AllIn (IsFlight rows j) c.inbox) cs m d (flights_more m d.cell.inbox left)
          (λ j c g ne. flights_told d.row.sent refl j c (was.flights j c g))

      -- ---- how often

      -- nothing of a packet that was not sent is on the way, nor was handed
      none_flying : (k : PacketId) → ((q : PacketId) → q.count < sent_of cs q.sender → k ≢ q) → (j : ℕ) (fs : List Flight)
          → AllIn (IsFlight trace j) fs → count_by (is_flight k) fs ≡ 0
      none_flying k new j fs a = count_none (is_flight k) fs
          (λ f g. not_same k f.packet.id (new f.packet.id (was.counted f.packet (all_contained (IsFlight trace j) fs a f g).0)))

      none_handed : (k : PacketId) → ((q : PacketId) → q.count < sent_of cs q.sender → k ≢ q) → (j : ℕ) → handing_count k j rows ≡ 0
      none_handed k new j = count_none (is_arrival_of k j) rows (λ r g. not_arrival k j r (λ q y. new q.id (handed_was r g q y)))

      -- the stepping member's inbox and its new row
      once_here_by : Takes facts.cell e → (k : PacketId) → count_by (is_flight k) facts.cell.inbox
          ≡ one_if (is_arrival_of k m d.row) + count_by (is_flight k) e.rest.inbox
      once_here_by (inl t) k =
          ap (count_by (is_flight k)) t.inbox ∙ count_first (is_flight k) t.flight e.rest.inbox
          ∙ ap (λ b. one_if b + count_by (is_flight k) e.rest.inbox) (sym (here k t.flight.packet m d.row member (about_arrival t)))
      once_here_by (inr t) k =
          let no : one_if (is_arrival_of k m d.row) ≡ 0 = ap one_if (not_arrival k m d.row (λ q y. absurd (about_none t.1 q y))) in
          let same : count_by (is_flight k) e.rest.inbox ≡ count_by (is_flight k) facts.cell.inbox = ap (count_by (is_flight k)) t.0 in
          omega arith

      once_here : (k : PacketId) → count_by (is_flight k) (inbox_of (slice_get after m)) + handing_count k m rows
          ≡ count_by (is_flight k) (inbox_of (slice_get cs m)) + handing_count k m trace
      once_here k =
          let a : count_by (is_flight k) (inbox_of (slice_get after m)) ≡ count_by (is_flight k) e.rest.inbox =
          ap (λ o. count_by (is_flight k) (inbox_of o)) (here_after s m d cs facts.cell facts.here)
          ∙ ap (count_by (is_flight k)) facts.does.inbox in
          let b : count_by (is_flight k) (inbox_of (slice_get cs m)) ≡ count_by (is_flight k) facts.cell.inbox =
          ap (λ o. count_by (is_flight k) (inbox_of o)) facts.here in
          let c = once_here_by facts.pending.takes k in
          let g = count_last (is_arrival_of k m) trace d.row in
          omega arith

      -- how often the packet of this step is put into another inbox
      put_in : PacketId → ℕ → Option Packet → Option PlainCell → ℕ
      put_in k j None o = 0
      put_in k j (Some p) None = 0
      put_in k j (Some p) (Some c) = one_if (is_some (arrival_of s.traffic p j) && same_packet k p.id)

      hear_count : (k : PacketId) (p : Packet) (o : Option ℕ) (c : PlainCell) → count_by (is_flight k) (hear_at p o c).inbox
          ≡ one_if (is_some o && same_packet k p.id) + count_by (is_flight k) c.inbox
      hear_count k p None c = omega arith
      hear_count k p (Some at) c = count_place (is_flight k) flight_cmp _ c.inbox

      told_count : (k : PacketId) (j : ℕ) (y : Option Packet) (o : Option PlainCell)
          → count_by (is_flight k) (inbox_of (option_map (told_to s.traffic y j) o)) ≡ put_in k j y o + count_by (is_flight k) (inbox_of o)
      unfolding hear put_in
      told_count k j y o = grind (arith, hear_count)

      once_there : (k : PacketId) (j : ℕ) → j ≢ m → count_by (is_flight k) (inbox_of (slice_get after j)) + handing_count k j rows
          ≡ put_in k j d.row.sent (slice_get cs j) + (count_by (is_flight k) (inbox_of (slice_get cs j)) + handing_count k j trace)
      once_there k j ne = grind (arith, there_after, told_count, count_last, member)

      -- nothing is put in of a packet that was sent before
      put_no : (k : PacketId) → k.count < sent_of cs k.sender → (j : ℕ) (y : Option Packet) → d.row.sent ≡ y → (o : Option PlainCell)
          → put_in k j y o ≡ 0
      unfolding put_in
      put_no k lt j y h4 o = grind (arith, is_new)

      once_old : (p : Packet) → SentIn p trace → (j : ℕ) → count_by (is_flight p.id) (inbox_of (slice_get after j)) + handing_count p.id j
          rows ≡ one_if (is_some (arrival_of s.traffic p j))
      once_old p t j =
          let o = was.once p t j in
          elim (j == m) as (λ b. (j == m) ≡ b → count_by (is_flight p.id) (inbox_of (slice_get after j)) + handing_count p.id j rows
          ≡ one_if (is_some (arrival_of s.traffic p j))) [
            | true ↦ λ q.
                let same : j ≡ m = eqb-true _ _ q in
                subst (λ i. count_by (is_flight p.id) (inbox_of (slice_get after i)) + handing_count p.id i rows
                ≡ count_by (is_flight p.id) (inbox_of (slice_get cs i)) + handing_count p.id i trace) (sym same) (once_here p.id) ∙ o
            | false ↦ λ q.
                let a = once_there p.id j (eqb-false _ _ q) in
                let b = put_no p.id (was.counted p t) j d.row.sent refl (slice_get cs j) in
                omega arith
          ] refl

      -- a packet has no flight to its sender, nor to one that is no member
      no_flight : (p : Packet) (j : ℕ) → ((at : ℕ) → arrival_of s.traffic p j ≢ Some at) → one_if (is_some (arrival_of s.traffic p j)) ≡ 0
      no_flight p j none = grind arith

      get_some : (cells : List PlainCell) (j : ℕ) → j < length cells → slice_get cells j ≢ None
      get_some [] j lt q = omega arith
      get_some (c ∷ cells) zero lt q = cc
      get_some (c ∷ cells) (suc j) lt q = get_some cells j (omega arith) q

      put_new : (p : Packet) → d.row.sent ≡ Some p → (j : ℕ) (o : Option PlainCell) → slice_get cs j ≡ o → put_in p.id j (Some p) o
          ≡ one_if (is_some (arrival_of s.traffic p j))
      unfolding put_in
      put_new p y j o q = grind (arith, get_some)

      all_of_inbox : (j : ℕ) (o : Option PlainCell) → slice_get cs j ≡ o → AllIn (IsFlight trace j) (inbox_of o)
      all_of_inbox j None q = tt
      all_of_inbox j (Some c) q = was.flights j c q

      once_new : (p : Packet) → d.row.sent ≡ Some p → (j : ℕ) → count_by (is_flight p.id) (inbox_of (slice_get after j)) + handing_count
          p.id
          j rows ≡ one_if (is_some (arrival_of s.traffic p j))
      once_new p y j =
          let new = new_id p (is_new p y) in
          let handed_none = none_handed p.id new j in
          let flying_none = none_flying p.id new j (inbox_of (slice_get cs j)) (all_of_inbox j (slice_get cs j) refl) in
          elim (j == m) as (λ b. (j == m) ≡ b → count_by (is_flight p.id) (inbox_of (slice_get after j)) + handing_count p.id j rows
          ≡ one_if (is_some (arrival_of s.traffic p j))) [
            | true ↦ λ q.
                let same : j ≡ m = eqb-true _ _ q in
                let here_none : count_by (is_flight p.id) (inbox_of (slice_get after j)) ≡ 0 =
                ap (λ i. count_by (is_flight p.id) (inbox_of (slice_get after i))) same
                ∙ ap (λ o. count_by (is_flight p.id) (inbox_of o)) (here_after s m d cs facts.cell facts.here)
                ∙ none_flying p.id new m d.cell.inbox left in
                let none = no_flight p j (λ at g. (arrival_is s p j at g).1 (same ∙ sym (is_new p y).sender)) in
                omega arith
            | false ↦ λ q.
                let a = once_there p.id j (eqb-false _ _ q) in
                let b : put_in p.id j d.row.sent (slice_get cs j) ≡ one_if (is_some (arrival_of s.traffic p j)) =
                ap (λ z. put_in p.id j z (slice_get cs j)) y ∙ put_new p y j (slice_get cs j) refl in
                let l = count_last (is_arrival_of p.id j) trace d.row in
                omega arith
          ] refl

      once_after : (p : Packet) → SentIn p rows → (j : ℕ) → count_by (is_flight p.id) (inbox_of (slice_get after j)) + handing_count p.id j
          rows ≡ one_if (is_some (arrival_of s.traffic p j))
      once_after p t j = elim (sent_cases p trace d.row t) [ inl g ↦ once_old p g j | inr g ↦ once_new p g j ]

      -- ---- earlier rows

      last_row_by : Takes facts.cell e → (k : Packet) → d.row.about ≡ Of k → WasSent trace d.row k
      last_row_by (inl t) k q =
          let f = taken t in
          subst (λ p. WasSent trace d.row p) (same_of _ _ (sym (about_arrival t) ∙ q)) (
            f.0,
            facts.does.cause ∙ ap word_of t.cause,
            ap (arrival_of s.traffic t.flight.packet) member ∙ f.1 ∙ ap Some (sym t.time ∙ sym (ap (λ (i : Key). i.time) facts.does.key)),
          )
      last_row_by (inr t) k q = absurd (about_none t.1 k q)

      before_after : (first last : List Row) (r : Row) (k : Packet) → IsSplit rows first r last → r.about ≡ Of k → WasSent first r k
      before_after first last r k split q = elim (split_cases trace d.row first r last split) [
        | inl g ↦ subst (λ l. WasSent l r k) (sym g.1)
            (subst (λ y. WasSent trace y k) g.0 (last_row_by facts.pending.takes k (ap (λ (y : Row). y.about) g.0 ∙ q)))
        | inr g ↦ was.before first g.0 r k g.1 q
      ]

      pub handed_step : Handed after rows
      handed_step = record {
        members = length_after s m d 0 cs ∙ was.members;
        counted = counted_after;
        handed = handed_after;
        one = one_after;
        flights = flights_after;
        once = once_after;
        sendings = sendings_after;
        numbers = numbers_after;
        before = before_after;
      }

  -- ---- the sequential run

  opening_empty : (n i j : ℕ) (c : PlainCell) → slice_get (opening_cells s n i) j ≡ Some c → c.inbox ≡ []
  unfolding opening_cells
  opening_empty zero i j c h = cc
  opening_empty (suc n) i zero c h = ap (λ (b : PlainCell). b.inbox) (sym (same_Some _ _ h))
  opening_empty (suc n) i (suc j) c h = opening_empty n (suc i) j c h

  opening_sent : (n i j : ℕ) → sent_of (opening_cells s n i) j ≡ 0
  unfolding opening_cells
  opening_sent zero i j = refl
  opening_sent (suc n) i zero = refl
  opening_sent (suc n) i (suc j) = opening_sent n (suc i) j

  pub handed_opening : Handed (opening s).cells (opening s).trace
  unfolding opening
  handed_opening = grind (arith, length_opening, opening_empty, opening_sent, no_split)

  pub handed_reached : (w : World) → IsReached s w → Handed w.cells w.trace
  handed_reached w r = run_keeps s (λ v. Handed v.cells v.trace) (λ v e d h g. handed_step v.cells v.trace e d g h) r.0
      (opening s) w handed_opening r.1

  -- ---- the end

  none_kept : (b : Bool) (e : Event) → cond b (Some e) None ≡ None → b ≡ false
  none_kept true e h = cc
  none_kept false e h = refl

  -- an event of a later time is no earlier one
  abbrev Late : Option Event → Type 0
  Late None = Unit {0}
  Late (Some e) = s.traffic.until ≤ e.key.time

  late_none : (x : Option Event) → before s.traffic.until x ≡ None → Late x
  late_none None h = tt
  late_none (Some e) h = Rattle.std.proofs.Common.ltb-false _ _ (none_kept (nat_lt e.key.time s.traffic.until) e h)

  late_earlier : (x y : Option Event) → Late (earlier x y) → Late x × Late y
  late_earlier x y h = grind arith

  late_all : (i : ℕ) (cs : List PlainCell) → Late (least_event i cs) → (j : ℕ) (c : PlainCell) → slice_get cs j ≡ Some c → (k : ℕ)
      × Late (next_event k c)
  unfolding least_event
  late_all i [] h j c g = cc
  late_all i (x ∷ cs) h zero c g = (
    i,
    subst (λ y. Late (next_event i y))
        (same_Some _ _ g) (late_earlier (next_event i x) (least_event (suc i) cs) h).0,
  )
  late_all i (x ∷ cs) h (suc j) c g = late_all (suc i) cs (late_earlier (next_event i x) (least_event (suc i) cs) h).1 j c g

  first_late : (k : ℕ) (c : PlainCell) → Late (next_event k c) → Late (first_arrival k c c.inbox)
  unfolding next_event
  first_late k c h = (late_earlier (first_arrival k c c.inbox) (earlier (first_mark k c c.script) (next_timer k c (due_in c.holds))) h).0

  empty_inbox : (k j : ℕ) (trace : List Row) (c : PlainCell) (fs : List Flight) → Late (first_arrival k c fs) → AllIn (IsFlight trace j) fs
      → fs ≡ []
  empty_inbox k j trace c [] h a = refl
  empty_inbox k j trace c (f ∷ fs) h a = absurd (let lt = (arrival_is s f.packet j f.arrival a.0.1).2 in omega arith)

  inbox_none : (w : World) → Handed w.cells w.trace → step s w ≡ Idle → (j : ℕ) (o : Option PlainCell) → slice_get w.cells j ≡ o
      → inbox_of o ≡ []
  inbox_none w g over j None q = refl
  inbox_none w g over j (Some c) q =
      let n = late_all 0 w.cells (late_none (least_event 0 w.cells) (nothing_left s w over)) j c q in
      empty_inbox n.0 j w.trace c c.inbox (first_late n.0 c n.1) (g.flights j c q)

  handed_in_the_end : (w : World) → IsLast s w → (p : Packet) → SentIn p w.trace → (m : ℕ) → handing_count p.id m w.trace
      ≡ one_if (is_some (arrival_of s.traffic p m))
  handed_in_the_end w last p t m =
      let g = handed_reached w last.reached in
      let o = g.once p t m in
      let none : count_by (is_flight p.id) (inbox_of (slice_get w.cells m))
      ≡ 0 = ap (count_by (is_flight p.id)) (inbox_none w g last.idle m (slice_get w.cells m) refl) in
      omega arith

pub packets_are_handed_once : PacketsAreHandedOnce
packets_are_handed_once s w last p t m = handed_in_the_end s w last p t m

pub packets_are_numbered : PacketsAreNumbered
packets_are_numbered s w reached rows after r p split q = (handed_reached s w reached).numbers rows after r p split q

pub handed_packets_were_sent : HandedPacketsWereSent
handed_packets_were_sent s w reached rows after r k split q = (handed_reached s w reached).before rows after r k split q

pub packets_are_their_identities : PacketsAreTheirIdentities
packets_are_their_identities s w reached p q hp hq same = (handed_reached s w reached).one p q hp hq same
