-- The keys of the sequential run rise strictly.
use Rattle.std.proofs.Common.{◌≡◌, ℕ, zero, suc, ◌<◌, ◌≤◌, ◌+◌, true, false, cond, List, [], ◌∷◌, length, refl, sym, ap, ◌∙◌, subst}
use Rattle.std.proofs.Common.{◌≢◌, inl, inr, arith, Ordering, Less, Equal, Greater, Option, Some, None, is_lt, slice_get}
use Rattle.std.proofs.Common.{true≢false, le_refl, zero-add}
use Rattle.std.specs.Ordering.{ordering_reverse}
use Rattle.std.specs.Cmp.{IsTotalOrder}
use Rattle.std.proofs.lemmas.Option.{same_Some}
use Rattle.srm_cell.proofs.CellSteps.{SentBy}
use Rattle.srm_cell.proofs.Clear.{Besides, CountAfter, Differs, IsDistinct, IsTail, RestOf, StepOf, clear_step, differ_member, ranks_tail}
use Rattle.srm_cell.proofs.Clear.{later_differs, next_besides, next_rest, step_is_of, then_after, all_tail}
use Rattle.srm_cell.proofs.Rising.{Above, IsAbove, OnEvent, OnStep, before_on, next_above, step_above}
use Rattle.srm_cell.specs.Cells.{arrival_key, mark_key, timer_key, Done, Event, PlainCell, StepOutcome, Stepped, before, hear, hear_at}
use Rattle.srm_cell.specs.Cells.{next_event, step_at}
use Rattle.srm_cell.proofs.Tidy.{NotBefore, later_not_before}
use Rattle.srm_cell.specs.Flights.{flight_cmp, flight_total}
use Rattle.srm_cell.specs.OwnRuns.{told_to}
use Rattle.srm_cell.specs.Setting.{HasOwnRanks, IsFit, Setting, arrival_of}
use Rattle.srm_cell.specs.declared.flight.Flight.{Flight}
use Rattle.srm_model.proofs.HandedOnce.{sent_by, sent_of}
use Rattle.srm_model.proofs.OneStep.{hear_at_sent}
use Rattle.srm_model.proofs.RunLemmas.{Seq, next, rest, seq_run}
use Rattle.srm_model.proofs.Sequential.{Good, StepFacts, above_after, above_all, above_step, good_opening, good_step}
use Rattle.srm_model.proofs.Settled.{EachCell, each_after}
use Rattle.srm_model.proofs.Sequential.{run_seq, step_facts}
use Rattle.srm_model.proofs.Settled.{at_member, get_after}
use Rattle.srm_model.specs.Laws.{KeysRise}
use Rattle.srm_model.specs.World.{World, least_event, opening, opening_cells, row_cmp, run, cells_after}
use Rattle.srm_member.proofs.AllIn.{AllIn, AllIn-both, AllIn-each, AllIn-place, AllIn-weaker}
use Rattle.srm_member.specs.declared.row.Row.{Row}
use Rattle.srm_net.specs.Keys.{key_cmp}
use Rattle.srm_net.specs.Orders.{AllAfter, Ascends, place}
use Rattle.srm_net.specs.declared.key.Key.{Key}
use Rattle.srm_net.specs.declared.packet.Packet.{Packet}
use Rattle.srm_net.proofs.Basics.{is_Less, same_numbers, nth_number, after_place, after_less}
use Rattle.srm_net.proofs.TotalOrders.{key_total}
use Rattle.srm_scenario.specs.Plain.{mark_cmp}
use Rattle.srm_cell.specs.Cells.{timers_in}

-- ---- lists that ascend

module _ {A : Type 0} (cmp : A → A → Ordering) (o : IsTotalOrder cmp) where
  ascends_place : (x : A) (ys : List A) → AllIn (λ y. cmp x y ≢ Equal) ys → Ascends cmp ys → Ascends cmp (place cmp x ys)
  ascends_place x [] h g = (tt, tt)
  ascends_place x (y ∷ ys) h g = elim (is_lt (cmp y x)) as
      (λ b. is_lt (cmp y x) ≡ b → Ascends cmp (cond b (y ∷ place cmp x ys) (x ∷ y ∷ ys))) [
        | true ↦ λ q. (after_place cmp o y x ys (is_Less _ q) g.0, ascends_place x ys h.1 g.1)
        | false ↦ λ q.
            let less : cmp x y ≡ Less = elim (cmp x y) as (λ r. cmp x y ≡ r → cmp x y ≡ Less) [
              | Less ↦ λ e. e
              | Equal ↦ λ e. absurd (h.0 e)
              | Greater ↦ λ e. absurd (true≢false (sym (ap is_lt (o.antisymm y x ∙ ap ordering_reverse e)) ∙ q))
            ] refl in
            ((less, after_less cmp o x y ys less g.0), g)
      ] refl

ascends_tail : {A : Type 0} (cmp : A → A → Ordering) (ys xs : List A) → IsTail ys xs → Ascends cmp xs → Ascends cmp ys
ascends_tail cmp ys xs (inl e) h = subst (Ascends cmp) (sym e) h
ascends_tail cmp ys xs (inr e) h = (subst (Ascends cmp) e.1 h).1

-- ---- how many packets each member sent

-- the packets in an inbox were sent
abbrev pub IsFresh : List PlainCell → PlainCell → Type 0
IsFresh cs c = AllIn (λ f. f.packet.id.count < sent_of cs f.packet.id.sender) c.inbox

fresh_apart : (cs : List PlainCell) (f : Flight) (fs : List Flight) → f.packet.id.count ≡ sent_of cs f.packet.id.sender
    → AllIn (λ g. g.packet.id.count < sent_of cs g.packet.id.sender) fs → AllIn (λ g. flight_cmp f g ≢ Equal) fs
unfolding nth_number
fresh_apart cs f [] h a = tt
fresh_apart cs f (g ∷ gs) h a = (
  (λ e.
      let same =
      same_numbers (f.arrival ∷ f.packet.id.sender ∷ f.packet.id.count ∷ [])
      (g.arrival ∷ g.packet.id.sender ∷ g.packet.id.count ∷ []) e in
      let sender : f.packet.id.sender ≡ g.packet.id.sender = ap (nth_number 1) same in
      let count : f.packet.id.count ≡ g.packet.id.count = ap (nth_number 2) same in
      let sent : sent_of cs f.packet.id.sender ≡ sent_of cs g.packet.id.sender = ap (sent_of cs) sender in
      let less = a.0 in
      omega arith),
  fresh_apart cs f gs h a.1,
)

module _ (s : Setting) (fit : IsFit s) where
  pub record Strict (cs : List PlainCell) : Type 0 where
    pub distinct : EachCell (λ j c. IsDistinct c) cs
    pub fresh : EachCell (λ j c. IsFresh cs c) cs

  told_sent : (x : Option Packet) (m : ℕ) (c : PlainCell) → (told_to s.traffic x m c).sent ≡ c.sent
  unfolding hear
  told_sent None m c = refl
  told_sent (Some p) m c = hear_at_sent p (arrival_of s.traffic p m) c

  module _ (till : ℕ) (cs : List PlainCell) (e : Event) (d : Stepped) (good : Good s fit cs) (strict : Strict cs)
      (h : before till (least_event 0 cs) ≡ Some e) (x : step_at (Some e) ≡ Done d) where
    abbrev m : ℕ
    m = e.key.member

    facts : StepFacts s fit till cs e d
    facts = step_facts s fit till cs e d h x

    rest_of : RestOf facts.cell e
    rest_of = subst (OnEvent (RestOf facts.cell)) facts.event
        (before_on (RestOf facts.cell) till (next_event m facts.cell) (next_rest m facts.cell))

    did : StepOf e d
    did = subst (OnStep (StepOf e)) x (step_is_of e)

    abbrev after : List PlainCell
    after = cells_after s m d 0 cs

    here_after : slice_get after m ≡ Some d.cell
    here_after = grind (arith, get_after, facts)

    pub sent_here : sent_of cs m ≡ e.rest.sent
    sent_here = ap sent_by facts.here ∙ sym rest_of.sent

    sent_after : sent_of after m ≡ d.cell.sent
    sent_after = ap sent_by here_after

    sent_at : (y : ℕ) (c : PlainCell) → slice_get cs y ≡ Some c → c.sent ≤ (at_member s m d y c).sent
    sent_at y c g = grind (arith, sent_here, did, told_sent)

    sent_grows : (y : ℕ) → sent_of cs y ≤ sent_of after y
    sent_grows y = grind (arith, get_after, sent_at)

    fresh_after : (c : PlainCell) → IsFresh cs c → IsFresh after c
    fresh_after c f = grind (arith, AllIn-weaker, sent_grows)

    hear_at_strict : (p : Packet) (o : Option ℕ) (c : PlainCell) → p.id.sender ≡ m → CountAfter e.rest.sent (Some p) d.cell.sent
        → IsDistinct c → IsFresh cs c → IsDistinct (hear_at p o c) × IsFresh after (hear_at p o c)
    hear_at_strict p None c by count t f = (t, fresh_after c f)
    hear_at_strict p (Some at) c by count t f =
        let flight : Flight = record { arrival = at; packet = p } in
        let now : p.id.count ≡ sent_of cs p.id.sender = count.0 ∙ sym sent_here ∙ ap (sent_of cs) (sym by) in
        let new : sent_of after p.id.sender ≡ d.cell.sent = ap (sent_of after) by ∙ sent_after in
        let up = count.1 in
        let was = count.0 in (
          record {
            flights = ascends_place flight_cmp flight_total flight c.inbox (fresh_apart cs flight c.inbox now f) t.flights;
            marks =
                t.marks;
            ranks = t.ranks;
          },
          AllIn-place (λ (g : Flight). g.packet.id.count < sent_of after g.packet.id.sender) flight_cmp flight c.inbox (omega arith)
              (fresh_after c f),
        )

    told_strict : (y : Option Packet) → y ≡ d.row.sent → SentBy m y → CountAfter e.rest.sent y d.cell.sent → (j : ℕ) (c : PlainCell)
        → IsDistinct c → IsFresh cs c → IsDistinct (told_to s.traffic y j c) × IsFresh after (told_to s.traffic y j c)
    unfolding hear
    told_strict None q by count j c t f = (t, fresh_after c f)
    told_strict (Some p) q by count j c t f = hear_at_strict p (arrival_of s.traffic p j) c by count t f

    -- both hold after the step
    pub strict_step : Strict after
    strict_step =
        let c = facts.cell in
        let was = strict.distinct m c facts.here in
        let fresh = strict.fresh m c facts.here in
        let mine : IsDistinct d.cell = record {
          flights = subst (Ascends flight_cmp) (sym did.inbox) (ascends_tail flight_cmp _ _ rest_of.inbox was.flights);
          marks = subst (Ascends mark_cmp) (sym did.script) (ascends_tail mark_cmp _ _ rest_of.script was.marks);
          ranks = subst HasOwnRanks (sym did.script) (ranks_tail _ _ rest_of.script was.ranks);
        } in
        let mine_fresh : IsFresh after d.cell = fresh_after d.cell
        (subst (AllIn (λ (f : Flight). f.packet.id.count < sent_of cs f.packet.id.sender)) (sym did.inbox)
        (all_tail _ _ _ rest_of.inbox fresh)) in
        record {
          distinct = each_after s (λ j c. IsDistinct c) cs m d mine
              (λ j c g ne. (told_strict d.row.sent refl facts.sender did.count j c (strict.distinct j c g) (strict.fresh j c g)).0);
          fresh = each_after s (λ j c. IsFresh after c) cs m d mine_fresh
              (λ j c g ne. (told_strict d.row.sent refl facts.sender did.count j c (strict.distinct j c g) (strict.fresh j c g)).1);
        }

    -- nothing that is pending after the step comes before it or has its key
    abbrev After : Key → Key → Type 0
    After k l = key_cmp k l ≡ Less

    other_member : (k : Key) (j : ℕ) (c : PlainCell) → k.member ≢ j → Above (Differs k) j c
    other_member k j c ne = record {
      flights = AllIn-each (λ f. Differs k (arrival_key j f)) (λ f. differ_member k (arrival_key j f) ne) c.inbox;
      marks = AllIn-each (λ l. Differs k (mark_key j l)) (λ l. differ_member k (mark_key j l) ne) c.script;
      dues = AllIn-each (λ d. Differs k (timer_key j d)) (λ d. differ_member k (timer_key j d) ne) (timers_in c.holds);
    }

    both : (k : Key) (j : ℕ) (c : PlainCell) → Above (NotBefore k) j c → Above (Differs k) j c → Above (After k) j c
    both k j c a b = record {
      flights = AllIn-both (λ f. NotBefore k (arrival_key j f)) (λ f. Differs k (arrival_key j f)) (λ f. After k (arrival_key j f))
          (λ f u v. then_after k (arrival_key j f) u v) c.inbox a.flights b.flights;
      marks = AllIn-both (λ f. NotBefore k (mark_key j f)) (λ f. Differs k (mark_key j f)) (λ f. After k (mark_key j f))
          (λ f u v. then_after k (mark_key j f) u v) c.script a.marks b.marks;
      dues = AllIn-both (λ f. NotBefore k (timer_key j f)) (λ f. Differs k (timer_key j f)) (λ f. After k (timer_key j f))
          (λ f u v. then_after k (timer_key j f) u v) (timers_in c.holds) a.dues b.dues;
    }

    strictly_after : EachCell (Above (After e.key)) after
    strictly_after =
        let besides = subst (OnEvent (Besides m facts.cell)) facts.event
        (before_on (Besides m facts.cell) till (next_event m facts.cell)
        (next_besides m facts.cell (strict.distinct m facts.cell facts.here))) in
        let clear = subst (OnStep (λ d. Above (Differs e.key) m d.cell)) x
        (clear_step m facts.cell e (good.sound m facts.cell facts.here) besides) in
        let from = above_after s fit till cs e d good h x m d.cell here_after in
        above_step s fit till (After e.key) cs e d good h x
        (λ k lt. then_after e.key k (later_not_before e.key k lt) (later_differs e.key k lt)) (both e.key m d.cell from clear)
        (λ j c g ne. both e.key j c (above_all s fit till cs e good h j c g) (other_member e.key j c (λ q. ne (sym q))))

    still_after : (k : Key) → EachCell (Above (After k)) cs → (After k e.key) × EachCell (Above (After k)) after
    still_after k all =
        let a = subst (OnEvent (IsAbove (After k) m)) facts.event
        (before_on (IsAbove (After k) m) till (next_event m facts.cell)
        (next_above (After k) m facts.cell (all m facts.cell facts.here))) in
        let later : (l : Key) → e.key.time < l.time → After k l = λ l lt. key_total.trans k e.key l a.0
        (then_after e.key l (later_not_before e.key l lt) (later_differs e.key l lt)) in (
          a.0,
          above_step s fit till (After k) cs e d good h x later
              (subst (OnStep (λ d. Above (After k) m d.cell)) x (step_above (After k) m e.key.time later e refl a.1))
              (λ j c g ne. all j c g),
        )

  seq_after : {till : ℕ} {cs ds : List PlainCell} {rows : List Row} (r : Row) → Seq s till cs rows ds → Good s fit cs → Strict cs
      → EachCell (Above (λ l. key_cmp r.key l ≡ Less)) cs → AllAfter row_cmp r rows
  seq_after r rest good strict all = tt
  seq_after {till} r (next {cs = cs} {e = e} {d = d} h x more) good strict all =
      let a = still_after till cs e d good strict h x r.key all in
      let f = step_facts s fit till cs e d h x in (
        ap (key_cmp r.key) f.key ∙ a.0,
        seq_after r more (good_step s fit till cs e d good h x) (strict_step till cs e d good strict h x) a.1,
      )

  seq_ascends : {till : ℕ} {cs ds : List PlainCell} {rows : List Row} → Seq s till cs rows ds → Good s fit cs → Strict cs
      → Ascends row_cmp rows
  seq_ascends rest good strict = tt
  seq_ascends {till} (next {cs = cs} {e = e} {d = d} h x more) good strict =
      let f = step_facts s fit till cs e d h x in
      let good' = good_step s fit till cs e d good h x in
      let strict' = strict_step till cs e d good strict h x in
      let all = strictly_after till cs e d good strict h x in (
        seq_after d.row more good' strict' (subst (λ k. EachCell (Above (λ l. key_cmp k l ≡ Less))
            (cells_after s e.key.member d 0 cs))
            (sym f.key) all),
        seq_ascends more good' strict',
      )

  opening_distinct : (n i : ℕ) → i + n ≡ s.traffic.members → (j : ℕ) (c : PlainCell) → slice_get (opening_cells s n i) j ≡ Some c
      → IsDistinct c
  unfolding opening_cells
  opening_distinct zero i e j c h = cc
  opening_distinct (suc n) i e zero c h = subst IsDistinct (same_Some _ _ h)
      (record { flights = tt; marks = fit.scripts i (omega arith); ranks = fit.ranks i (omega arith) })
  opening_distinct (suc n) i e (suc j) c h = opening_distinct n (suc i) (omega arith) j c h

  opening_empty : (all : List PlainCell) (n i j : ℕ) (c : PlainCell) → slice_get (opening_cells s n i) j ≡ Some c → IsFresh all c
  unfolding opening_cells
  opening_empty all zero i j c h = cc
  opening_empty all (suc n) i zero c h = subst (IsFresh all) (same_Some _ _ h) tt
  opening_empty all (suc n) i (suc j) c h = opening_empty all n (suc i) j c h

  pub strict_opening : Strict (opening s).cells
  unfolding opening
  strict_opening = record {
    distinct = opening_distinct s.traffic.members 0 (zero-add s.traffic.members);
    fresh =
        opening_empty (opening_cells s s.traffic.members 0) s.traffic.members 0;
  }

  opening_trace : opening s ≡ record { cells = (opening s).cells; trace = [] }
  unfolding opening
  opening_trace = refl

pub keys_rise : KeysRise
keys_rise s w fit reached =
    let r = run_seq s fit reached.0 (opening s) w reached.1 in
    let again : run s reached.0 (opening s) ≡ Done (record { cells = w.cells; trace = r.0 }) =
    ap (λ n. run s n (opening s)) (sym r.2) ∙ ap (run s (length r.0)) (opening_trace s fit)
    ∙ seq_run s s.traffic.until (le_refl s.traffic.until) r.1 [] in
    let same : ◌≡◌ {A = StepOutcome World} (Done (record { cells = w.cells; trace = r.0 })) (Done w) = sym again ∙ reached.1 in
    let worlds : ◌≡◌ {A = World} (record { cells = w.cells; trace = r.0 }) w = cc in
    subst (Ascends row_cmp) (ap (λ (v : World). v.trace) worlds) (seq_ascends s fit r.1 (good_opening s fit) (strict_opening s fit))
