-- The worlds of the sequential run, the order of its rows, and safe ends.
use Rattle.std.proofs.Common.{◌≡◌, ℕ, zero, suc, ◌<◌, ◌≤◌, ◌+◌, List, [], ◌∷◌, ◌++◌, length, refl, sym, ap, ◌∙◌, subst, ◌≢◌}
use Rattle.std.proofs.Common.{◌⊎◌, inl, inr, arith, Option, Some, None, slice_get, zero-add, add-zero}
use Rattle.std.proofs.lemmas.Option.{same_Some}
use Rattle.srm_cell.proofs.CellSteps.{IsOf, IsStepOf, SentBy, before_of, before_some, next_event_of, step_at_of}
use Rattle.srm_cell.proofs.Counts.{Taken, above_weaker, next_taken, rest_sound, sound_step}
use Rattle.srm_cell.proofs.OwnRunLemmas.{rows_by, rows_first}
use Rattle.srm_cell.proofs.OwnRunsEnd.{SentNothing, rest_silent, silent_step}
use Rattle.srm_cell.proofs.Rising.{Above, IsAbove, OnEvent, OnStep, RowOf, SentAt, before_on, hear_at_above, next_above, row_step}
use Rattle.srm_cell.proofs.Rising.{step_above}
use Rattle.srm_cell.proofs.Tidy.{IsTidy, Least, NotBefore, RestTidy, above_least, arrival_is, later_not_before, least_earlier, next_tidy}
use Rattle.srm_cell.proofs.Tidy.{not_before_time, tidy_step, tidy_told}
use Rattle.srm_cell.specs.Cells.{Done, Event, Full, Idle, PlainCell, Silent, Spent, Stepped, before, hear, hear_at, next_event, own_step}
use Rattle.srm_cell.specs.Cells.{step_at}
use Rattle.srm_cell.specs.OwnRuns.{own_rows, told_to}
use Rattle.srm_cell.specs.Setting.{IsFit, Setting, arrival_of}
use Rattle.srm_model.proofs.RunLemmas.{Seq, least_from, next, rest}
use Rattle.srm_model.proofs.ScheduleLemmas.{Safe}
use Rattle.srm_model.proofs.OneStep.{length_opening, run_begins}
use Rattle.srm_model.proofs.Settled.{EachCell, each_after, length_after}
use Rattle.srm_model.specs.Schedules.{AllSendLate, SendsLate}
use Rattle.srm_model.specs.World.{World, least_event, opening, opening_cells, row_cmp, run, cells_after}
use Rattle.srm_member.proofs.OrderLemmas.{from_refl, rises}
use Rattle.srm_member.specs.declared.row.Row.{Row}
use Rattle.srm_net.specs.Keys.{key_cmp}
use Rattle.srm_net.specs.Orders.{ordered, place}
use Rattle.srm_net.specs.declared.key.Key.{Key}
use Rattle.srm_net.specs.declared.packet.Packet.{Packet}
use Rattle.srm_net.proofs.TotalOrders.{key_total}
use Rattle.srm_scenario.proofs.ScriptLemmas.{mark_total}
use Rattle.srm_scenario.specs.Plain.{mark_cmp}
use Rattle.srm_cell.proofs.Rising.{SoundHeld}

pub get_below : (cs : List PlainCell) (j : ℕ) (c : PlainCell) → slice_get cs j ≡ Some c → j < length cs
get_below [] j c h = cc
get_below (x ∷ cs) zero c h = omega arith
get_below (x ∷ cs) (suc j) c h = let l = get_below cs j c h in omega arith

pub least_of_all : (k : Key) (i : ℕ) (cs : List PlainCell) → Least k (least_event i cs) → (j : ℕ) (c : PlainCell) → slice_get cs j ≡ Some c
    → Least k (next_event (i + j) c)
unfolding least_event
least_of_all k i [] h j c g = cc
least_of_all k i (x ∷ cs) h zero c g =
    let same : x ≡ c = cc in
    rw add-zero (subst (λ y. Least k (next_event i y)) same (least_earlier k (next_event i x) (least_event (suc i) cs) h).0)
least_of_all k i (x ∷ cs) h (suc j) c g =
    let same : i + suc j ≡ suc i + j = omega arith in
    rw same (least_of_all k (suc i) cs (least_earlier k (next_event i x) (least_event (suc i) cs) h).1 j c g)

module _ (s : Setting) (fit : IsFit s) where
  hear_at_sound : (p : Packet) (o : Option ℕ) (c : PlainCell) → SoundHeld c.holds → SoundHeld (hear_at p o c).holds
  hear_at_sound p None c h = h
  hear_at_sound p (Some at) c h = h

  pub told_sound : (x : Option Packet) (m : ℕ) (c : PlainCell) → SoundHeld c.holds → SoundHeld (told_to s.traffic x m c).holds
  unfolding hear
  told_sound None m c h = h
  told_sound (Some p) m c h = hear_at_sound p (arrival_of s.traffic p m) c h

  pub record Good (cs : List PlainCell) : Type 0 where
    pub members : length cs ≡ s.traffic.members
    pub tidy : EachCell (λ j c. IsTidy c) cs
    pub sound : EachCell (λ j c. SoundHeld c.holds) cs

  module _ (till : ℕ) where
    -- what is known of a step of the sequential run
    pub record StepFacts (cs : List PlainCell) (e : Event) (d : Stepped) : Type 0 where
      pub cell : PlainCell
      pub here : slice_get cs e.key.member ≡ Some cell
      pub event : before till (next_event e.key.member cell) ≡ Some e
      pub key : d.row.key ≡ e.key
      pub sender : SentBy e.key.member d.row.sent
      pub sent_at : SentAt e.key.time d.row.sent

    pub step_facts : (cs : List PlainCell) (e : Event) (d : Stepped) → before till (least_event 0 cs) ≡ Some e → step_at (Some e) ≡ Done d
        → StepFacts cs e d
    step_facts cs e d h x =
        let r = least_from till 0 cs e h in
        let at_j : before till (next_event r.0 r.1) ≡ Some e = rw zero-add at r.3 in
        let of_j : e.key.member ≡ r.0 = subst (IsOf r.0) at_j (before_of r.0 till (next_event r.0 r.1) (next_event_of r.0 r.1)) in
        let row = subst (OnStep (RowOf e.key)) x (row_step e) in
        record {
          cell = r.1;
          here = ap (slice_get cs) of_j ∙ r.2;
          event = ap (λ k. before till (next_event k r.1)) of_j ∙ at_j;
          key = row.0;
          sender = (subst (IsStepOf e.key.member) x (step_at_of e.key.member (Some e) refl)).1;
          sent_at = row.1;
        }

    pub good_step : (cs : List PlainCell) (e : Event) (d : Stepped) → Good cs → before till (least_event 0 cs) ≡ Some e → step_at (Some e)
        ≡ Done d → Good (cells_after s e.key.member d 0 cs)
    good_step cs e d good h x =
        let f = step_facts cs e d h x in
        let t = subst (OnEvent RestTidy) f.event (before_on RestTidy till (next_event e.key.member f.cell)
        (next_tidy e.key.member f.cell (good.tidy e.key.member f.cell f.here))) in
        let taken = subst (OnEvent (Taken f.cell)) f.event
        (before_on (Taken f.cell) till (next_event e.key.member f.cell) (next_taken e.key.member f.cell)) in
        record {
          members = length_after s e.key.member d 0 cs ∙ good.members;
          tidy = each_after s (λ j c. IsTidy c) cs e.key.member d (subst (OnStep (λ d. IsTidy d.cell)) x (tidy_step e t))
              (λ j c g ne. tidy_told s.traffic d.row.sent j c (good.tidy j c g));
          sound = each_after s (λ j c. SoundHeld c.holds) cs e.key.member
              d (subst (OnStep (λ d. SoundHeld d.cell.holds)) x
              (sound_step e (rest_sound f.cell e taken (good.sound e.key.member f.cell f.here))))
              (λ j c g ne. told_sound d.row.sent j c (good.sound j c g));
        }

    pub good_seq : {cs ds : List PlainCell} {rows : List Row} → Seq s till cs rows ds → Good cs → Good ds
    good_seq rest good = good
    good_seq (next {cs = cs} {e = e} {d = d} h x more) good = good_seq more (good_step cs e d good h x)

    -- all that is pending is from the least event's key on
    pub above_all : (cs : List PlainCell) (e : Event) → Good cs → before till (least_event 0 cs) ≡ Some e
        → EachCell (Above (NotBefore e.key)) cs
    above_all cs e good h j c g =
        let b = before_some till (least_event 0 cs) e h in
        let least : Least e.key (least_event 0 cs) = subst (Least e.key) (sym b.0) (from_refl key_cmp key_total e.key) in
        above_least e.key j c (good.tidy j c g) (rw zero-add at (least_of_all e.key 0 cs least j c g))

    -- a packet's arrivals come later than the step that sent it
    told_above : (k : Key) (m : ℕ) (x : Option Packet) → m < s.traffic.members → SentBy m x → SentAt k.time x → (j : ℕ) (c : PlainCell)
        → Above (NotBefore k) j c → Above (NotBefore k) j (told_to s.traffic x j c)
    unfolding hear
    told_above k m None lt by at j c a = a
    told_above k m (Some p) lt by at j c a = hear_at_above (NotBefore k) j p (arrival_of s.traffic p j) c
        (λ t g. let f = arrival_is s.traffic p j t g in
        let away : 0 < s.traffic.distance p.id.sender j = fit.apart p.id.sender j (subst (λ n. n < s.traffic.members) (sym by) lt) f.0
        (λ e. f.1 (sym e)) in
        let later = f.2 in
        later_not_before k _ (omega arith)) a

    -- a predicate on keys that holds of all that is pending, and of all keys of later times, holds of what is pending
    -- after the step
    told_above_by : (P : Key → Type 0) (t m : ℕ) (x : Option Packet) → ((k : Key) → t < k.time → P k) → m < s.traffic.members → SentBy m x
        → SentAt t x → (j : ℕ) (c : PlainCell) → Above P j c → Above P j (told_to s.traffic x j c)
    unfolding hear
    told_above_by P t m None later lt by at j c a = a
    told_above_by P t m (Some p) later lt by at j c a = hear_at_above P j p (arrival_of s.traffic p j) c
        (λ u g. let f = arrival_is s.traffic p j u g in
        let away : 0 < s.traffic.distance p.id.sender j = fit.apart p.id.sender j (subst (λ n. n < s.traffic.members) (sym by) lt) f.0
        (λ e. f.1 (sym e)) in
        let arrives = f.2 in
        later _ (omega arith)) a

    pub member_below : (cs : List PlainCell) (e : Event) (d : Stepped) → Good cs → before till (least_event 0 cs) ≡ Some e
        → step_at (Some e) ≡ Done d → e.key.member < s.traffic.members
    member_below cs e d good h x = let f = step_facts cs e d h x in subst (λ n. e.key.member < n) good.members
        (get_below cs e.key.member f.cell f.here)

    pub above_step : (P : Key → Type 0) (cs : List PlainCell) (e : Event) (d : Stepped) → Good cs → before till (least_event 0 cs) ≡ Some e
        → step_at (Some e) ≡ Done d → ((k : Key) → e.key.time < k.time → P k)
        → Above P e.key.member d.cell → ((j : ℕ) (c : PlainCell) → slice_get cs j ≡ Some c → j ≢ e.key.member → Above P j c)
        → EachCell (Above P) (cells_after s e.key.member d 0 cs)
    above_step P cs e d good h x later mine all =
        let f = step_facts cs e d h x in
        each_after s (Above P) cs e.key.member d mine (λ j c g ne. told_above_by P e.key.time e.key.member d.row.sent later
        (member_below cs e d good h x) f.sender f.sent_at j c (all j c g ne))

    pub above_after : (cs : List PlainCell) (e : Event) (d : Stepped) → Good cs → before till (least_event 0 cs) ≡ Some e → step_at (Some e)
        ≡ Done d → EachCell (Above (NotBefore e.key)) (cells_after s e.key.member d 0 cs)
    above_after cs e d good h x =
        let f = step_facts cs e d h x in
        let all = above_all cs e good h in
        let m = e.key.member in
        let lt : m < s.traffic.members = subst (λ n. m < n) good.members (get_below cs m f.cell f.here) in
        let a = subst (OnEvent (IsAbove (NotBefore e.key) m)) f.event
        (before_on (IsAbove (NotBefore e.key) m) till (next_event m f.cell)
        (next_above (NotBefore e.key) m f.cell (all m f.cell f.here))) in
        each_after s (Above (NotBefore e.key)) cs m d
        (subst (OnStep (λ d. Above (NotBefore e.key) m d.cell)) x
        (step_above (NotBefore e.key) m e.key.time (later_not_before e.key) e refl a.1))
        (λ j c g ne. told_above e.key m d.row.sent lt f.sender f.sent_at j c (all j c g))

    -- the first row, if any, is not before k
    FirstFrom : Key → List Row → Type 0
    FirstFrom k [] = Unit {0}
    FirstFrom k (r ∷ rs) = NotBefore k r.key

    seq_from : {cs ds : List PlainCell} {rows : List Row} (k : Key) → Seq s till cs rows ds → EachCell (Above (NotBefore k)) cs
        → FirstFrom k rows
    unfolding FirstFrom
    seq_from k rest a = tt
    seq_from k (next {cs = cs} {e = e} {d = d} h x more) a =
        let f = step_facts cs e d h x in
        let m = e.key.member in
        let b = subst (OnEvent (IsAbove (NotBefore k) m)) f.event
        (before_on (IsAbove (NotBefore k) m) till (next_event m f.cell) (next_above (NotBefore k) m f.cell (a m f.cell f.here))) in
        subst (NotBefore k) (sym f.key) b.0

    first_place : (r : Row) (rows : List Row) → FirstFrom r.key rows → place row_cmp r rows ≡ r ∷ rows
    unfolding FirstFrom
    first_place r [] h = refl
    first_place r (q ∷ rows) h = rw h

    -- so the rows of the sequential run are in order
    pub seq_ordered : {cs ds : List PlainCell} {rows : List Row} → Seq s till cs rows ds → Good cs → ordered row_cmp rows ≡ rows
    seq_ordered rest good = refl
    seq_ordered (next {cs = cs} {e = e} {d = d} {rows = rows} h x more) good =
        let f = step_facts cs e d h x in
        ap (place row_cmp d.row) (seq_ordered more (good_step cs e d good h x))
        ∙ first_place d.row rows (subst (λ k. FirstFrom k rows) (sym f.key) (seq_from e.key more (above_after cs e d good h x)))

  -- ---- worlds of the sequential run

  pub run_seq : (n : ℕ) (w v : World) → run s n w ≡ Done v → (rows : List Row) × Seq s s.traffic.until w.cells rows v.cells
      × (length rows ≡ n)
  unfolding run
  run_seq zero w v h = let e : w ≡ v = cc in ([], subst (λ (u : World). Seq s s.traffic.until w.cells [] u.cells) e rest, refl)
  run_seq (suc n) w v h =
      let r = run_begins s n w v h in
      let g = run_seq n (record { cells = cells_after s r.0.key.member r.1 0 w.cells; trace = w.trace ++ r.1.row ∷ [] }) v r.3 in
      (r.1.row ∷ g.0, next r.2.least r.2.stepped g.1, ap suc g.2)

  opening_tidy : (n i : ℕ) → i + n ≡ s.traffic.members → (j : ℕ) (c : PlainCell) → slice_get (opening_cells s n i) j ≡ Some c → IsTidy c
  unfolding opening_cells
  opening_tidy zero i e j c h = cc
  opening_tidy (suc n) i e zero c h = subst IsTidy (same_Some _ _ h)
      (record { flights = tt; marks = rises mark_cmp mark_total (s.script i) (fit.scripts i (omega arith)) })
  opening_tidy (suc n) i e (suc j) c h = opening_tidy n (suc i) (omega arith) j c h

  opening_sound : (n i j : ℕ) (c : PlainCell) → slice_get (opening_cells s n i) j ≡ Some c → SoundHeld c.holds
  unfolding opening_cells
  opening_sound zero i j c h = cc
  opening_sound (suc n) i zero c h = subst (λ (b : PlainCell). SoundHeld b.holds) (same_Some _ _ h)
      (record { asks = tt; answers = tt; listener = λ l. (refl, refl) })
  opening_sound (suc n) i (suc j) c h = opening_sound n (suc i) j c h

  pub good_opening : Good (opening s).cells
  unfolding opening
  good_opening = grind (arith, length_opening, opening_tidy, opening_sound)

  pub good_reached : (n : ℕ) (w : World) → run s n (opening s) ≡ Done w → Good w.cells
  good_reached n w h = good_seq s.traffic.until (run_seq n (opening s) w h).1 good_opening

  -- ---- windows

  module _ (start till : ℕ) where
    abbrev FromTime : Key → Type 0
    FromTime k = start ≤ k.time

    module _ (m : ℕ) (lt : m < s.traffic.members) (far : (b : ℕ) → b < s.traffic.members → b ≢ m → till ≤ start + s.traffic.distance m b)
      where
        sends_late : (t : ℕ) (r : Row) → start ≤ t → SentBy m r.sent → SentAt t r.sent → SendsLate s till r
        sends_late t r from by at p e j a g = grind arith

        pub own_late : (n : ℕ) (c : PlainCell) → Above FromTime m c → AllSendLate s till (own_rows till m n c)
        unfolding own_rows own_step
        own_late zero c a = tt
        own_late (suc n) c a = subst (AllSendLate s till) (sym (rows_first till m n c))
            (by_event (λ b h. own_late n b h) (before till (next_event m c)) refl)
          where
            by_event : ((b : PlainCell) → Above FromTime m b → AllSendLate s till (own_rows till m n b)) → (o : Option Event)
                → before till (next_event m c) ≡ o → AllSendLate s till (rows_by till m n (own_step till m c))
            by_event again None h = subst (λ o. AllSendLate s till (rows_by till m n (step_at o))) (sym h) tt
            by_event again (Some e) h =
                let b = subst (OnEvent (IsAbove FromTime m)) h
                (before_on (IsAbove FromTime m) till (next_event m c) (next_above FromTime m c a)) in
                let from : start ≤ e.key.time = b.0 in
                let of_m : e.key.member ≡ m = subst (IsOf m) h (before_of m till (next_event m c) (next_event_of m c)) in
                subst (λ o. AllSendLate s till (rows_by till m n (step_at o))) (sym h)
                (elim (step_at (Some e)) as (λ o. step_at (Some e) ≡ o → AllSendLate s till (rows_by till m n (step_at (Some e)))) [
                  | Idle ↦ λ x. subst (λ o. AllSendLate s till (rows_by till m n o)) (sym x) tt
                  | Full ↦ λ x. subst (λ o. AllSendLate s till (rows_by till m n o)) (sym x) tt
                  | Spent ↦ λ x. subst (λ o. AllSendLate s till (rows_by till m n o)) (sym x) tt
                  | Done d ↦ λ x. subst (λ o. AllSendLate s till (rows_by till m n o)) (sym x) (
                    sends_late e.key.time d.row from (subst (IsStepOf m) x (step_at_of m (Some e) of_m)).1
                        (subst (OnStep (RowOf e.key)) x (row_step e)).1,
                    again d.cell (subst (OnStep (λ d. Above FromTime m d.cell)) x
                        (step_above FromTime m e.key.time (λ k l. omega arith) e refl b.1)),
                  )
                ] refl)

  pub above_time : (k : Key) (m : ℕ) (c : PlainCell) → Above (NotBefore k) m c → Above (λ l. k.time ≤ l.time) m c
  above_time k m c a = above_weaker (NotBefore k) (λ l. k.time ≤ l.time) (λ l h. not_before_time k l h) m c a

  -- a window from the least pending time is safe, where it is no wider than any distance
  pub window_safe : (cs : List PlainCell) → Good cs → (until : ℕ) (e : Event) → before until (least_event 0 cs) ≡ Some e → (width till : ℕ)
      → till ≤ e.key.time + width →
      ((a b : ℕ) → a < s.traffic.members → b < s.traffic.members → a ≢ b → width ≤ s.traffic.distance a b) → Safe s till cs
  window_safe cs good until e h width till within wide m c g n =
      let lt = subst (λ k. m < k) good.members (get_below cs m c g) in
      own_late e.key.time till m lt (λ b bl ne. let w = wide m b lt bl (λ q. ne (sym q)) in omega arith) n c
      (above_time e.key m c (above_all until cs e good h m c g))

  -- ---- promises

  silent_late : (till m n : ℕ) (c : PlainCell) → Silent c.holds → AllSendLate s till (own_rows till m n c)
  unfolding own_rows own_step
  silent_late till m zero c h = tt
  silent_late till m (suc n) c h = subst (AllSendLate s till) (sym (rows_first till m n c))
      (by_event (λ b g. silent_late till m n b g) (before till (next_event m c)) refl)
    where
      by_event : ((b : PlainCell) → Silent b.holds → AllSendLate s till (own_rows till m n b)) → (o : Option Event)
          → before till (next_event m c) ≡ o → AllSendLate s till (rows_by till m n (own_step till m c))
      by_event again None q = subst (λ o. AllSendLate s till (rows_by till m n (step_at o))) (sym q) tt
      by_event again (Some e) q =
          let taken = subst (OnEvent (Taken c)) q (before_on (Taken c) till (next_event m c) (next_taken m c)) in
          subst (λ o. AllSendLate s till (rows_by till m n (step_at o))) (sym q)
          (elim (step_at (Some e)) as (λ o. step_at (Some e) ≡ o → AllSendLate s till (rows_by till m n (step_at (Some e)))) [
            | Idle ↦ λ x. subst (λ o. AllSendLate s till (rows_by till m n o)) (sym x) tt
            | Full ↦ λ x. subst (λ o. AllSendLate s till (rows_by till m n o)) (sym x) tt
            | Spent ↦ λ x. subst (λ o. AllSendLate s till (rows_by till m n o)) (sym x) tt
            | Done d ↦ λ x.
                let f = subst (OnStep SentNothing) x (silent_step e (rest_silent c e taken h)) in
                subst (λ o. AllSendLate s till (rows_by till m n o)) (sym x)
                ((λ p sent j a g. let no : Some p ≡ None = sym sent ∙ f.0 in cc), again d.cell f.1)
          ] refl)

  idle_late : (till m n : ℕ) (c : PlainCell) → next_event m c ≡ None → AllSendLate s till (own_rows till m n c)
  unfolding own_rows own_step
  idle_late till m zero c h = tt
  idle_late till m (suc n) c h = subst (AllSendLate s till) (sym (rows_first till m n c))
      (subst (λ o. AllSendLate s till (rows_by till m n (step_at (before till o)))) (sym h) tt)

  -- an end that no member's next event, with the way from it to any other, falls short of is safe
  pub promise_safe : (cs : List PlainCell) → Good cs → (till : ℕ)
      → ((m : ℕ) (c : PlainCell) (e : Event) → slice_get cs m ≡ Some c → next_event m c ≡ Some e → Silent c.holds
      ⊎ ((b : ℕ) → b < s.traffic.members → b ≢ m → till ≤ e.key.time + s.traffic.distance m b))
      → Safe s till cs
  promise_safe cs good till promise m c g n = elim (next_event m c) as (λ o. next_event m c ≡ o
      → AllSendLate s till (own_rows till m n c)) [
        | None ↦ λ h. idle_late till m n c h
        | Some e ↦ λ h. elim (promise m c e g h) [
          | inl q ↦ silent_late till m n c q
          | inr far ↦
              let least : Least e.key (next_event m c) = subst (Least e.key) (sym h) (from_refl key_cmp key_total e.key) in
              own_late e.key.time till m (subst (λ k. m < k) good.members (get_below cs m c g)) far n c
              (above_time e.key m c (above_least e.key m c (good.tidy m c g) least))
        ]
      ] refl
