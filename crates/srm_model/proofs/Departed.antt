-- Members that left, in the worlds of the sequential run: nothing is pending at a record that is gone.
use Rattle.std.proofs.Common.{◌≡◌, ◌≢◌, ℕ, zero, suc, ◌<◌, ◌≤◌, ◌+◌, List, refl, sym, subst, inl, inr, arith, Option, Some, None}
use Rattle.std.proofs.Common.{slice_get, zero-add, add-zero, ◌⊎◌}
use Rattle.std.proofs.lemmas.Option.{same_Some}
use Rattle.srm_net.specs.declared.packet.Packet.{Packet}
use Rattle.srm_member.specs.declared.row.Row.{Row}
use Rattle.srm_cell.specs.Setting.{Setting, IsFit, arrival_of}
use Rattle.srm_cell.specs.Cells.{PlainCell, hear_at, hear, Event, next_event, before, Spent, Done, Stepped, step_at}
use Rattle.srm_cell.specs.OwnRuns.{told_to}
use Rattle.srm_cell.proofs.CellSteps.{SentBy, before_some}
use Rattle.srm_cell.proofs.Rising.{OnEvent, Above, IsAbove, next_above, SentAt}
use Rattle.srm_cell.proofs.Tidy.{arrival_up_to}
use Rattle.srm_cell.proofs.Counts.{above_weaker}
use Rattle.srm_cell.proofs.Leaving.{IsActive, Stays, stays_step, stays_hear_at, left_at, not_spent, rest_active}
use Rattle.srm_model.specs.World.{World, cells_after, least_event, opening, opening_cells, run}
use Rattle.srm_model.proofs.RunLemmas.{Seq, rest, next, shifted, least_from}
use Rattle.srm_model.proofs.Sequential.{Good, StepFacts, step_facts, good_step, above_after, above_time}
use Rattle.srm_model.proofs.Settled.{EachCell, each_after}
use Rattle.srm_model.proofs.Sequential.{member_below, good_opening, run_seq}
use Rattle.srm_member.specs.Record.{MemberState}

module _ (s : Setting) (fit : IsFit s) where
  -- a member that is gone left at a time before which nothing is pending
  abbrev Past : List PlainCell → ℕ → Option MemberState → Type 0
  Past cs j (Some m) = Unit {0}
  Past cs j None = (t : ℕ) × (s.traffic.leave j ≡ Some t) × EachCell (Above (λ k. t ≤ k.time)) cs

  pub record Stable (cs : List PlainCell) : Type 0 where
    pub good : Good s fit cs
    pub stays : EachCell (λ j c. Stays (s.traffic.leave j) c) cs
    pub past : EachCell (λ j c. Past cs j c.holds) cs

  past_active : (cs : List PlainCell) (j : ℕ) (r : Option MemberState) → IsActive r → Past cs j r
  past_active cs j (Some m) h = tt
  past_active cs j None h = absurd h

  past_gone : (cs : List PlainCell) (j : ℕ) (r : Option MemberState) → (t : ℕ) × (s.traffic.leave j ≡ Some t)
      × EachCell (Above (λ k. t ≤ k.time)) cs → Past cs j r
  past_gone cs j (Some m) h = tt
  past_gone cs j None h = h

  hear_at_holds : (p : Packet) (o : Option ℕ) (c : PlainCell) → (hear_at p o c).holds ≡ c.holds
  hear_at_holds p None c = refl
  hear_at_holds p (Some at) c = refl

  pub told_holds : (x : Option Packet) (m : ℕ) (c : PlainCell) → (told_to s.traffic x m c).holds ≡ c.holds
  unfolding hear
  told_holds None m c = refl
  told_holds (Some p) m c = hear_at_holds p (arrival_of s.traffic p m) c

  module _ (till : ℕ) (cs : List PlainCell) (e : Event) (d : Stepped) (stable : Stable cs) (h : before till (least_event 0 cs) ≡ Some e)
      (x : step_at (Some e) ≡ Done d) where
    abbrev m : ℕ
    m = e.key.member

    abbrev after : List PlainCell
    after = cells_after s m d 0 cs

    facts : StepFacts s fit till cs e d
    facts = step_facts s fit till cs e d h x

    next_is : next_event m facts.cell ≡ Some e
    next_is = (before_some till (next_event m facts.cell) e facts.event).0

    below : m < s.traffic.members
    below = member_below s fit till cs e d stable.good h x

    all_after : EachCell (Above (λ k. e.key.time ≤ k.time)) after
    all_after j c g = above_time s fit e.key j c (above_after s fit till cs e d stable.good h x j c g)

    -- the event is pending, and so not before a leave
    event_after : (t : ℕ) → EachCell (Above (λ k. t ≤ k.time)) cs → t ≤ e.key.time
    event_after t all = (subst (OnEvent (IsAbove (λ k. t ≤ k.time) m)) next_is
        (next_above (λ k. t ≤ k.time) m facts.cell (all m facts.cell facts.here))).0

    still_after : (t : ℕ) → EachCell (Above (λ k. t ≤ k.time)) cs → EachCell (Above (λ k. t ≤ k.time)) after
    still_after t all j c g =
        let from = event_after t all in
        above_weaker (λ k. e.key.time ≤ k.time) (λ k. t ≤ k.time) (λ k le. omega arith) j c (all_after j c g)

    mine_past : (IsActive d.cell.holds ⊎ (s.traffic.leave m ≡ Some e.key.time)) → Past after m d.cell.holds
    mine_past (inl a) = past_active after m d.cell.holds a
    mine_past (inr left) = past_gone after m d.cell.holds (e.key.time, left, all_after)

    kept_past : (j : ℕ) (r : Option MemberState) → Past cs j r → Past after j r
    kept_past j (Some k) p = tt
    kept_past j None p = (p.0, p.1, still_after p.0 p.2)

    -- a member that is gone is handed nothing more
    handed_active : (j : ℕ) (r : Option MemberState) → Past cs j r → (p : Packet) → p.id.sender ≡ m → p.sent ≡ e.key.time → (at : ℕ)
        → arrival_of s.traffic p j ≡ Some at → IsActive r
    handed_active j r past p by sent at a = grind (arith, below, event_after)

    told_stays : (y : Option Packet) → SentBy m y → SentAt e.key.time y → (j : ℕ) (c : PlainCell) → Stays (s.traffic.leave j) c
        → Past cs j c.holds → Stays (s.traffic.leave j) (told_to s.traffic y j c)
    unfolding hear
    told_stays None by at j c stays past = stays
    told_stays (Some p) by at j c stays past = stays_hear_at (s.traffic.leave j) p (arrival_of s.traffic p j) c
        (λ t a. (arrival_up_to s.traffic p j t a, handed_active j c.holds past p by at t a)) stays

    pub stable_step : Stable after
    stable_step =
        let c = facts.cell in
        let stays = stable.stays m c facts.here in
        record {
          good = good_step s fit till cs e d stable.good h x;
          stays = each_after s (λ j c. Stays (s.traffic.leave j) c) cs m d
              (stays_step (s.traffic.leave m) m c e d (stable.good.tidy m c facts.here) stays next_is x)
              (λ j b g ne. told_stays d.row.sent facts.sender facts.sent_at j b (stable.stays j b g) (stable.past j b g));
          past = each_after s (λ j c. Past after j c.holds) cs m d
              (mine_past (left_at (s.traffic.leave m) m c e d stays next_is x))
              (λ j b g ne. subst (Past after j) (sym (told_holds d.row.sent j b)) (kept_past j b.holds (stable.past j b g)));
        }

  pub stable_seq : {till : ℕ} {cs ds : List PlainCell} {rows : List Row} → Seq s till cs rows ds → Stable cs → Stable ds
  stable_seq rest stable = stable
  stable_seq {till} (next {cs = cs} {e = e} {d = d} h x more) stable = stable_seq more (stable_step till cs e d stable h x)

  opening_stays : (n i : ℕ) → i + n ≡ s.traffic.members → (j : ℕ) (c : PlainCell) → slice_get (opening_cells s n i) j ≡ Some c
      → Stays (s.traffic.leave (i + j)) c
  unfolding opening_cells
  opening_stays zero i e j c h = cc
  opening_stays (suc n) i e zero c h = subst (Stays (s.traffic.leave (i + 0))) (same_Some _ _ h) (record {
    flights = tt;
    marks = rw add-zero (fit.leaves i (omega arith));
    ranks = fit.ranks i (omega arith);
    over = tt;
  })
  opening_stays (suc n) i e (suc j) c h = rw (shifted i j) (opening_stays n (suc i) (omega arith) j c h)

  opening_active : (n i j : ℕ) (c : PlainCell) → slice_get (opening_cells s n i) j ≡ Some c → IsActive c.holds
  unfolding opening_cells
  opening_active zero i j c h = cc
  opening_active (suc n) i zero c h = subst (λ (b : PlainCell). IsActive b.holds) (same_Some _ _ h) tt
  opening_active (suc n) i (suc j) c h = opening_active n (suc i) j c h

  pub stable_opening : Stable (opening s).cells
  unfolding opening
  stable_opening = record {
    good = good_opening s fit;
    stays = λ j c g. rw zero-add at (opening_stays s.traffic.members 0 (zero-add s.traffic.members) j c g);
    past = λ j c g. past_active (opening_cells s s.traffic.members 0) j c.holds (opening_active s.traffic.members 0 j c g);
  }

  pub stable_reached : (n : ℕ) (w : World) → run s n (opening s) ≡ Done w → Stable w.cells
  stable_reached n w h = stable_seq (run_seq s fit n (opening s) w h).1 stable_opening

  -- the least event of such a world is one of an active record
  pub least_not_spent : (till : ℕ) (cs : List PlainCell) (e : Event) → Stable cs → before till (least_event 0 cs) ≡ Some e
      → step_at (Some e) ≢ Spent
  least_not_spent till cs e stable h x =
      let r = least_from till 0 cs e h in
      let q = (before_some till (next_event (0 + r.0) r.1) e r.3).0 in
      not_spent e (rest_active (s.traffic.leave r.0) (0 + r.0) r.1 (stable.stays r.0 r.1 r.2) e q) x
