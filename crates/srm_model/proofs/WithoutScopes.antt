-- In a run in which no member has a scope all is wide.
use Rattle.std.proofs.Common.{◌≡◌, ◌≢◌, ℕ, zero, suc, ◌+◌, ◌==◌, false, List, [], ◌∷◌, ◌++◌, refl, sym, ◌∙◌, subst, inl, inr}
use Rattle.std.proofs.Common.{arith, Option, Some, None, slice_get, get_or}
use Rattle.std.proofs.lemmas.Option.{same_Some, slice_get-get_or}
use Rattle.srm_net.specs.declared.packet.Packet.{Packet}
use Rattle.srm_member.specs.declared.cause.Cause.{Cause}
use Rattle.srm_member.specs.declared.cause.Cause.TheVariants.{Join, Arrival, Ask, Answer, Draw, Report}
use Rattle.srm_member.proofs.AllIn.{AllIn}
use Rattle.srm_member.proofs.WideProofs.{members_begin_wide, members_stay_wide}
use Rattle.srm_member.specs.declared.exit.Exit.{Exit}
use Rattle.srm_member.specs.declared.row.Row.{Row}
use Rattle.srm_member.specs.LocalLaws.{IsWide, BringsNoScope, GoesToAll}
use Rattle.srm_member.specs.Record.{MemberState}
use Rattle.srm_member.specs.React.{react}
use Rattle.srm_cell.specs.Setting.{Setting, IsFit}
use Rattle.srm_cell.specs.Cells.{PlainCell, Event, Stepped, Done, before}
use Rattle.srm_model.specs.World.{World, cells_after, least_event, opening, opening_cells, run}
use Rattle.srm_model.specs.Handed.{SentIn}
use Rattle.srm_model.specs.WithoutScopes.{HasNoScopes, KnowsWide, IsForAll, IsWideCell, AllIsWide}
use Rattle.srm_model.proofs.Departed.{told_holds}
use Rattle.srm_model.proofs.HandedOnce.{all_contained, IsFlight}
use Rattle.srm_model.proofs.NamesKept.{CellKnows, Names, names_step, names_reached, sent_body, sends_none}
use Rattle.srm_model.proofs.OneStep.{Takes, IsPending, Answers, Steps, StepFacts, step_facts, least_pends, arrival_is}
use Rattle.srm_model.proofs.OneStep.{each_after, run_keeps}
use Rattle.srm_model.proofs.SentForLost.{in_place, reached_first}
use Rattle.srm_model.proofs.Settled.{EachCell}
use Rattle.srm_model.proofs.TraceRows.{contains_none, sent_cases}

module _ (s : Setting) (fit : IsFit s) where
  pub record Wide (cs : List PlainCell) (trace : List Row) : Type 0 where
    pub names : Names s fit cs trace
    pub knows : EachCell (λ j c. KnowsWide c.holds) cs
    pub sent : (p : Packet) → SentIn p trace → IsForAll p

  -- ---- the least event

  module _ (cs : List PlainCell) (trace : List Row) (was : Wide cs trace) (e : Event)
      (least : before s.traffic.until (least_event 0 cs) ≡ Some e) where
    abbrev m : ℕ
    m = e.key.member

    abbrev pends : (c : PlainCell) × (slice_get cs m ≡ Some c) × IsPending m c e
    pends = least_pends s.traffic.until cs e least

    -- a packet that arrives goes to all, and is another member's
    arrived : (p : Packet) → e.cause ≡ Some (Arrival p) → IsForAll p × (m ≢ p.id.sender)
    arrived p arrives = by pends.2.takes
      where
        same_packet : (x y : Packet) → Some (Arrival x) ≡ Some (Arrival y) → x ≡ y
        same_packet x y h = cc

        by : Takes pends.0 e → IsForAll p × (m ≢ p.id.sender)
        by (inl t) =
            let f = (subst (AllIn (IsFlight s trace m)) t.inbox (was.names.handed.flights m pends.0 pends.1)).0 in
            subst (λ x. IsForAll x × (m ≢ x.id.sender)) (same_packet _ _ (sym t.cause ∙ arrives))
            (was.sent t.flight.packet f.0, (arrival_is s t.flight.packet m t.flight.arrival f.1).1)
        by (inr t) = absurd (t.1 p arrives)

    state_member : (k : MemberState) → e.rest.holds ≡ Some k → k.fixed.member ≡ m
    state_member k h = by pends.0.exit (subst (λ r. CellKnows trace m r pends.0.exit) (sym pends.2.holds ∙ h)
        (was.names.knows m pends.0 pends.1))
      where
        by : (exit : Option Exit) → CellKnows trace m (Some k) exit → k.fixed.member ≡ m
        by None knows = knows.member
        by (Some x) knows = absurd knows

    differs : (a b c : ℕ) → c ≡ b → b ≢ a → (a == c) ≡ false
    differs a b c h ne = grind arith

    pub state_wide : (k : MemberState) → e.rest.holds ≡ Some k → IsWide k
    state_wide k h = subst KnowsWide (sym pends.2.holds ∙ h) (was.knows m pends.0 pends.1)

    pub state_brings : (k : MemberState) → e.rest.holds ≡ Some k → (cause : Cause) → e.cause ≡ Some cause → BringsNoScope k.fixed cause
    state_brings k h (Arrival p) is =
        let a = arrived p is in (a.0, differs p.id.sender m k.fixed.member (state_member k h) a.1)
    state_brings k h Join is = tt
    state_brings k h (Ask n) is = tt
    state_brings k h (Answer n) is = tt
    state_brings k h (Draw page ink) is = tt
    state_brings k h Report is = tt

  -- ---- after a step

  module _ (cs : List PlainCell) (trace : List Row) (e : Event) (d : Stepped) (was : Wide cs trace) (steps : Steps s.traffic.until cs e d)
    where
      abbrev facts : StepFacts cs e d
      facts = step_facts s.traffic.until cs e d steps

      answers : (a : Answers e d) → IsWide (react a.state e.key.time a.cause).state
          × GoesToAll (react a.state e.key.time a.cause).answer.body
      answers a = members_stay_wide a.state e.key.time a.cause (state_wide cs trace was e steps.least a.state a.holds)
          (state_brings cs trace was e steps.least a.state a.holds a.cause a.is)

      now_knows : KnowsWide d.cell.holds
      now_knows = elim facts.does.how [
        | inl a ↦ subst KnowsWide (sym a.holds_then) (answers a).0
        | inr l ↦ subst KnowsWide (sym l.holds_then) tt
      ]

      now_sent : (p : Packet) → d.row.sent ≡ Some p → IsForAll p
      now_sent p sent = elim facts.does.how [
        | inl a ↦ subst GoesToAll (sent_body e (react a.state e.key.time a.cause).answer.body d p a.sends sent).0 (answers a).1
        | inr l ↦ absurd (sends_none e d None refl l.sends p sent)
      ]

      wide_step : Wide (cells_after s e.key.member d 0 cs) (trace ++ d.row ∷ [])
      wide_step = record {
        names = names_step s fit cs trace e d was.names steps;
        knows = each_after s (λ j c. KnowsWide c.holds) cs e.key.member d now_knows
            (λ j c g ne. subst KnowsWide (sym (told_holds s fit d.row.sent j c)) (was.knows j c g));
        sent = λ p h. elim (sent_cases p trace d.row h) [ inl g ↦ was.sent p g | inr g ↦ now_sent p g ];
      }

  -- ---- the sequential run

  opening_knows : (n i : ℕ) → i + n ≡ s.traffic.members → HasNoScopes s → (j : ℕ) (c : PlainCell)
      → slice_get (opening_cells s n i) j ≡ Some c → KnowsWide c.holds
  unfolding opening_cells
  opening_knows zero i e none j c h = cc
  opening_knows (suc n) i e none zero c h = subst (λ (x : PlainCell). KnowsWide x.holds) (same_Some _ _ h)
      (members_begin_wide (s.fixed i) (none i (omega arith)))
  opening_knows (suc n) i e none (suc j) c h = opening_knows n (suc i) (omega arith) none j c h

  pub wide_opening : HasNoScopes s → Wide (opening s).cells (opening s).trace
  unfolding opening
  wide_opening none = record {
    names = names_reached s fit (opening s) (reached_first s fit);
    knows = opening_knows s.traffic.members 0 (omega arith) none;
    sent = λ p h. absurd (contains_none h.0 h.1);
  }

  pub wide_run : (n : ℕ) (w v : World) → Wide w.cells w.trace → run s n w ≡ Done v → Wide v.cells v.trace
  wide_run n w v was h =
      run_keeps s (λ u. Wide u.cells u.trace) (λ u e d steps g. wide_step u.cells u.trace e d g steps) n w v was h

  wide_cell : (w : World) → Wide w.cells w.trace → (j : ℕ) (c : PlainCell) → slice_get w.cells j ≡ Some c → IsWideCell c
  wide_cell w h j c g = record {
    holds = h.knows j c g;
    inbox = λ i f lt.
        let x = get_or c.inbox i f in
        h.sent x.packet (all_contained (IsFlight s w.trace j) c.inbox (h.names.handed.flights j c g) x (in_place c.inbox i f lt)).0;
  }

pub all_is_wide : AllIsWide
all_is_wide s w fit none reached =
    let h = wide_run s fit reached.0 (opening s) w (wide_opening s fit none) reached.1 in
    record {
      cells = λ j c lt. wide_cell s fit w h j (get_or w.cells j c) (slice_get-get_or w.cells j c lt);
      sent = h.sent;
    }
