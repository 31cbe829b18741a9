-- A packet that a step sends is new to every cell.
use Rattle.std.proofs.Common.{◌≡◌, ◌≢◌, ℕ, ◌<◌, true, false, List, [], ◌∷◌, Option, Some, refl, sym, ap, ◌∙◌, subst, slice_get, slice_set}
use Rattle.std.proofs.Common.{◌==◌, eqb-true, arith}
use Rattle.std.proofs.lemmas.Bool.{eqb-false}
use Rattle.srm_net.specs.declared.packet.Packet.{Packet}
use Rattle.srm_net.specs.declared.packet.PacketId.{PacketId}
use Rattle.srm_cell.specs.declared.flight.Flight.{Flight}
use Rattle.srm_cell.specs.Setting.{Setting, IsFit}
use Rattle.srm_cell.specs.Flights.{BringsNone}
use Rattle.srm_cell.specs.Cells.{PlainCell, Event, before, Done, Stepped, step_at, next_event}
use Rattle.srm_cell.proofs.Rising.{OnEvent, before_on, OnStep}
use Rattle.srm_cell.proofs.CellSteps.{SentBy}
use Rattle.srm_cell.proofs.Clear.{CountAfter, StepOf, step_is_of, RestOf, next_rest, all_tail}
use Rattle.srm_member.proofs.AllIn.{AllIn}
use Rattle.srm_model.specs.World.{least_event}
use Rattle.srm_model.specs.Hearing.{IsUnheard}
use Rattle.srm_model.proofs.Sequential.{Good, step_facts, get_below}
use Rattle.srm_model.proofs.HandedOnce.{sent_of}
use Rattle.srm_model.proofs.StrictRuns.{Strict, sent_here}
use Rattle.srm_net.proofs.Lists.{get_set_same, get_set_other}
use Rattle.std.proofs.lemmas.Option.{same_Some}

abbrev WereSent : List PlainCell → List Flight → Type 0
WereSent cs fs = AllIn (λ f. f.packet.id.count < sent_of cs f.packet.id.sender) fs

apart : (cs : List PlainCell) (id : PacketId) (fs : List Flight) → id.count ≡ sent_of cs id.sender → WereSent cs fs → BringsNone id fs
apart cs id [] now a = tt
apart cs id (f ∷ fs) now a = (
  (λ e. let less : id.count < sent_of cs id.sender = subst (λ (k : PacketId). k.count < sent_of cs k.sender) e a.0 in omega arith),
  apart cs id fs now a.1,
)

sender_of : (m : ℕ) (o : Option Packet) (p : Packet) → o ≡ Some p → SentBy m o → p.id.sender ≡ m
sender_of m o p e h = subst (SentBy m) e h

count_of : (b a : ℕ) (o : Option Packet) (p : Packet) → o ≡ Some p → CountAfter b o a → p.id.count ≡ b
count_of b a o p e h = (subst (λ x. CountAfter b x a) e h).0

module _ (s : Setting) (fit : IsFit s) where
  module _ (till : ℕ) (cs : List PlainCell) (e : Event) (d : Stepped) (good : Good s fit cs) (strict : Strict s fit cs)
      (h : before till (least_event 0 cs) ≡ Some e) (x : step_at (Some e) ≡ Done d) where
    pub is_new : (p : Packet) → d.row.sent ≡ Some p → IsUnheard p.id (slice_set cs e.key.member d.cell)
    is_new p sent j q g =
        let m = e.key.member in
        let f = step_facts s fit till cs e d h x in
        let did = subst (OnStep (StepOf e)) x (step_is_of e) in
        let of = subst (OnEvent (RestOf f.cell)) f.event (before_on (RestOf f.cell) till (next_event m f.cell) (next_rest m f.cell)) in
        let sender = sender_of m d.row.sent p sent f.sender in
        let now : p.id.count ≡ sent_of cs p.id.sender = count_of e.rest.sent d.cell.sent d.row.sent p sent did.count
        ∙ sym (sent_here s fit till cs e d good strict h x) ∙ ap (sent_of cs) (sym sender) in
        elim (m == j) as (λ b. (m == j) ≡ b → BringsNone p.id q.inbox) [
          | true ↦ λ r.
              let here : m ≡ j = eqb-true m j r in
              let is : d.cell ≡ q = same_Some d.cell q (sym (get_set_same cs m d.cell (get_below cs m f.cell f.here))
              ∙ ap (slice_get (slice_set cs m d.cell)) here ∙ g) in
              subst (λ (c : PlainCell). BringsNone p.id c.inbox) is (apart cs p.id d.cell.inbox now
              (subst (WereSent cs) (sym did.inbox) (all_tail _ _ _ of.inbox (strict.fresh m f.cell f.here))))
          | false ↦ λ r.
              let ne : m ≢ j = eqb-false m j r in
              apart cs p.id q.inbox now (strict.fresh j q (sym (get_set_other cs m j d.cell ne) ∙ g))
        ] refl
