-- What a member's answer makes of an event.
use Rattle.std.proofs.Common.{arith, []}
use Rattle.std.proofs.Common.{◌≡◌, ℕ, ◌+◌, cond, Option, Some, None, Ok, Err, refl, sym, ap, ◌∙◌, subst, lt-ltb, le-ltb}
use Rattle.srm_net.specs.declared.key.Key.{Key}
use Rattle.srm_net.specs.declared.packet.Body.{Body}
use Rattle.srm_net.specs.declared.packet.Packet.{Packet}
use Rattle.srm_member.specs.declared.cause.Cause.{Cause}
use Rattle.srm_member.specs.declared.react.React.{React}
use Rattle.srm_member.specs.declared.exit.Exit.{Exit}
use Rattle.srm_member.specs.declared.fault.MemberFault.TheVariants as member
use Rattle.srm_member.specs.Record.{Record, Active, Gone}
use Rattle.srm_member.specs.React.{Reaction}
use Rattle.srm_member.specs.Reacts.{Reacts, Finishes}
use Rattle.srm_cell.specs.Cells.{PlainCell, Event, Full, Spent, Done, handle, sending_step, row_of, packet_of, known_of}
use Rattle.srm_cell.specs.declared.fault.CellFault.{CellFault}
use Rattle.srm_cell.specs.InnerSteps.{Packs}
use Rattle.srm_cell.specs.Views.{HasWork, Refuses, known_in}
use Rattle.srm_member.specs.declared.told.Told.TheVariants.{Parted}
use Rattle.srm_member.specs.declared.row.Row.{Row}

-- a member that is gone has no answer
gone_has_none : (e : Event) (c : Option Cause) → handle e None c ≡ Spent
unfolding handle
gone_has_none e c = refl

spent_is_gone : (r s : Record) (at : ℕ) (cause : Cause) → Reacts r at cause (Err member.Spent) s → known_of r ≡ None
spent_is_gone (Active m) s at cause h = absurd h
spent_is_gone (Gone f) s at cause h = refl

ended_is_gone : (r s : Record) → Finishes r (Err member.Spent) s → known_of r ≡ None
ended_is_gone (Active m) s h = absurd h
ended_is_gone (Gone f) s h = refl

-- what is known where a box was asked, or none is there
module _ {B : Type 0} (f : B → Record) (o : Option B) where
  pub no_box : (e : Event) (c : Option Cause) → None ≡ o → handle e (known_in f o) c ≡ Spent
  no_box e c q = ap (λ x. handle e (known_in f x) c) (sym q) ∙ gone_has_none e c

  module _ (b : B) (q : Some b ≡ o) where
    pub box : known_in f o ≡ known_of (f b)
    box = ap (known_in f) (sym q)

    -- where there is a box the member has not left
    pub has_box : o ≡ None → ⊥
    has_box none = let z : Some b ≡ None = q ∙ none in cc

    no_answer : (e : Event) (c : Option Cause) → known_of (f b) ≡ None → handle e (known_in f o) c ≡ Spent
    no_answer e c none = ap (λ x. handle e x c) (box ∙ none) ∙ gone_has_none e c

    -- the member leaves
    module _ (key : Key) (rest : PlainCell) where
      abbrev leave : Event
      leave = record { key = key; cause = None; rest = rest }

      abbrev farewell : Row
      farewell = row_of leave (record { told = Parted; lost = []; body = None; adapted = None }) None

      pub cannot_leave : (s : Record) → Finishes (f b) (Err member.Spent) s → handle leave (known_in f o) None ≡ Spent
      cannot_leave s h = no_answer leave None (ended_is_gone (f b) s h)

      leaves_so : (r s : Record) (x : Exit) → Finishes r (Ok x) s → handle leave (known_of r) None
          ≡ Done (record { cell = record rest { holds = None; exit = Some x }; row = farewell })
      unfolding handle
      leaves_so (Active m) s x h =
          ap (λ y. Done (record { cell = record rest { holds = None; exit = Some y }; row = farewell })) (sym h.0)
      leaves_so (Gone g) s x h = absurd h

      pub left : (s : Record) (x : Exit) → Finishes (f b) (Ok x) s → handle leave (known_in f o) None
          ≡ Done (record { cell = record rest { holds = None; exit = Some x }; row = farewell })
      left s x h = ap (λ k. handle leave k None) box ∙ leaves_so (f b) s x h

      wants_so : (r s : Record) → Finishes r (Err member.NoMemory) s → HasWork (handle leave (known_of r) None)
      unfolding handle
      wants_so (Active m) s h = tt
      wants_so (Gone g) s h = absurd h

      pub wanting_end : (s : Record) → Finishes (f b) (Err member.NoMemory) s → HasWork (handle leave (known_in f o) None)
      wanting_end s h = subst (λ k. HasWork (handle leave k None)) (sym box) (wants_so (f b) s h)

    -- the member answers
    module _ (key : Key) (cause : Cause) (rest : PlainCell) where
      abbrev asked : Event
      asked = record { key = key; cause = Some cause; rest = rest }

      pub cannot_say : (s : Record) → Reacts (f b) key.time cause (Err member.Spent) s
          → handle asked (known_in f o) (Some cause) ≡ Spent
      cannot_say s h = no_answer asked (Some cause) (spent_is_gone (f b) s key.time cause h)

      wants_to : (r s : Record) → Reacts r key.time cause (Err member.NoMemory) s → HasWork (handle asked (known_of r) (Some cause))
      unfolding handle
      wants_to r s h = grind arith

      pub wanting : (s : Record) → Reacts (f b) key.time cause (Err member.NoMemory) s
          → HasWork (handle asked (known_in f o) (Some cause))
      wanting s h = subst (λ k. HasWork (handle asked k (Some cause))) (sym box) (wants_to (f b) s h)

      works : (r s : Record) (a : React) → Reacts r key.time cause (Ok a) s → HasWork (handle asked (known_of r) (Some cause))
      unfolding handle
      works r s a h = grind arith

      pub working : (s : Record) (a : React) → Reacts (f b) key.time cause (Ok a) s
          → HasWork (handle asked (known_in f o) (Some cause))
      working s a h = subst (λ k. HasWork (handle asked k (Some cause))) (sym box) (works (f b) s a h)

      answered : (r s : Record) (a : React) → Reacts r key.time cause (Ok a) s → (y : Option Body) → a.body ≡ y
          → (x : Reaction) × (x.answer ≡ a) × (known_of s ≡ Some x.state)
          × (handle asked (known_of r) (Some cause) ≡ sending_step asked x y)
      unfolding handle
      answered r s a h y q = grind arith

      -- and sends a packet, or none
      sends : (x : Reaction) (y : Option Body) (p : Option Packet) (n : ℕ) → Packs key y rest.sent (Ok p) n
          → sending_step asked x y
          ≡ Done (record { cell = record rest { holds = Some x.state; sent = n }; row = row_of asked x.answer p })
      sends x None p n q =
          λ i. Done (record { cell = record rest { holds = Some x.state; sent = sym q.1 i }; row = row_of asked x.answer (sym q.0 i) })
      sends x (Some body) p n q =
          ap (λ t. cond t (Done (record {
            cell = record rest { holds = Some x.state; sent = rest.sent + 1 };
            row = row_of asked x.answer (Some (packet_of asked body));
          })) Full) (lt-ltb _ _ q.0)
          ∙ (λ i. Done (record { cell = record rest { holds = Some x.state; sent = sym q.1 i }; row = row_of asked x.answer (sym q.2 i) }))

      pub said : (s : Record) (a : React) (y : Option Body) (p : Option Packet) (n : ℕ) → Reacts (f b) key.time cause (Ok a) s
          → a.body ≡ y → Packs key y rest.sent (Ok p) n → handle asked (known_in f o) (Some cause)
          ≡ Done (record { cell = record rest { holds = known_of s; sent = n }; row = row_of asked a p })
      said s a y p n h is q =
          let k = answered (f b) s a h y is in
          ap (λ x. handle asked x (Some cause)) box ∙ k.3 ∙ sends k.0 y p n q
          ∙ (λ i. Done (record { cell = record rest { holds = sym k.2 i; sent = n }; row = row_of asked (k.1 i) p }))

      -- where the count is used up there is no packet
      cannot_send : (x : Reaction) (y : Option Body) (e : CellFault) (n : ℕ) → Packs key y rest.sent (Err e) n
          → Refuses (sending_step asked x y) e
      cannot_send x None e n q = absurd q
      cannot_send x (Some body) e n q =
          subst (Refuses (sending_step asked x (Some body))) (sym q.1)
          (ap (λ t. cond t (Done (record {
            cell = record rest { holds = Some x.state; sent = rest.sent + 1 };
            row = row_of asked x.answer (Some (packet_of asked body));
          })) Full) (le-ltb _ _ q.0))

      pub not_said : (s : Record) (a : React) (y : Option Body) (e : CellFault) (n : ℕ) → Reacts (f b) key.time cause (Ok a) s
          → a.body ≡ y → Packs key y rest.sent (Err e) n → Refuses (handle asked (known_in f o) (Some cause)) e
      not_said s a y e n h is q =
          let k = answered (f b) s a h y is in
          subst (λ z. Refuses z e) (sym (ap (λ x. handle asked x (Some cause)) box ∙ k.3)) (cannot_send k.0 y e n q)
