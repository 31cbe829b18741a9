use Rattle.std.proofs.Common.{◌≡◌, ◌∙◌, Some, drop, length, slice_get, refl, ap, sym, subst, arith}
use Rattle.std.proofs.lemmas.List.{length-drop}
use Rattle.std.proofs.lemmas.Option.{slice_get_read}
use Rattle.srm_team.specs.Relays.{RelayView}
use Rattle.srm_team.proofs.Relaying.{given_one}
use Rattle.srm_team.proofs.relay.Relay.next.Goals as goal

pub invariant_of-self-2 : goal.invariant_of-self-2
invariant_of-self-2 g c =
    let self = c.self.inside in
    let was = c.self.invariant in
    let first = given_one self.work (λ x d. g.W.Work.gives self.work x d) self.ends.front self.given c.fill_first.new.slots.items was.3
    c.in-Ok.ensures.filled c.in-Ok.ensures.some in
    let removed : c.remove-slot.new.self.items ≡ drop 1 c.fill_first.new.slots.items = c.remove-slot.ensures.items in (
      omega (arith, ap length removed, length-drop 1 c.fill_first.new.slots.items, c.in-Ok.ensures.filled.0, was.4.0, was.0),
      first.4,
      was.2,
      first.2,
      rw removed first.3,
    )

pub invariant_of-self-in_default : goal.invariant_of-self-in_default
invariant_of-self-in_default g c =
    let self = c.self.inside in
    let was = c.self.invariant in
    let first = given_one self.work (λ x d. g.W.Work.gives self.work x d) self.ends.front self.given c.fill_first.new.slots.items was.3
    c.in-Ok.ensures.filled c.in-Ok.ensures.some in
    let removed : c.remove-slot.new.self.items ≡ drop 1 c.fill_first.new.slots.items = c.remove-slot.ensures.items in (
      omega (arith, ap length removed, length-drop 1 c.fill_first.new.slots.items, c.in-Ok.ensures.filled.0, was.4.0, was.0),
      first.4,
      was.2,
      first.2,
      rw removed first.3,
    )

pub returns-clause-given : goal.returns-clause-given
returns-clause-given g c =
    let self = c.self.inside in
    let was = c.self.invariant in
    let first = given_one self.work (λ x d. g.W.Work.gives self.work x d) self.ends.front self.given c.fill_first.new.slots.items was.3
    c.in-Ok.ensures.filled c.in-Ok.ensures.some in
    let there : slice_get c.fill_first.new.slots.items 0 ≡ Some (Some c.in-Some.done) =
    slice_get_read c.fill_first.new.slots.items (length c.fill_first.new.slots.items) 0 (Some c.in-Some.done) refl c.in-Ok.ensures.some
    c.in-Some.ensures.value in (
      first.0,
      ap (λ (v : RelayView _ _). v.under_way) (sym c.self.view_is) ∙ first.1,
      subst (λ w. g.W.Work.gives w first.0 c.in-Some.done) (ap (λ (v : RelayView _ _). v.work) c.self.view_is)
          (first.5 c.in-Some.done there),
    )

pub returns-clause-within : goal.returns-clause-within
returns-clause-within g c =
    let self = c.self.inside in
    let was = c.self.invariant in
    let first = given_one self.work (λ x d. g.W.Work.gives self.work x d) self.ends.front self.given c.fill_first.new.slots.items was.3
    c.in-Ok.ensures.filled c.in-Ok.ensures.some in
    omega (arith, ap length first.1, c.in-Ok.ensures.filled.0, was.4.0, was.0)

pub returns-in_default-clause-within : goal.returns-in_default-clause-within
returns-in_default-clause-within g c =
    let self = c.self.inside in
    let was = c.self.invariant in
    let first = given_one self.work (λ x d. g.W.Work.gives self.work x d) self.ends.front self.given c.fill_first.new.slots.items was.3
    c.in-Ok.ensures.filled c.in-Ok.ensures.some in
    omega (arith, ap length first.1, c.in-Ok.ensures.filled.0, was.4.0, was.0)
