use Rattle.std.proofs.Common.{arith, ◌≡◌, ◌<◌, ◌+◌, ◌-◌, length, slice_index_or, Bool, true, false, not, T, sym, subst, ap, refl, ◌∙◌}
use Rattle.std.specs.Bool.{IsTrue}
use Rattle.std.specs.FinMap.Entries.{is_sorted}
use Rattle.srm_net.specs.Names.{name_cmp}
use Rattle.srm_net.proofs.TotalOrders.{name_total, tied_names}
use Rattle.srm_member.specs.Places.{is_before, IsPlaceOf}
use Rattle.srm_member.proofs.NameTests.{name_lt}
use Rattle.srm_member.proofs.PlaceLemmas.{place_between}
use Rattle.srm_member.proofs.rising.Rising.is_between.Goals as goal
use Rattle.srm_member.proofs.rising.Rising.is_between.Goals.{in-Some, in-None, in-Some-first, in-None-first}

is_false : {a : Bool} (b : Bool) → IsTrue a → a ≡ not b → b ≡ false
is_false true h g = cc
is_false false h g = refl

pub returns-then-follows : goal.returns-then-follows
returns-then-follows g c =
    let name = c.args.name in
    let es = c.as_slice.result.now in
    let place = c.args.place in
    let split = c.split_at.ensures in
    let same : place + 0 ≡ place = omega arith in
    let within = c.as_slice.ensures.value ∙ c.self.view_is in
    let sorted = subst (λ xs. T (is_sorted name_cmp xs)) (sym c.as_slice.ensures.value) c.self.invariant in
    let below : 0 < place → (d : _) × (is_before name_cmp name (slice_index_or es (place - 1) d) ≡ true) =
    elim c.match-last.branch [
      | in-Some w ↦ λ some.
          let entry = w.in-Some.entry.now in
          let at = w.in-Some.ensures.item.1
          ∙ (λ i. slice_index_or c.split_at.result.0.now (split.front_len i - 1) entry)
          ∙ split.by_index.1 (place - 1) entry (omega arith) in (
            entry,
            subst (λ e. is_before name_cmp name e ≡ true) at
                (sym (name_lt entry.0 name) ∙ sym w.lt-follows.ensures ∙ sym w.follows-is ∙ c.if-follows.true),
          )
      | in-None w ↦ λ some. absurd (let none = w.in-None.ensures.item.3 in let len = split.front_len in omega arith)
    ] in (
      λ leads.
          let above : place < length es → (d : _) × (is_before name_cmp name (slice_index_or es place d) ≡ false) =
          elim c.match-first.branch [
            | in-Some-first w ↦ λ some.
                let entry = w.in-Some-first.entry.now in
                let at = w.in-Some-first.ensures.item.1 ∙ split.by_index.2 0 entry ∙ (λ i. slice_index_or es (same i) entry) in (
                  entry,
                  subst (λ e. is_before name_cmp name e ≡ false) at
                      (sym (name_lt entry.0 name) ∙ sym w.lt.ensures ∙ is_false w.lt.result leads w.leads-is),
                )
            | in-None-first w ↦ λ some. absurd (let none = w.in-None-first.ensures.item.3 in let len = split.back_len in omega arith)
          ] in
          subst (λ xs. IsPlaceOf name_cmp name xs place) within
          (place_between name_cmp name_total tied_names name es place sorted (let len = split.back_len in omega arith) below above),
      λ h. elim c.match-first.branch [
        | in-Some-first w ↦
            let entry = w.in-Some-first.entry.now in
            let at = w.in-Some-first.ensures.item.1 ∙ split.by_index.2 0 entry ∙ (λ i. slice_index_or es (same i) entry) in
            let len = split.back_len in
            let some = w.in-Some-first.ensures.item.3.0 in
            let behind : is_before name_cmp name (slice_index_or es place entry) ≡ false =
            (subst (λ xs. IsPlaceOf name_cmp name xs place) (sym within) h).1.1 place entry (omega arith) (omega arith) in
            w.leads-is ∙ ap not (w.lt.ensures ∙ name_lt entry.0 name ∙ ap (is_before name_cmp name) at ∙ behind)
        | in-None-first w ↦ w.leads-is
      ],
    )

pub returns-else-follows : goal.returns-else-follows
returns-else-follows g c =
    let name = c.args.name in
    let es = c.as_slice.result.now in
    let place = c.args.place in
    let split = c.split_at.ensures in
    let within = c.as_slice.ensures.value ∙ c.self.view_is in (
      λ never. let x : true ≡ false = sym never ∙ c.if-follows.false in cc,
      λ h. elim c.match-last.branch [
        | in-Some w ↦
            let entry = w.in-Some.entry.now in
            let len = split.front_len in
            let some = w.in-Some.ensures.item.3.0 in
            let at = w.in-Some.ensures.item.1
            ∙ (λ i. slice_index_or c.split_at.result.0.now (split.front_len i - 1) entry)
            ∙ split.by_index.1 (place - 1) entry (omega arith) in
            let before : is_before name_cmp name (slice_index_or es (place - 1) entry) ≡ true =
            (subst (λ xs. IsPlaceOf name_cmp name xs place) (sym within) h).1.0 (place - 1) entry (omega arith) (omega arith) in
            let x : true ≡ false =
            sym (w.follows-is ∙ w.lt-follows.ensures ∙ name_lt entry.0 name ∙ ap (is_before name_cmp name) at ∙ before)
            ∙ c.if-follows.false in cc
        | in-None w ↦ let x : true ≡ false = sym w.follows-is ∙ c.if-follows.false in cc
      ],
    )
