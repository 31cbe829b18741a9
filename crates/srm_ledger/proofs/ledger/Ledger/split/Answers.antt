use Rattle.std.proofs.Common.{arith, ◌≡◌, ℕ, ◌-◌, ◌/◌, ◌^◌, ◌≤◌, List, [], replicate, slice_index, length, sym, ap, ◌∙◌, subst}
use Rattle.std.proofs.lemmas.List.{length-replicate}
use Rattle.atomic_table.specs.Table.{Me, Splits}
use Rattle.srm_ledger.specs.declared.rule.Holding.{Holding}
use Rattle.srm_ledger.specs.Tally.{Tallied, holding, first_half, second_half}
use Rattle.srm_ledger.specs.Seats.{seat_of, half_with_shares, half_without}
use Rattle.srm_ledger.proofs.Keeps.{split_allowed, replicate_zero}
use Rattle.srm_ledger.proofs.Tied.{same_table}
use Rattle.srm_ledger.proofs.ledger.Ledger.split.Goals as goal

pub split_seat-new_hold-requires : goal.split_seat-new_hold-requires
split_seat-new_hold-requires c =
    let seat = c.seat.invariant in
    let table = c.self.inside.table.shared in
    let two = c.if-seat-lt2.false in
    let P : Me (Unit {0}) Holding → Type 0 =
    λ m. Splits (Tallied table.key) c.seat.inside.hold.id m.0 (first_half m.0) (second_half m.0) in (
      same_table c.seat.view_is c.requires c.self.view_is,
      omega arith,
      subst P (sym seat.0) (split_allowed _ _ _ two),
    )

pub invariant_of-second : goal.invariant_of-second
invariant_of-second c =
    let seat = c.seat.invariant in
    let made = c.split_seat-new_hold.ensures in
    let shares = c.seat.inside.shares.items in
    let count : c.len.result ≡ length shares = omega arith in
    let zeros : c.in-Ok.new_shares.items ≡ replicate (length shares) 0 =
    c.in-Ok.ensures.items_if_clones_equal (λ y e. e) ∙ ap (λ n. replicate n 0) count in
    let seen : c.in-Ok-from_slice.new_seen.items ≡ c.seat.inside.seen.items =
    c.in-Ok-from_slice.ensures.items ∙ c.as_slice.ensures.value in
    let two = c.if-seat-lt2.false in
    let width = ap (λ t. t.words) made.3 in
    let long = length-replicate (length shares) (let z : ℕ = 0 in z) in
    let view = made.4 ∙ (λ i. (second_half (seat.0 i).0, [])) in (
      view ∙ (λ i. (holding (c.seat.inside.weight / 2) (sym zeros i) (sym seen i), [])),
      ap length zeros ∙ long ∙ seat.1 ∙ sym width,
      ap length seen ∙ seat.2 ∙ sym width,
      omega arith,
      omega arith,
      λ k. subst (λ (l : List ℕ). slice_index l k ≤ 2 ^ 47) (sym zeros)
          (let z = replicate_zero (length shares) k in omega arith),
    )

pub returns-clause-halves : goal.returns-clause-halves
returns-clause-halves c =
    let made = c.split_seat-new_hold.ensures in
    let shares = c.seat.inside.shares.items in
    let weight = c.seat.inside.weight in
    let count : c.len.result ≡ length shares = omega arith in
    let zeros : c.in-Ok.new_shares.items ≡ replicate (length shares) 0 =
    c.in-Ok.ensures.items_if_clones_equal (λ y e. e) ∙ ap (λ n. replicate n 0) count in
    let seen : c.in-Ok-from_slice.new_seen.items ≡ c.seat.inside.seen.items =
    c.in-Ok-from_slice.ensures.items ∙ c.as_slice.ensures.value in (
      (λ i. seat_of (made.0 i) (weight - weight / 2) shares c.seat.inside.seen.items) ∙ ap half_with_shares c.seat.view_is,
      (λ i. seat_of (made.3 i) (weight / 2) (zeros i) (seen i)) ∙ ap half_without c.seat.view_is,
    )
