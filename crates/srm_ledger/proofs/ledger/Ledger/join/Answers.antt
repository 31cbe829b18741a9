use Rattle.std.proofs.Common.{arith, ◌≡◌, ℕ, ◌+◌, ◌^◌, ◌≤◌, List, [], slice_index, length, sym, ap, ◌∙◌, subst}
use Rattle.atomic_table.specs.Table.{Me, Joins}
use Rattle.srm_ledger.specs.declared.rule.Holding.{Holding}
use Rattle.srm_ledger.specs.Tally.{Tallied, Finds, holding, spent, joined_holding, saw}
use Rattle.srm_ledger.proofs.Keeps.{join_allowed, read_allowed, spare_saw}
use Rattle.srm_ledger.proofs.Tied.{same_table, MayRead}
use Rattle.srm_ledger.proofs.Zips.{added_at, added_length, larger_length}
use Rattle.srm_ledger.proofs.ledger.Ledger.join.Goals as goal

pub join_seat-requires : goal.join_seat-requires
join_seat-requires c =
    let a = c.first.invariant in
    let b = c.second.invariant in
    let table = c.self.inside.table.shared in
    let first = holding c.first.inside.weight c.first.inside.shares.items c.first.inside.seen.items in
    let one = same_table c.first.view_is c.requires.first c.self.view_is in
    let two = same_table c.second.view_is c.requires.second c.self.view_is in
    let id = c.first.inside.hold.id in
    let other = c.second.inside.hold.id in
    let P : Me (Unit {0}) Holding → Me (Unit {0}) Holding → Type 0 =
    λ m k. Joins (Tallied table.key) id m.0 other k.0 (joined_holding m.0 k.0) spent in (
      one,
      two,
      ap (λ m. m.1) b.0,
      omega arith,
      subst (λ (m : Me (Unit {0}) Holding). P m c.second.inside.hold.me) (sym a.0)
          (subst (P (first, [])) (sym b.0) (join_allowed _ _ _ _ _ a.3 c.if-not-fit.ensures)),
    )

pub load-requires : goal.load-requires
load-requires c =
    let a = c.first.invariant in
    let b = c.second.invariant in
    let table = c.self.inside.table.shared in
    let one = same_table c.first.view_is c.requires.first c.self.view_is in
    let two = same_table c.second.view_is c.requires.second c.self.view_is in
    let width = ap (λ t. t.words) one in
    let width' = ap (λ t. t.words) two in
    let long = larger_length c.first.inside.seen.items c.second.inside.seen.items (omega arith) in
    let e = c.join_seat.ensures in
    let is = e.2 ∙ (λ i. (joined_holding (a.0 i).0 (b.0 i).0, (a.0 i).1)) in (
      e.0 ∙ one,
      omega arith,
      subst (MayRead table.key table.table_id.slots c.join_seat.new.seat.id 0) (sym is)
          (read_allowed _ _ _ _ _ _ (omega arith) (omega arith) (omega arith)),
    )

pub invariant_of-result : goal.invariant_of-result
invariant_of-result c =
    let a = c.first.invariant in
    let b = c.second.invariant in
    let one = ap (λ t. t.words) (same_table c.first.view_is c.requires.first c.self.view_is) in
    let two = ap (λ t. t.words) (same_table c.second.view_is c.requires.second c.self.view_is) in
    let first = holding c.first.inside.weight c.first.inside.shares.items c.first.inside.seen.items in
    let second = holding c.second.inside.weight c.second.inside.shares.items c.second.inside.seen.items in
    let weight = c.first.inside.weight + c.second.inside.weight in
    let shares = c.add_each.ensures in
    let seen = c.raise_each.ensures in
    let j = c.join_seat.ensures in
    let l = c.load.ensures in
    let was : c.join_seat.new.seat.me ≡ (joined_holding first second, []) =
    j.2 ∙ (λ i. (joined_holding (a.0 i).0 (b.0 i).0, (a.0 i).1)) in
    let found = subst (λ (m : Me (Unit {0}) Holding). Finds m.0 0 c.load.result) was l.2.1 in
    let view : c.load.new.seat.me ≡ (joined_holding first second, []) =
    l.2.0 ∙ (λ i. (saw (was i).0 0 c.load.result, (was i).1)) ∙ ap (λ (x : Holding). (x, [])) (spare_saw _ _ found) in
    let most : weight ≤ 65536 = found.part in
    let width = ap (λ t. t.words) (l.0 ∙ j.0) in
    let n1 = added_length c.first.inside.shares.items c.second.inside.shares.items (omega arith) in
    let n2 = larger_length c.first.inside.seen.items c.second.inside.seen.items (omega arith) in
    let fits = c.if-not-fit.ensures in (
      view ∙ (λ i. (holding weight (sym shares i) (sym seen i), [])),
      ap length shares ∙ n1 ∙ a.1 ∙ sym width,
      ap length seen ∙ n2 ∙ a.2 ∙ sym width,
      omega arith,
      most,
      λ k. subst (λ (l : List ℕ). slice_index l k ≤ 2 ^ 47) (sym shares)
          (let x = added_at c.first.inside.shares.items c.second.inside.shares.items k in
          let f = fits k in
          omega arith),
    )
