use Rattle.std.proofs.Common.{◌≡◌, ◌≢◌, ◌∙◌, ◌≤◌, ◌<◌, ◌+◌, ◌++◌, ◌∷◌, ◌==◌, [], ℕ, Bool, true, false, sym, ap, length, arith, refl}
use Rattle.std.proofs.Common.{length-append, append-nil}
use Rattle.std.specs.Vec.Iter.{into_iter_items}
use Rattle.srm_engine.specs.Groups.{all_in, sizes}
use Rattle.std.proofs.lemmas.Bool.Decides.{nat_tests}
use Rattle.srm_interfaces.proofs.GroupedLemmas.{all_in_append}
use Rattle.srm_engine.proofs.CellLists.{closed, sizes_more, next_in, sizes_last, full_cuts, nothing_in}
use Rattle.srm_engine.proofs.SeenLemmas.{no_items}
use Rattle.srm_engine.proofs.groups.group.Goals.{then-len-cut+in_ok-push, else-len-cut, then-not-is_empty+in_ok-push-3, else-not-is_empty}
use Rattle.srm_engine.proofs.groups.group.Goals as goal

-- a list of which it is said whether it is empty
none_in : (n m : ℕ) (b : Bool) → b ≡ (n == 0) → n ≡ m → b ≡ true → m ≡ 0
none_in n m b is same q = grind (arith, nat_tests)

some_in : (n m : ℕ) (b : Bool) → b ≡ (n == 0) → n ≡ m → b ≡ false → 0 < m
some_in n m b is same q = grind (arith, nat_tests)

-- a group with one cell more
first_in : (cut n m k : ℕ) → n ≡ m + 1 → m ≡ k → k ≡ 0 → 0 < cut → n ≤ cut
first_in cut n m k long same none pos = omega arith

more_in : (cut n m k len : ℕ) → n ≡ m + 1 → m ≡ k → len ≡ k → len ≢ cut → k ≤ cut → n ≤ cut
more_in cut n m k len long same is ne most = omega arith

pub loop-cell-preserved : goal.loop-cell-preserved
loop-cell-preserved g c =
    let i = c.loop-cell.invariant in
    let gs = c.loop-cell.groups.items in
    let pushed = c.in_ok-push-2.ensures.items in
    let size = ap length pushed ∙ length-append c.if-len-cut.group.items (c.in-Some.cell ∷ []) in
    elim c.if-len-cut.branch [
      | then-len-cut+in_ok-push w ↦
          let groups = w.in_ok-push.ensures.items in
          let none = w.new-group-then-len-cut.ensures.items in
          let same = closed gs w.push.new.self.items c.loop-cell.group w.new-group-then-len-cut.result groups none in
          let pos = c.requires in
          let zero = ap length none in (
            tt,
            tt,
            next_in gs c.if-len-cut.groups.items c.loop-cell.group c.if-len-cut.group c.push-in-loop-cell.new.self c.in-Some.cell
                (into_iter_items c.loop-cell.cell-iterator) (into_iter_items c.next.new.self) c.args.cells.items i.2
                c.in-Some.ensures.steps.0
                (rw (w.groups-is, w.group-is) same) pushed,
            rw w.groups-is (sizes_more c.args.cut gs w.push.new.self.items c.loop-cell.group groups
                (sym c.loop-cell.group.ok.0 ∙ sym c.len.ensures ∙ w.if-len-cut.true) i.3),
            first_in c.args.cut (length c.push-in-loop-cell.new.self.items) (length c.if-len-cut.group.items)
                (length w.new-group-then-len-cut.result.items) size (ap (λ v. length v.items) w.group-is) zero pos,
          )
      | else-len-cut w ↦ (
        tt,
        tt,
        next_in gs c.if-len-cut.groups.items c.loop-cell.group c.if-len-cut.group c.push-in-loop-cell.new.self c.in-Some.cell
            (into_iter_items c.loop-cell.cell-iterator) (into_iter_items c.next.new.self) c.args.cells.items i.2 c.in-Some.ensures.steps.0
            (rw (w.groups-is, w.group-is) refl) pushed,
        rw w.groups-is i.3,
        more_in c.args.cut (length c.push-in-loop-cell.new.self.items) (length c.if-len-cut.group.items) (length c.loop-cell.group.items)
            c.len.result size (ap (λ v. length v.items) w.group-is) (c.len.ensures ∙ c.loop-cell.group.ok.0) w.if-len-cut.false i.4,
      )
    ]

pub returns-clause-same : goal.returns-clause-same
returns-clause-same g c =
    let i = c.loop-cell.invariant in
    let gs = c.loop-cell.groups.items in
    let own = c.loop-cell.group.items in
    let none = no_items c.loop-cell.cell-iterator c.in-None.ensures.steps.0 in
    let whole : all_in gs ++ own ≡ c.args.cells.items = sym (append-nil (all_in gs ++ own)) ∙ ap (λ l. (all_in gs ++ own) ++ l) (sym none)
    ∙ i.2 in
    elim c.if-not-is_empty.branch [
      | then-not-is_empty+in_ok-push-3 w ↦ rw w.groups-is (ap all_in w.in_ok-push-3.ensures.items
          ∙ all_in_append gs (c.loop-cell.group ∷ []) ∙ ap (λ l. all_in gs ++ l) (append-nil own) ∙ whole)
      | else-not-is_empty w ↦
          let zero = none_in c.loop-cell.group.len (length own) c.is_empty.result c.is_empty.ensures c.loop-cell.group.ok.0
          w.if-not-is_empty.false in
          rw w.groups-is (sym (append-nil (all_in gs)) ∙ ap (λ l. all_in gs ++ l) (sym (nothing_in own zero)) ∙ whole)
    ]

pub returns-clause-cuts : goal.returns-clause-cuts
returns-clause-cuts g c =
    let i = c.loop-cell.invariant in
    let gs = c.loop-cell.groups.items in
    elim c.if-not-is_empty.branch [
      | then-not-is_empty+in_ok-push-3 w ↦
          let some = some_in c.loop-cell.group.len (length c.loop-cell.group.items) c.is_empty.result c.is_empty.ensures
          c.loop-cell.group.ok.0 w.if-not-is_empty.true in
          rw w.groups-is (sizes_last c.args.cut gs w.push-then-not-is_empty.new.self.items c.loop-cell.group w.in_ok-push-3.ensures.items
          some i.4 i.3)
      | else-not-is_empty w ↦ rw w.groups-is (full_cuts c.args.cut (sizes gs) c.requires i.3)
    ]
