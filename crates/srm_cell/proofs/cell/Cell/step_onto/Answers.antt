use Rattle.std.proofs.Common.{◌∙◌, refl, sym, subst, arith}
use Rattle.srm_cell.specs.Views.{plain_cell, Refuses}
use Rattle.srm_cell.proofs.Nexts.{none_before, some_before, takes}
use Rattle.srm_cell.proofs.cell.Cell.step_onto.Goals as goal

pub returns-then-next-till : goal.returns-then-next-till
returns-then-next-till g c =
    let m = c.args.self.now.number in
    let p = plain_cell g.M.Participant.plain c.args.self.now in
    (λ h. (none_before c.args.till m p c.args.self.now.next _ refl h.next c.if-next-till.true, record { sound = h; is = refl }), refl)

pub returns-in-Ok-true : goal.returns-in-Ok-true
returns-in-Ok-true g c =
    let m = c.args.self.now.number in
    let p = plain_cell g.M.Participant.plain c.args.self.now in
    let put = rw c.in-Ok-true.field-0-test at c.in-Ok-true.ensures in (
      put.0,
      λ h.
          let e = some_before c.args.till m p c.args.self.now.next _ h.next c.if-next-till.false (omega arith) in
          let a = put.1 e.0 e.2 in (
            takes c.args.till m p e.0 e.1 (omega (arith, e.2.0)) ∙ a.0,
            (record { next = c.least-time.ensures; none_once_left = a.1.left h.none_once_left }, a.1.number),
          ),
      put.2,
    )

pub returns-in-Ok-false : goal.returns-in-Ok-false
returns-in-Ok-false g c =
    let m = c.args.self.now.number in
    let p = plain_cell g.M.Participant.plain c.args.self.now in
    let put = rw c.in-Ok-false.field-0-test at c.in-Ok-false.ensures in (
      λ h.
          let e = some_before c.args.till m p c.args.self.now.next _ h.next c.if-next-till.false (omega arith) in
          absurd (put.0 e.0 e.2),
      put.1,
    )

pub returns-in-Err : goal.returns-in-Err
returns-in-Err g c = λ h.
    let m = c.args.self.now.number in
    let p = plain_cell g.M.Participant.plain c.args.self.now in
    let e = some_before c.args.till m p c.args.self.now.next _ h.next c.if-next-till.false (omega arith) in
    subst (λ o. Refuses o c.in-Err.fault) (sym (takes c.args.till m p e.0 e.1 (omega (arith, e.2.0)))) (c.in-Err.ensures e.0 e.2)
