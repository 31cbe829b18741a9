use Rattle.std.proofs.Common.{[], ◌∷◌, refl, sym, ◌∙◌, ap, subst, length, arith}
use Rattle.std.proofs.Common.{length-append}
use Rattle.srm_cell.specs.Cells.{OwnCell, Stepped, own_step}
use Rattle.srm_cell.specs.OwnRuns.{IsOwnRun}
use Rattle.srm_cell.specs.Views.{plain_cell, Refuses}
use Rattle.srm_cell.proofs.Leading.{Leads, leads_none, leads_more, leads_all, leads_fault}
use Rattle.srm_cell.proofs.cell.Cell.run_into.Goals as goal

pub loop-fault-init : goal.loop-fault-init
loop-fault-init g c = λ h.
    let p = plain_cell g.M.Participant.plain c.args.self.now in (
      subst (λ rs. Leads c.args.till c.args.self.now.number p rs p) (sym c.clear.ensures.items)
          (leads_none c.args.till c.args.self.now.number p),
      (h, refl),
    )

pub loop-fault-preserved : goal.loop-fault-preserved
loop-fault-preserved g c = λ h.
    let m = c.args.self.now.number in
    let p = plain_cell g.M.Participant.plain c.args.self.now in
    let q = plain_cell g.M.Participant.plain c.loop-fault.self in
    let i = c.loop-fault.invariant h in
    let put = rw c.in-Ok-true.field-0-test at c.in-Ok-true.ensures in
    let t = put.1 i.1.0 in
    let d : Stepped = record { cell = plain_cell g.M.Participant.plain c.step_onto.new.self; row = put.0 } in (
      subst (λ rs. Leads c.args.till m p rs d.cell) (sym put.2)
          (leads_more c.args.till m p q c.loop-fault.rows.items d i.0
          (ap (λ n. own_step c.args.till n q) (sym i.1.1) ∙ t.0)),
      (t.1.0, t.1.1 ∙ i.1.1),
    )

pub loop-fault-smaller : goal.loop-fault-smaller
loop-fault-smaller g c =
    let put = rw c.in-Ok-true.field-0-test at c.in-Ok-true.ensures in
    let more = ap length put.2 ∙ length-append c.loop-fault.rows.items (put.0 ∷ []) in
    omega arith

pub returns-in-Ok-false : goal.returns-in-Ok-false
returns-in-Ok-false g c = λ h.
    let m = c.args.self.now.number in
    let p = plain_cell g.M.Participant.plain c.args.self.now in
    let q = plain_cell g.M.Participant.plain c.loop-fault.self in
    let i = c.loop-fault.invariant h in
    let put = rw c.in-Ok-false.field-0-test at c.in-Ok-false.ensures in
    let t = put.0 i.1.0 in
    let run = leads_all c.args.till m p q c.loop-fault.rows.items i.0 (ap (λ n. own_step c.args.till n q) (sym i.1.1) ∙ t.0) in
    record {
      run = subst (λ rs. IsOwnRun c.args.till m p rs (plain_cell g.M.Participant.plain c.step_onto.new.self))
          (sym put.1)
          (subst (IsOwnRun c.args.till m p c.loop-fault.rows.items) (ap (λ (o : OwnCell). o.cell) (sym t.1.is)) run);
      on = (t.1.sound, ap (λ (o : OwnCell). o.member) t.1.is ∙ i.1.1);
    }

pub returns-in-Err : goal.returns-in-Err
returns-in-Err g c = λ h.
    let q = plain_cell g.M.Participant.plain c.loop-fault.self in
    let i = c.loop-fault.invariant h in
    leads_fault c.args.till g.M.Participant.plain c.args.self.now q c.loop-fault.rows.items c.in-Err.fault
    c.step_onto.new.self i.0
    (subst (λ n. Refuses (own_step c.args.till n q) c.in-Err.fault) i.1.1 (c.in-Err.ensures i.1.0))
