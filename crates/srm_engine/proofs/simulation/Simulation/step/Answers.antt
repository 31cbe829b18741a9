use Rattle.std.proofs.Common.{◌≡◌, ◌<◌, ◌≤◌, ◌++◌, ◌∷◌, [], Some, None, Ok, Err, sym, ◌∙◌, ap, subst, slice_set, arith, le_refl, refl}
use Rattle.std.proofs.Common.{option_copied}
use Rattle.std.proofs.lemmas.Result.{err_from_is_err_and}
use Rattle.srm_member.specs.declared.row.Row.{Row}
use Rattle.srm_cell.specs.Crossings.{packets_of}
use Rattle.srm_cell.specs.Cells.{Done, step_at, own_step}
use Rattle.srm_cell.specs.Views.{HasWork}
use Rattle.srm_cell.proofs.FitSettings.{settings_are_fit}
use Rattle.srm_cell.proofs.CellSteps.{SentBy}
use Rattle.srm_model.specs.World.{after_step, cells_after, step}
use Rattle.srm_engine.specs.Engines.{setting_in, HasCounted}
use Rattle.srm_engine.specs.Faults.{run_fault_of}
use Rattle.srm_model.specs.Hearing.{all_hear}
use Rattle.srm_engine.proofs.SeenLemmas.{shown_many, times_many, told_step}
use Rattle.srm_cell.specs.declared.fault.CellFault.TheVariants as cell
use Rattle.srm_model.specs.Totalled.{MaySend, and_sent}
use Rattle.srm_engine.proofs.PhaseLemmas.{of_a_step, refused}
use Rattle.srm_engine.proofs.PutLemmas.{last_read}
use Rattle.srm_model.proofs.RunLemmas.{after_spent}
use Rattle.srm_model.proofs.Sequential.{get_below}
use Rattle.srm_engine.proofs.Stepping.{is_over, is_late, step_by, cell_there, event, member_is, is_least, own_is, after_idle, after_done}
use Rattle.srm_engine.proofs.Stepping.{settled_is, may_send, not_spent, sent_by_member, packets_more}
use Rattle.srm_engine.proofs.simulation.Simulation.step.Goals as goal

pub returns-in_default-clause-step : goal.returns-in_default-clause-step
returns-in_default-clause-step g c = (
  λ seed w h. (
    is_over g.M.Participant.plain c.args.self.now.cells (setting_in c.args.self.now seed) w h.seen
        c.in_default.ensures,
    h,
  ),
  refl,
)

pub returns-then-time-until-clause-step : goal.returns-then-time-until-clause-step
returns-then-time-until-clause-step g c = (
  λ seed w h.
      let late : c.args.self.now.session.scenario.now.until ≤ c.in-Some.time =
      (let le = c.if-time-until.true in let u = c.until-until.ensures.until in omega arith) in (
        is_late g.M.Participant.plain c.args.self.now.cells (setting_in c.args.self.now seed) w h.seen c.in-Some.time c.in-Some.member
            c.in-Some.ensures late,
        h,
      ),
  refl,
)

pub step-requires-clause-cell : goal.step-requires-clause-cell
step-requires-clause-cell g c =
    let k = c.requires.known in
    let early : c.in-Some.time < c.args.self.now.session.scenario.now.until =
    (let lt = c.if-time-until.false in let u = c.until-until.ensures.until in omega arith) in
    let p = cell_there g.M.Participant.plain c.args.self.now.cells (setting_in c.args.self.now k.0) k.1 k.3.seen c.in-Some.time
    c.in-Some.member
    c.in-Some.ensures early in
    let lt = get_below k.1.cells c.in-Some.member p.0 p.1 in
    let many = shown_many g.M.Participant.plain c.args.self.now.cells k.1.cells k.3.seen in
    omega arith

pub step-requires-clause-time : goal.step-requires-clause-time
step-requires-clause-time g c =
    let k = c.requires.known in
    let early : c.in-Some.time < c.args.self.now.session.scenario.now.until =
    (let lt = c.if-time-until.false in let u = c.until-until.ensures.until in omega arith) in
    let p = cell_there g.M.Participant.plain c.args.self.now.cells (setting_in c.args.self.now k.0) k.1 k.3.seen c.in-Some.time
    c.in-Some.member
    c.in-Some.ensures early in
    let lt = get_below k.1.cells c.in-Some.member p.0 p.1 in
    let many = shown_many g.M.Participant.plain c.args.self.now.cells k.1.cells k.3.seen in
    let times = times_many g.M.Participant.plain c.args.self.now.cells k.3.seen.0 in
    omega arith

pub returns-in-Ok-false-clause-step : goal.returns-in-Ok-false-clause-step
returns-in-Ok-false-clause-step g c =
    let put = rw c.in-Ok-false.field-0-test at c.in-Ok-false.ensures in (
      λ seed w h.
          let s = setting_in c.args.self.now seed in
          let early : c.in-Some.time < c.args.self.now.session.scenario.now.until =
          (let lt = c.if-time-until.false in let u = c.until-until.ensures.until in omega arith) in
          let p = cell_there g.M.Participant.plain c.args.self.now.cells s w h.seen c.in-Some.time c.in-Some.member c.in-Some.ensures
          early in
          let t = told_step g.M.Participant.plain c.in-Some.member c.until-until.result c.args.self.now.cells c.step.new.self
          (Ok None) put.0 w.cells p.0 h.seen p.1 in (
            step_by g.M.Participant.plain c.args.self.now.cells s w h.seen c.in-Some.time c.in-Some.member c.in-Some.ensures early p.0 p.1
                ∙ ap (λ u. after_step s w c.in-Some.member (own_step u c.in-Some.member p.0)) (sym c.until-until.ensures.until)
                ∙ ap (after_step s w c.in-Some.member) t.0 ∙ after_idle s w c.in-Some.member,
            record { seen = t.1; counted = h.counted },
          ),
      put.1,
    )

pub unwrap-requires : goal.unwrap-requires
unwrap-requires g c = rw (c.of.ensures, c.into.ensures) (of_a_step c.in-Err.fault (λ spent.
    let k = c.requires.known in
    let s = setting_in c.args.self.now k.0 in
    let fit = settings_are_fit c.args.self.now.session.scenario.now k.0 c.until-until.ensures.accepted in
    let early : c.in-Some.time < c.args.self.now.session.scenario.now.until =
    (let lt = c.if-time-until.false in let u = c.until-until.ensures.until in omega arith) in
    let p = cell_there g.M.Participant.plain c.args.self.now.cells s k.1 k.3.seen c.in-Some.time c.in-Some.member c.in-Some.ensures early in
    let told = rw spent at c.in-Err.ensures in
    not_spent s fit k.1 k.2
    (step_by g.M.Participant.plain c.args.self.now.cells s k.1 k.3.seen c.in-Some.time c.in-Some.member c.in-Some.ensures early p.0 p.1
    ∙ ap (λ u. after_step s k.1 c.in-Some.member (own_step u c.in-Some.member p.0)) (sym c.until-until.ensures.until)
    ∙ ap (after_step s k.1 c.in-Some.member) (told_step g.M.Participant.plain c.in-Some.member c.until-until.result c.args.self.now.cells
    c.step.new.self (Err cell.Spent) told k.1.cells p.0 k.3.seen p.1)
    ∙ after_spent s s.traffic.until (le_refl s.traffic.until) k.1 c.in-Some.member)))

pub returns-in-Err-clause-step : goal.returns-in-Err-clause-step
returns-in-Err-clause-step g c = λ seed w h.
    let s = setting_in c.args.self.now seed in
    let early : c.in-Some.time < c.args.self.now.session.scenario.now.until =
    (let lt = c.if-time-until.false in let u = c.until-until.ensures.until in omega arith) in
    let p = cell_there g.M.Participant.plain c.args.self.now.cells s w h.seen c.in-Some.time c.in-Some.member c.in-Some.ensures early in
    refused s w c.in-Some.member (own_step c.until-until.result c.in-Some.member p.0) c.in-Err.fault c.unwrap.result
    (ap run_fault_of (sym c.into.ensures) ∙ sym c.of.ensures ∙ c.unwrap.ensures)
    (told_step g.M.Participant.plain c.in-Some.member c.until-until.result c.args.self.now.cells c.step.new.self (Err c.in-Err.fault)
    c.in-Err.ensures w.cells p.0 h.seen p.1)
    (step_by g.M.Participant.plain c.args.self.now.cells s w h.seen c.in-Some.time c.in-Some.member c.in-Some.ensures early p.0 p.1
    ∙ ap (λ u. after_step s w c.in-Some.member (own_step u c.in-Some.member p.0)) (sym c.until-until.ensures.until))

pub send-requires : goal.send-requires
send-requires g c =
    let k = c.requires.known in
    let s = setting_in c.args.self.now k.0 in
    let fit = settings_are_fit c.args.self.now.session.scenario.now k.0 c.until-until.ensures.accepted in
    let early : c.in-Some.time < c.args.self.now.session.scenario.now.until =
    (let lt = c.if-time-until.false in let u = c.until-until.ensures.until in omega arith) in
    let p = cell_there g.M.Participant.plain c.args.self.now.cells s k.1 k.3.seen c.in-Some.time c.in-Some.member c.in-Some.ensures early in
    let put = rw c.in-Ok-true.field-0-test at c.in-Ok-true.ensures in
    let t = told_step g.M.Participant.plain c.in-Some.member c.until-until.result c.args.self.now.cells c.step.new.self (Ok
    (Some put.0)) put.1 k.1.cells p.0 k.3.seen p.1 in
    let same : put.0 ≡ c.unwrap-row.result.now =
    last_read c.deref.result.now _ put.0 _ (c.deref.ensures.value ∙ put.2)
    (sym (ap option_copied c.unwrap-row.ensures) ∙ c.last.ensures.value) in
    let e = event g.M.Participant.plain c.args.self.now.cells s k.1 k.3.seen c.in-Some.time c.in-Some.member c.in-Some.ensures early in
    let of = member_is g.M.Participant.plain c.args.self.now.cells s k.1 k.3.seen c.in-Some.time c.in-Some.member c.in-Some.ensures early in
    let least = is_least g.M.Participant.plain c.args.self.now.cells s k.1 k.3.seen c.in-Some.time c.in-Some.member c.in-Some.ensures
    early in
    let done : step_at (Some e) ≡ Done t.0 =
    sym (own_is g.M.Participant.plain c.args.self.now.cells s k.1 k.3.seen c.in-Some.time c.in-Some.member c.in-Some.ensures early p.0 p.1)
    ∙ ap (λ u. own_step u c.in-Some.member p.0) (sym c.until-until.ensures.until) ∙ t.1 in
    let may = may_send s fit k.1 k.2 e t.0 least done c.until-until.ensures.accepted.few_ticks k.4 in record {
      may = (
        packets_of k.1.trace,
        t.3.0,
        k.3.counted,
        subst (λ qs. MaySend s.traffic.members qs (packets_of k.1.trace) c.unwrap-row.result.now.sent) (sym t.3.1)
            (subst (λ (r : Row). MaySend s.traffic.members (slice_set k.1.cells c.in-Some.member t.0.cell) (packets_of k.1.trace) r.sent)
            (t.2 ∙ same)
            (subst (λ m. MaySend s.traffic.members (slice_set k.1.cells m t.0.cell) (packets_of k.1.trace) t.0.row.sent) of may)),
      );
    }

pub returns-clause-step : goal.returns-clause-step
returns-clause-step g c =
    let put = rw c.in-Ok-true.field-0-test at c.in-Ok-true.ensures in
    let same : put.0 ≡ c.unwrap-row.result.now =
    last_read c.deref.result.now _ put.0 _ (c.deref.ensures.value ∙ put.2)
    (sym (ap option_copied c.unwrap-row.ensures) ∙ c.last.ensures.value) in (
      put.0,
      λ seed w h.
          let s = setting_in c.args.self.now seed in
          let early : c.in-Some.time < c.args.self.now.session.scenario.now.until =
          (let lt = c.if-time-until.false in let u = c.until-until.ensures.until in omega arith) in
          let p = cell_there g.M.Participant.plain c.args.self.now.cells s w h.seen c.in-Some.time c.in-Some.member c.in-Some.ensures
          early in
          let t = told_step g.M.Participant.plain c.in-Some.member c.until-until.result c.args.self.now.cells c.step.new.self (Ok
          (Some put.0)) put.1 w.cells p.0 h.seen p.1 in
          let e = event g.M.Participant.plain c.args.self.now.cells s w h.seen c.in-Some.time c.in-Some.member c.in-Some.ensures early in
          let of = member_is g.M.Participant.plain c.args.self.now.cells s w h.seen c.in-Some.time c.in-Some.member c.in-Some.ensures
          early in
          let done : step_at (Some e) ≡ Done t.0 =
          sym (own_is g.M.Participant.plain c.args.self.now.cells s w h.seen c.in-Some.time c.in-Some.member c.in-Some.ensures early p.0
          p.1)
          ∙ ap (λ u. own_step u c.in-Some.member p.0) (sym c.until-until.ensures.until) ∙ t.1 in
          let by = subst (λ m. SentBy m t.0.row.sent) of (sent_by_member e t.0 done) in
          let sent = c.in_ok-send.ensures.sent (packets_of w.trace) t.3.0 h.counted in
          let cells = settled_is s c.in-Some.member t.0 w.cells (get_below w.cells c.in-Some.member p.0 p.1) by
          ∙ ap (λ (r : Row). all_hear s.traffic r.sent (slice_set w.cells c.in-Some.member t.0.cell)) (t.2 ∙ same) in (
            record { cells = cells_after s c.in-Some.member t.0 0 w.cells; trace = w.trace ++ t.0.row ∷ [] },
            step_by g.M.Participant.plain c.args.self.now.cells s w h.seen c.in-Some.time c.in-Some.member c.in-Some.ensures early p.0 p.1
                ∙ ap (λ u. after_step s w c.in-Some.member (own_step u c.in-Some.member p.0)) (sym c.until-until.ensures.until)
                ∙ ap (after_step s w c.in-Some.member) t.1 ∙ after_done s w c.in-Some.member t.0,
            ap (λ (r : Row). w.trace ++ r ∷ []) t.2,
            record {
              seen = (
                sent.0.0,
                sent.0.1 ∙ ap (all_hear s.traffic c.unwrap-row.result.now.sent) t.3.1 ∙ sym cells,
              );
              counted = subst (HasCounted c.send.new.self) (ap (λ (r : Row). and_sent r.sent (packets_of w.trace)) (sym (t.2 ∙ same))
                  ∙ sym (packets_more w.trace t.0.row)) sent.1;
            },
          ),
      put.2,
    )

pub returns-in_err-send-clause-step : goal.returns-in_err-send-clause-step
returns-in_err-send-clause-step g c =
    let told_err = err_from_is_err_and c.from_residual.result c.from_residual.ensures.1 in
    let put = rw c.in-Ok-true.field-0-test at c.in-Ok-true.ensures in
    rw (told_err.1, told_err.2) (λ seed w h.
    let s = setting_in c.args.self.now seed in
    let early : c.in-Some.time < c.args.self.now.session.scenario.now.until =
    (let lt = c.if-time-until.false in let u = c.until-until.ensures.until in omega arith) in
    let p = cell_there g.M.Participant.plain c.args.self.now.cells s w h.seen c.in-Some.time c.in-Some.member c.in-Some.ensures early in
    let t = told_step g.M.Participant.plain c.in-Some.member c.until-until.result c.args.self.now.cells c.step.new.self (Ok
    (Some put.0)) put.1 w.cells p.0 h.seen p.1 in
    let done : step s w ≡ Done (record { cells = cells_after s c.in-Some.member t.0 0 w.cells; trace = w.trace ++ t.0.row ∷ [] }) =
    step_by g.M.Participant.plain c.args.self.now.cells s w h.seen c.in-Some.time c.in-Some.member c.in-Some.ensures early p.0 p.1
    ∙ ap (λ u. after_step s w c.in-Some.member (own_step u c.in-Some.member p.0)) (sym c.until-until.ensures.until)
    ∙ ap (after_step s w c.in-Some.member) t.1 ∙ after_done s w c.in-Some.member t.0 in
    subst HasWork (sym done) tt)
