use Rattle.std.proofs.Common.{◌≡◌, ◌<◌, List, Ok, inr, refl, sym, ◌∙◌, ap, subst, add-zero, length, length-append, arith}
use Rattle.srm_member.specs.declared.row.Row.{Row}
use Rattle.srm_cell.specs.Setting.{Setting}
use Rattle.srm_model.specs.World.{opening, IsReached}
use Rattle.srm_engine.specs.Engines.{setting_in}
use Rattle.srm_engine.specs.Starts.{setting_on}
use Rattle.srm_interfaces.specs.Sinks.{most_rows}
use Rattle.srm_engine.specs.Streams.{TellsSteps, MayStop}
use Rattle.srm_engine.proofs.Stepping.{opening_reached, opening_trace}
use Rattle.srm_engine.proofs.simulation.Simulation.stream.Goals as goal

pub returns-in-Err-clause-rows : goal.returns-in-Err-clause-rows
returns-in-Err-clause-rows g c = λ seed h.
    let s = setting_in c.args.self.now seed in (
      opening s,
      opening_reached s,
      subst (λ (l : List Row). g.S.RowSink.part c.args.sink.now l c.hand_none.new.sink) (sym (opening_trace s))
          c.in-Err.ensures.rows,
    )

pub loop-left-init : goal.loop-left-init
loop-left-init g c = record {
  same = refl;
  device = c.in_default.ensures.same;
  live = c.in_default.ensures.stage;
  unfailed = c.in_default.ensures.failures ∙ add-zero _;
  rows = λ seed h.
      let s = setting_in c.args.self.now seed in
      let none = ap length (opening_trace s) in (
        opening s,
        opening_reached s,
        subst (λ (l : List Row). g.S.RowSink.took c.args.sink.now l c.hand_none.new.sink) (sym (opening_trace s))
            c.in_default.ensures.rows,
        h,
        omega arith,
      );
}

pub steps-requires : goal.steps-requires
steps-requires g c =
    let seed = c.requires.opened.0 in
    let is = c.loop-left.invariant.same in
    let i = c.loop-left.invariant.rows seed c.requires.opened.1 in
    let back : setting_in c.loop-left.self seed ≡ setting_in c.args.self.now seed = ap (λ at. setting_on at seed) is in
    let room = i.4 in
    record { known = (seed, i.0, subst (λ (s : Setting). IsReached s i.0) (sym back) i.1, i.3, omega arith) }

pub returns-in-Err-steps-clause-rows : goal.returns-in-Err-steps-clause-rows
returns-in-Err-steps-clause-rows g c = λ seed h.
    let s = setting_in c.args.self.now seed in
    let is = c.loop-left.invariant.same in
    let i = c.loop-left.invariant.rows seed h in
    let back : setting_in c.loop-left.self seed ≡ s = ap (λ at. setting_on at seed) is in
    let t = c.in-Err-steps.ensures.steps seed i.0 (subst (λ (x : Setting). IsReached x i.0) (sym back) i.1) i.3 in (
      i.0,
      i.1,
      i.2,
      subst (λ (x : Setting). MayStop most_rows x i.0 c.in-Err-steps.fault) back t,
    )

pub returns-in-Err-rows-clause-rows : goal.returns-in-Err-rows-clause-rows
returns-in-Err-rows-clause-rows g c = λ seed h.
    let s = setting_in c.args.self.now seed in
    let is = c.loop-left.invariant.same in
    let i = c.loop-left.invariant.rows seed h in
    let back : setting_in c.loop-left.self seed ≡ s = ap (λ at. setting_on at seed) is in
    let t = c.in-Ok.ensures.steps seed i.0 (subst (λ (x : Setting). IsReached x i.0) (sym back) i.1) i.3 in (
      t.0,
      subst (λ (x : Setting). IsReached x t.0) back t.1,
      subst (λ (l : List Row). g.S.RowSink.part c.args.sink.now l c.rows.new.self) (sym t.2)
          (g.met.S.RowSink.part_more c.args.sink.now c.loop-left.sink c.rows.new.self i.0.trace c.in-Ok.rows.items i.2
          c.in-Err-rows.ensures.rows),
    )

pub returns-then-is_last-clause-rows : goal.returns-then-is_last-clause-rows
returns-then-is_last-clause-rows g c = λ seed h.
    let s = setting_in c.args.self.now seed in
    let is = c.loop-left.invariant.same in
    let i = c.loop-left.invariant.rows seed h in
    let back : setting_in c.loop-left.self seed ≡ s = ap (λ at. setting_on at seed) is in
    let t = subst (λ (x : Setting). TellsSteps g.M.Participant.plain x 32 i.0
    (Ok c.in-Ok.rows) c.steps.new.self) back
    (c.in-Ok.ensures.steps seed i.0 (subst (λ (x : Setting). IsReached x i.0) (sym back) i.1) i.3) in
    let short : length c.in-Ok.rows.items < 32 = omega arith in (
      t.0,
      record { reached = t.1; idle = t.4 short },
      subst (λ (l : List Row). g.S.RowSink.took c.args.sink.now l c.rows.new.self) (sym t.2)
          (g.met.S.RowSink.took_more c.args.sink.now c.loop-left.sink c.rows.new.self i.0.trace c.in-Ok.rows.items i.2
          c.in_default-rows.ensures.rows),
      t.3,
    )

pub loop-left-preserved : goal.loop-left-preserved
loop-left-preserved g c =
    let is = c.loop-left.invariant.same in
    let same = c.steps.ensures.session in record {
      same = same ∙ is;
      device = g.met.S.RowSink.same_more c.args.sink.now c.loop-left.sink c.rows.new.self c.loop-left.invariant.device
          c.in_default-rows.ensures.same;
      live = c.in_default-rows.ensures.stage;
      unfailed = c.in_default-rows.ensures.failures ∙ add-zero _ ∙ c.loop-left.invariant.unfailed;
      rows = λ seed h.
          let s = setting_in c.args.self.now seed in
          let i = c.loop-left.invariant.rows seed h in
          let back : setting_in c.loop-left.self seed ≡ s = ap (λ at. setting_on at seed) is in
          let t = subst (λ (x : Setting). TellsSteps g.M.Participant.plain x 32 i.0
          (Ok c.in-Ok.rows) c.steps.new.self) back
          (c.in-Ok.ensures.steps seed i.0 (subst (λ (x : Setting). IsReached x i.0) (sym back) i.1) i.3) in
          let room = i.4 in
          let few = c.in-Ok.ensures.few in
          let long = ap length t.2 ∙ length-append i.0.trace c.in-Ok.rows.items in (
            t.0,
            t.1,
            subst (λ (l : List Row). g.S.RowSink.took c.args.sink.now l c.rows.new.self) (sym t.2)
                (g.met.S.RowSink.took_more c.args.sink.now c.loop-left.sink c.rows.new.self i.0.trace c.in-Ok.rows.items i.2
                c.in_default-rows.ensures.rows),
            t.3,
            omega arith,
          );
    }

pub returns-clause-rows : goal.returns-clause-rows
returns-clause-rows g c = λ seed h.
    let i = c.loop-left.invariant.rows seed h in
    let none = c.loop-left-test.false in
    let all = i.4 in
    (i.0, i.1, i.2, inr (omega arith))
