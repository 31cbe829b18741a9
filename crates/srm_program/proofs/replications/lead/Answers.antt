use Rattle.std.proofs.Common.{◌≡◌, ◌∙◌, ◌-◌, [], Result, Ok, Err, refl, ap, sym, subst, arith}
use Rattle.std.specs.List.{range_with_len}
use Rattle.srm_program.specs.declared.fault.LabFault.{LabFault}
use Rattle.srm_program.specs.Reports.{failures_after_run}
use Rattle.srm_program.specs.Replications.{series_of, MakesEach, PutsNext}
use Rattle.srm_program.proofs.ReplicationLemmas.{header_put, header_failed, run_put, run_failed, run_refused, not_written}
use Rattle.srm_program.proofs.replications.lead.Goals as goal

pub returns-in-Err : goal.returns-in-Err
returns-in-Err g c = λ p each. (
  c.in-Err.ensures.failures,
  header_failed (series_of p c.args.span) (Unit {0}) (Unit {0}) (g.O.Outlet.taken c.args.outlet.now)
      (g.O.Outlet.taken c.put.new.outlet) c.put.new.written c.as_slice.result.now c.in-Err.fault
      (c.as_slice.ensures.value ∙ c.in-Ok.ensures) c.in-Err.ensures.taken,
)

pub loop-seed-init : goal.loop-seed-init
loop-seed-init g c =
    let first = c.args.span.first in
    let none : 0 ≡ first - first = omega arith in
    record {
      from = omega arith;
      ahead = omega arith;
      within = c.requires.seeds;
      to = refl;
      work = refl;
      under_way = c.requires.fresh ∙ ap (range_with_len first) none;
      unfailed = c.in-Ok-put.ensures.failures;
      below = c.requires.count;
      runs = λ p each. (
        [],
        omega arith,
        header_put (series_of p c.args.span) (Unit {0}) tt (g.O.Outlet.taken c.args.outlet.now) (g.O.Outlet.taken c.put.new.outlet)
            c.put.new.written c.as_slice.result.now (c.as_slice.ensures.value ∙ c.in-Ok.ensures) c.in-Ok-put.ensures.taken,
      );
    }

pub next_lines-requires-clause-ready : goal.next_lines-requires-clause-ready
next_lines-requires-clause-ready g c = λ seed.
    subst (λ w. g.W.Work.ready w seed) (sym c.loop-seed.invariant.work) (c.requires.ready seed)

pub next_lines-requires-clause-order : goal.next_lines-requires-clause-order
next_lines-requires-clause-order g c = (c.loop-seed.invariant.ahead, c.loop-seed.invariant.within)

pub next_lines-requires-clause-under_way : goal.next_lines-requires-clause-under_way
next_lines-requires-clause-under_way g c = c.loop-seed.invariant.under_way

pub returns-in-Err-next_lines : goal.returns-in-Err-next_lines
returns-in-Err-next_lines g c = λ p each.
    let was = c.loop-seed.invariant in
    let runs = was.runs p each in
    let show = c.args.span.show in
    let seed = c.loop-seed.seed in
    let each_here = subst (λ w. MakesEach (g.W.Work.gives w) p show) (sym was.work) each in
    let made = c.in-Err-next_lines.ensures.lines p show each_here in (
      not_written (Unit {0}) p show seed c.in-Err-next_lines.fault _ _ made was.unfailed,
      run_refused (series_of p c.args.span) runs.0 (g.O.Outlet.taken c.args.outlet.now) (g.O.Outlet.taken c.loop-seed.outlet)
          c.loop-seed.written runs.2 seed runs.1 was.from
          (omega (arith, was.from, c.loop-seed-test.true)) (Unit {0}) c.in-Err-next_lines.fault made,
    )

pub put-requires-in-loop-seed : goal.put-requires-in-loop-seed
put-requires-in-loop-seed g c = rw c.loop-seed.invariant.unfailed c.loop-seed.invariant.below

pub returns-in-Err-put : goal.returns-in-Err-put
returns-in-Err-put g c = λ p each.
    let was = c.loop-seed.invariant in
    let runs = was.runs p each in
    let show = c.args.span.show in
    let seed = c.loop-seed.seed in
    let each_here = subst (λ w. MakesEach (g.W.Work.gives w) p show) (sym was.work) each in
    let made = c.in-Ok-next_lines.ensures.lines p show each_here in
    let mid = g.O.Outlet.taken c.loop-seed.outlet in
    let new = g.O.Outlet.taken c.put-in-loop-seed.new.outlet in
    let fault : Result (Unit {0}) LabFault = Err c.in-Err-put.fault in
    let put = subst (λ t. PutsNext mid c.loop-seed.written t fault new c.put-in-loop-seed.new.written)
    c.as_slice-in-loop-seed.ensures.value c.in-Err-put.ensures.taken in (
      c.in-Err-put.ensures.failures ∙ ap (failures_after_run fault) was.unfailed,
      run_failed (series_of p c.args.span) runs.0 (g.O.Outlet.taken c.args.outlet.now) mid
          c.loop-seed.written runs.2 seed runs.1 was.from
          (omega (arith, was.from, c.loop-seed-test.true)) (Unit {0}) (Unit {0}) c.in-Ok-next_lines.lines new
          c.put-in-loop-seed.new.written c.in-Err-put.fault made put,
    )

pub loop-seed-preserved : goal.loop-seed-preserved
loop-seed-preserved g c =
    let was = c.loop-seed.invariant in
    let show = c.args.span.show in
    let seed = c.loop-seed.seed in
    let ahead = c.in-Ok-next_lines.ensures.under_way in
    let mid = g.O.Outlet.taken c.loop-seed.outlet in
    let new = g.O.Outlet.taken c.put-in-loop-seed.new.outlet in
    let ok : Result (Unit {0}) LabFault = Ok tt in
    let put = subst (λ t. PutsNext mid c.loop-seed.written t ok new c.put-in-loop-seed.new.written)
    c.as_slice-in-loop-seed.ensures.value c.in-Ok-put-2.ensures.taken in
    record {
      from = omega (arith, was.from);
      ahead = ahead.0;
      within = ahead.1;
      to = was.to;
      work = c.next_lines.ensures.work ∙ was.work;
      under_way = ahead.2;
      unfailed = c.in-Ok-put-2.ensures.failures ∙ was.unfailed;
      below = was.below;
      runs = λ p each.
          let runs = was.runs p each in
          let each_here = subst (λ w. MakesEach (g.W.Work.gives w) p show) (sym was.work) each in
          let made = c.in-Ok-next_lines.ensures.lines p show each_here in
          run_put (series_of p c.args.span) runs.0 (g.O.Outlet.taken c.args.outlet.now) mid
          c.loop-seed.written runs.2 seed runs.1 was.from
          (omega (arith, was.from, c.loop-seed-test.true)) (Unit {0}) tt c.in-Ok-next_lines.lines new
          c.put-in-loop-seed.new.written made put;
    }

pub returns : goal.returns
returns g c = λ p each.
    let was = c.loop-seed.invariant in
    let runs = was.runs p each in
    (was.unfailed, (runs.0, omega (arith, runs.1, was.from, was.ahead, was.within, c.loop-seed-test.false), runs.2.taken))
