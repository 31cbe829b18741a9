use Rattle.std.proofs.Common.{rules, false, ◌≡◌, ◌∙◌, refl, sym, ap, subst}
use Rattle.srm_cell.specs.Setting.{Setting, setting_of}
use Rattle.srm_cell.specs.Crossings.{crossings}
use Rattle.srm_engine.specs.Windowed.{rule_of, IsHandedWindows}
use Rattle.srm_engine.specs.WindowStreams.{RefusedAtWindow}
use Rattle.srm_engine.proofs.MergedSinks.{refused_under}
use Rattle.srm_engine.proofs.StreamLemmas.{front_taken}
use Rattle.srm_engine.proofs.window_stream.window_stream.Goals as goal

pub returns-in-Err-clause-refused : goal.returns-in-Err-clause-refused
returns-in-Err-clause-refused g c = λ seed h.
    let s = setting_of c.args.scenario.now seed in
    let rule = rule_of s c.args.scenario.now c.args.asked.width in
    let x = c.in-Err.fault in
    let end : c.run-ran.new.sink.sink.now ≡ c.sink-1.given.0 = search rules in
    subst (λ n. RefusedAtWindow g.S.RowSink.took g.S.RowSink.part s rule c.args.asked.cut c.args.sink.now x n) end
    (refused_under g.S.RowSink.took g.S.RowSink.part (record { sink = c.args.sink; is_refused = false }) c.run-ran.new.sink s rule
    c.args.asked.cut x (c.in-Err.ensures.refused seed h))

pub returns-in-Err-finish-clause-stream : goal.returns-in-Err-finish-clause-stream
returns-in-Err-finish-clause-stream g c = λ seed h.
    let t = c.in-Ok.ensures.last seed h in
    let end : c.run-ran.new.sink.sink.now ≡ c.sink-1.given.0 = search rules in (
      t.0,
      t.1.reached,
      front_taken g.S.RowSink.took g.S.RowSink.part g.met.S.RowSink.part_none g.met.S.RowSink.part_more c.args.sink.now
          c.sink-1.given.0 t.0.trace (subst (g.S.RowSink.took c.args.sink.now t.0.trace) end t.2),
    )

pub returns-in-Ok-finish-clause-stream : goal.returns-in-Ok-finish-clause-stream
returns-in-Ok-finish-clause-stream g c = λ seed h.
    let t = c.in-Ok.ensures.last seed h in
    let end : c.run-ran.new.sink.sink.now ≡ c.sink-1.given.0 = search rules in
    let ends = c.in-Ok-finish.ensures t.3.0 t.3.2.0 t.0 t.3.2.1 in (
      t.0.trace,
      record {
        world = t.0;
        last = t.1;
        trace_is = refl;
        exits_are = ends.0;
        totals_are = ends.1 ∙ ap (λ (s : Setting). crossings s.traffic t.0.trace) (sym t.3.1);
      },
      subst (g.S.RowSink.took c.args.sink.now t.0.trace) end t.2,
    )

pub returns-in-Ok-finish-clause-windows : goal.returns-in-Ok-finish-clause-windows
returns-in-Ok-finish-clause-windows g c = λ seed h.
    let s = setting_of c.args.scenario.now seed in
    let rule = rule_of s c.args.scenario.now c.args.asked.width in
    let end : c.run-ran.new.crew.crew.now ≡ c.crew-1.given.0 = search rules in
    subst (λ n. IsHandedWindows g.C.Crew.handed s rule c.args.asked.cut c.args.crew.now n) end (c.in-Ok.ensures.windows seed h)
