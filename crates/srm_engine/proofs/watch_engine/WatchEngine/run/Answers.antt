use Rattle.std.proofs.Common.{◌∙◌, ℕ, List, sym, ap, subst}
use Rattle.srm_scenario.specs.declared.session.Session.{Session}
use Rattle.srm_member.specs.declared.row.Row.{Row}
use Rattle.srm_engine.specs.Starts.{setting_on}
use Rattle.srm_model.specs.World.{opening, IsLast}
use Rattle.srm_model.specs.WindowChains.{AreWindows, window_jobs}
use Rattle.srm_engine.specs.declared.ends.Ends.{Ends}
use Rattle.srm_engine.specs.Streams.{TellsHalt}
use Rattle.srm_engine.specs.Windowed.{MayCome, rule_of}
use Rattle.srm_engine.proofs.Stepping.{opening_reached, opening_trace}
use Rattle.srm_engine.specs.RowRuns.{MayLackWindow}
use Rattle.srm_engine.proofs.StreamLemmas.{halted_front, uncalled}
use Rattle.srm_engine.proofs.WindowLemmas.{as_asked, halts_refuse, refused_at_window, windows_undone}
use Rattle.srm_engine.proofs.watch_engine.WatchEngine.run.Goals as goal

pub returns-in-Err-clause-last : goal.returns-in-Err-clause-last
returns-in-Err-clause-last g c = λ seed h.
    let s = setting_on c.args.start.session seed in (
      opening s,
      opening_reached s,
      subst (λ (l : List Row). g.S.RowSink.part c.args.sink.now l c.args.sink.now) (sym (opening_trace s))
          (g.met.S.RowSink.part_none c.args.sink.now),
    )

pub returns-in-Err-open-clause-last : goal.returns-in-Err-open-clause-last
returns-in-Err-open-clause-last g c = λ seed h.
    let s = setting_on c.args.start.session seed in (
      opening s,
      opening_reached s,
      subst (λ (l : List Row). g.S.RowSink.part c.args.sink.now l c.args.sink.now) (sym (opening_trace s))
          (g.met.S.RowSink.part_none c.args.sink.now),
    )

pub returns-in-Err-stream-clause-last : goal.returns-in-Err-stream-clause-last
returns-in-Err-stream-clause-last g c = λ seed h.
    let s = setting_on c.args.start.session seed in
    halted_front g.S.RowSink.took g.S.RowSink.part g.met.S.RowSink.part_none g.met.S.RowSink.part_more
    (MayCome s (rule_of s c.args.start.session.scenario.now c.args.asked.width) c.args.asked.cut) s c.args.sink.now c.in-Err-stream.halt
    c.stream.new.sink
    (as_asked (λ s rule cut. TellsHalt g.S.RowSink.took g.S.RowSink.part (MayCome s rule cut) s c.args.sink.now c.in-Err-stream.halt
    c.stream.new.sink) c.in-Ok-open.opened.engine c.args.start.session c.in-Ok.cutting c.args.asked seed
    c.in-Ok-open.ensures.frame c.in-Ok.ensures (c.in-Err-stream.ensures.windows seed (c.in-Ok-open.ensures.opened seed h)))

pub returns-in-Err-stream-clause-windows : goal.returns-in-Err-stream-clause-windows
returns-in-Err-stream-clause-windows g c = λ seed h.
    let s = setting_on c.args.start.session seed in
    rw c.into-in-Err-stream.ensures
    (halts_refuse g.S.RowSink.took g.S.RowSink.part s (rule_of s c.args.start.session.scenario.now c.args.asked.width) c.args.asked.cut
    c.args.crew.now
    c.args.sink.now c.in-Err-stream.halt c.stream.new.sink c.stream.new.crew
    (as_asked (λ s rule cut. TellsHalt g.S.RowSink.took g.S.RowSink.part (MayCome s rule cut) s c.args.sink.now c.in-Err-stream.halt
    c.stream.new.sink) c.in-Ok-open.opened.engine c.args.start.session c.in-Ok.cutting c.args.asked seed
    c.in-Ok-open.ensures.frame c.in-Ok.ensures (c.in-Err-stream.ensures.windows seed (c.in-Ok-open.ensures.opened seed h))))

pub returns-in-Err-stream-clause-refused : goal.returns-in-Err-stream-clause-refused
returns-in-Err-stream-clause-refused g c = λ seed h.
    let s = setting_on c.args.start.session seed in
    rw c.into-in-Err-stream.ensures
    (refused_at_window g.S.RowSink.took g.S.RowSink.part s (rule_of s c.args.start.session.scenario.now c.args.asked.width) c.args.asked.cut
    c.args.sink.now c.in-Err-stream.halt c.stream.new.sink
    (as_asked (λ s rule cut. TellsHalt g.S.RowSink.took g.S.RowSink.part (MayCome s rule cut) s c.args.sink.now c.in-Err-stream.halt
    c.stream.new.sink) c.in-Ok-open.opened.engine c.args.start.session c.in-Ok.cutting c.args.asked seed
    c.in-Ok-open.ensures.frame c.in-Ok.ensures (c.in-Err-stream.ensures.windows seed (c.in-Ok-open.ensures.opened seed h))))

pub returns-in-Ok-stream-clause-last : goal.returns-in-Ok-stream-clause-last
returns-in-Ok-stream-clause-last g c = λ seed h.
    let t = c.in-Ok-stream.ensures.windows seed (c.in-Ok-open.ensures.opened seed h) in (
      t.1,
      as_asked (λ s rule cut. IsLast s t.1) c.in-Ok-open.opened.engine c.args.start.session c.in-Ok.cutting
          c.args.asked seed c.in-Ok-open.ensures.frame c.in-Ok.ensures t.3,
      t.4,
      (
        seed,
        ap (λ (k : Session × ℕ × Ends). setting_on k.0 seed) (sym (c.in-Ok-stream.ensures.frame ∙ c.in-Ok-open.ensures.frame)),
        (t.0, t.2),
      ),
    )

pub returns-in-Ok-stream-clause-windows : goal.returns-in-Ok-stream-clause-windows
returns-in-Ok-stream-clause-windows g c = λ seed h.
    let t = c.in-Ok-stream.ensures.windows seed (c.in-Ok-open.ensures.opened seed h) in (
      t.0,
      t.1,
      as_asked (λ s rule cut. AreWindows s rule t.0 t.1) c.in-Ok-stream.ran c.args.start.session c.in-Ok.cutting
          c.args.asked seed
          (c.in-Ok-stream.ensures.frame ∙ c.in-Ok-open.ensures.frame) c.in-Ok.ensures t.2.windows,
      as_asked (λ s rule cut. IsLast s t.1) c.in-Ok-open.opened.engine c.args.start.session c.in-Ok.cutting
          c.args.asked seed c.in-Ok-open.ensures.frame c.in-Ok.ensures t.3,
      as_asked (λ s rule cut. g.C.WatchCrew.handed c.args.crew.now (window_jobs rule cut t.0) c.stream.new.crew) c.in-Ok-open.opened.engine
          c.args.start.session c.in-Ok.cutting c.args.asked seed c.in-Ok-open.ensures.frame c.in-Ok.ensures t.5,
    )

pub returns-in-Err-clause-undone : goal.returns-in-Err-clause-undone
returns-in-Err-clause-undone g c = λ seed h.
    let s = setting_on c.args.start.session seed in
    uncalled g.S.RowSink.took g.S.RowSink.part g.S.RowSink.stage
    (MayLackWindow s c.args.start.session.scenario.now c.args.asked) s c.args.sink.now _

pub returns-in-Err-open-clause-undone : goal.returns-in-Err-open-clause-undone
returns-in-Err-open-clause-undone g c = λ seed h.
    let s = setting_on c.args.start.session seed in
    uncalled g.S.RowSink.took g.S.RowSink.part g.S.RowSink.stage
    (MayLackWindow s c.args.start.session.scenario.now c.args.asked) s c.args.sink.now _

pub returns-in-Err-stream-clause-undone : goal.returns-in-Err-stream-clause-undone
returns-in-Err-stream-clause-undone g c = λ seed h.
    let s = setting_on c.args.start.session seed in
    rw c.into-in-Err-stream.ensures
    (windows_undone g.S.RowSink.took g.S.RowSink.part g.S.RowSink.stage (Unit {0}) s c.args.start.session.scenario.now c.args.asked
    c.args.sink.now c.in-Err-stream.halt c.stream.new.sink
    (as_asked (λ s rule cut. TellsHalt g.S.RowSink.took g.S.RowSink.part (MayCome s rule cut) s c.args.sink.now c.in-Err-stream.halt
    c.stream.new.sink) c.in-Ok-open.opened.engine c.args.start.session c.in-Ok.cutting c.args.asked seed
    c.in-Ok-open.ensures.frame c.in-Ok.ensures (c.in-Err-stream.ensures.windows seed (c.in-Ok-open.ensures.opened seed h)))
    c.in-Err-stream.ensures.stage)
