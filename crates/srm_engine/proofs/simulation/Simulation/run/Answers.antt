use Rattle.std.proofs.Common.{◌∙◌, ◌+◌, List, map, sym, subst, ap}
use Rattle.srm_member.specs.declared.row.Row.{Row}
use Rattle.srm_cell.specs.Setting.{Setting}
use Rattle.srm_model.specs.World.{opening, IsReached, IsLast}
use Rattle.srm_engine.specs.Engines.{Shows, setting_in}
use Rattle.srm_engine.specs.Openings.{seed_in}
use Rattle.srm_engine.specs.Starts.{setting_on}
use Rattle.srm_engine.specs.RowRuns.{UndoneAfter}
use Rattle.srm_interfaces.specs.Sinks.{most_rows}
use Rattle.srm_engine.specs.Streams.{MayLackSteps, MayStop, MeetsRefusal, stream_fault_of}
use Rattle.srm_engine.proofs.Stepping.{opening_reached, opening_trace}
use Rattle.srm_engine.proofs.StreamLemmas.{halt_stands, halt_stops, halted_front, halts_refuse, steps_undone, uncalled}
use Rattle.srm_engine.proofs.simulation.Simulation.run.Goals as goal

pub returns-in-Err-clause-last : goal.returns-in-Err-clause-last
returns-in-Err-clause-last g c = λ seed h.
    let s = setting_on c.args.session seed in (
      opening s,
      opening_reached s,
      subst (λ (l : List Row). g.S.RowSink.part c.args.sink.now l c.args.sink.now) (sym (opening_trace s))
          (g.met.S.RowSink.part_none c.args.sink.now),
    )

pub returns-in-Err-clause-undone : goal.returns-in-Err-clause-undone
returns-in-Err-clause-undone g c = λ seed h.
    let s = setting_on c.args.session seed in
    uncalled g.S.RowSink.took g.S.RowSink.part g.S.RowSink.stage (MayLackSteps s) s c.args.sink.now _

pub stream-requires-clause-opened : goal.stream-requires-clause-opened
stream-requires-clause-opened g c =
    let seed = seed_in (map g.M.Participant.plain c.args.members.items) in
    let here = ap (λ at. setting_on at seed) c.in-Ok.ensures.session in (
      seed,
      subst (λ x. Shows g.M.Participant.plain c.in-Ok.opened (opening x)) (sym here) (c.in-Ok.ensures.opened seed c.requires.boxes),
    )

pub returns-in-Err-stream-clause-sink : goal.returns-in-Err-stream-clause-sink
returns-in-Err-stream-clause-sink g c =
    let x = c.in-Err-stream.halt in
    rw c.into-in-Err-stream.ensures (record {
      device = c.in-Err-stream.ensures.device;
      stands = halt_stands (Unit {0}) (Unit {0}) x (g.S.RowSink.stage c.stream.new.sink) c.in-Err-stream.ensures.stage;
      failures = c.in-Err-stream.ensures.failures
          ∙ ap (λ n. g.S.RowSink.failures c.args.sink.now + n) (halt_stops (Unit {0}) (Unit {0}) x);
    })

pub returns-in-Err-stream-clause-last : goal.returns-in-Err-stream-clause-last
returns-in-Err-stream-clause-last g c = λ seed h.
    let here = ap (λ at. setting_on at seed) c.in-Ok.ensures.session in
    let opened = subst (λ x. Shows g.M.Participant.plain c.in-Ok.opened (opening x)) (sym here) (c.in-Ok.ensures.opened seed h) in
    let t = halted_front g.S.RowSink.took g.S.RowSink.part g.met.S.RowSink.part_none g.met.S.RowSink.part_more
    (MayStop most_rows (setting_in c.in-Ok.opened seed)) (setting_in c.in-Ok.opened seed) c.args.sink.now c.in-Err-stream.halt
    c.stream.new.sink
    (c.in-Err-stream.ensures.rows seed opened) in
    (t.0, subst (λ (x : Setting). IsReached x t.0) here t.1, t.2)

pub returns-in-Err-stream-clause-refused : goal.returns-in-Err-stream-clause-refused
returns-in-Err-stream-clause-refused g c = λ seed h.
    let here = ap (λ at. setting_on at seed) c.in-Ok.ensures.session in
    let opened = subst (λ x. Shows g.M.Participant.plain c.in-Ok.opened (opening x)) (sym here) (c.in-Ok.ensures.opened seed h) in
    rw c.into-in-Err-stream.ensures
    (subst (λ (x : Setting). MeetsRefusal g.S.RowSink.took g.S.RowSink.part x c.args.sink.now
    (stream_fault_of c.in-Err-stream.halt) c.stream.new.sink) here
    (halts_refuse g.S.RowSink.took g.S.RowSink.part (setting_in c.in-Ok.opened seed) c.args.sink.now
    c.in-Err-stream.halt c.stream.new.sink (c.in-Err-stream.ensures.rows seed opened)))

pub returns-in-Err-stream-clause-undone : goal.returns-in-Err-stream-clause-undone
returns-in-Err-stream-clause-undone g c = λ seed h.
    let here = ap (λ at. setting_on at seed) c.in-Ok.ensures.session in
    let opened = subst (λ x. Shows g.M.Participant.plain c.in-Ok.opened (opening x)) (sym here) (c.in-Ok.ensures.opened seed h) in
    rw c.into-in-Err-stream.ensures
    (subst (λ (x : Setting). UndoneAfter g.S.RowSink.stage g.S.RowSink.took g.S.RowSink.part (MayLackSteps x) x
    c.args.sink.now (stream_fault_of c.in-Err-stream.halt) c.stream.new.sink) here
    (steps_undone g.S.RowSink.took g.S.RowSink.part g.S.RowSink.stage (Unit {0}) (setting_in c.in-Ok.opened seed)
    c.args.sink.now c.in-Err-stream.halt c.stream.new.sink (c.in-Err-stream.ensures.rows seed opened)
    c.in-Err-stream.ensures.stage))

pub returns-clause-last : goal.returns-clause-last
returns-clause-last g c = λ seed h.
    let here = ap (λ at. setting_on at seed) c.in-Ok.ensures.session in
    let opened = subst (λ x. Shows g.M.Participant.plain c.in-Ok.opened (opening x)) (sym here) (c.in-Ok.ensures.opened seed h) in
    let t = c.in_default.ensures.rows seed opened in
    (t.0, subst (λ (x : Setting). IsLast x t.0) here t.1, t.2, t.3)
