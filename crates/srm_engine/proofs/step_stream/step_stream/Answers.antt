use Rattle.std.proofs.Common.{◌∙◌, refl, sym, ap, subst}
use Rattle.srm_scenario.specs.declared.session.Session.{Session}
use Rattle.srm_cell.specs.Crossings.{packets_of}
use Rattle.srm_cell.specs.Setting.{setting_of}
use Rattle.srm_cell.specs.Tallies.{Tallies, tallied}
use Rattle.srm_engine.proofs.ExitsKept.{all_end}
use Rattle.srm_engine.proofs.PhaseLemmas.{exits_are}
use Rattle.srm_engine.proofs.StreamLemmas.{front_taken, run_totals}
use Rattle.srm_engine.proofs.step_stream.step_stream.Goals as goal

pub finish_cells-requires : goal.finish_cells-requires
finish_cells-requires g c =
    let seed = c.requires.boxes.0 in
    let t = c.in-Ok.ensures.last seed c.requires.boxes.1 in
    all_end _ (setting_of c.args.scenario.now seed) c.in-Ok.ran.cells.cells.items t.0 t.1.reached
    (t.3.seen.0.order, t.3.seen.1)

pub into_totals-requires : goal.into_totals-requires
into_totals-requires g c =
    let t = c.in-Ok.ensures.last c.requires.boxes.0 c.requires.boxes.1 in
    let ran = c.in-Ok.ran in (
      ran.session.scenario.now,
      packets_of t.0.trace,
      subst (λ (at : Session). Tallies ran.session.scenario.now at.net.now (packets_of t.0.trace) ran.tally)
          (sym c.as_session.ensures) t.3.counted,
    )

pub returns-clause-stream : goal.returns-clause-stream
returns-clause-stream g c = λ seed h.
    let t = c.in-Ok.ensures.last seed h in (
      t.0,
      t.1.reached,
      front_taken g.S.RowSink.took g.S.RowSink.part g.met.S.RowSink.part_none g.met.S.RowSink.part_more c.args.sink.now
          c.run.new.sink t.0.trace t.2,
    )

pub returns-in-Ok-finish_cells-clause-stream : goal.returns-in-Ok-finish_cells-clause-stream
returns-in-Ok-finish_cells-clause-stream g c = λ seed h.
    let t = c.in-Ok.ensures.last seed h in (
      t.0.trace,
      record {
        world = t.0;
        last = t.1;
        trace_is = refl;
        exits_are = exits_are _ _ t.0 c.in-Ok-finish_cells.exits.items (t.3.seen.0.order, t.3.seen.1) c.in-Ok-finish_cells.ensures;
        totals_are = run_totals c.in-Ok.ran _ seed t.0 c.into_totals.result c.in-Ok.ensures.session
            t.3.counted (c.into_totals.ensures
            ∙ ap (λ (at : Session). tallied at.net.now c.in-Ok.ran.tally) c.as_session.ensures);
      },
      t.2,
    )
