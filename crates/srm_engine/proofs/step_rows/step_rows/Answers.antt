use Rattle.std.proofs.Common.{◌∙◌, refl, sym, ap, subst}
use Rattle.srm_scenario.specs.declared.session.Session.{Session}
use Rattle.srm_cell.specs.Crossings.{packets_of}
use Rattle.srm_cell.specs.Tallies.{Tallies, tallied}
use Rattle.srm_model.specs.World.{exits_of}
use Rattle.srm_engine.proofs.StreamLemmas.{run_totals}
use Rattle.srm_engine.proofs.step_rows.step_rows.Goals as goal

pub into_totals-requires : goal.into_totals-requires
into_totals-requires g c =
    let t = c.in-Ok.ensures.last _ c.args.start.opening in
    let ran = c.in-Ok.ran in (
      ran.session.scenario.now,
      packets_of t.0.trace,
      subst (λ (at : Session). Tallies ran.session.scenario.now at.net.now (packets_of t.0.trace) ran.tally)
          (sym c.as_session.ensures) t.3.counted,
    )

pub returns-in-Err-clause-undone : goal.returns-in-Err-clause-undone
returns-in-Err-clause-undone g c = c.in-Err.ensures.undone

pub returns-in-Ok-clause-totals : goal.returns-in-Ok-clause-totals
returns-in-Ok-clause-totals g c = λ seed h.
    let t = c.in-Ok.ensures.last seed h in (
      t.0.trace,
      exits_of t.0,
      record {
        world = t.0;
        last = t.1;
        trace_is = refl;
        exits_are = refl;
        totals_are = run_totals c.in-Ok.ran c.args.start.session seed t.0 c.into_totals.result
            c.in-Ok.ensures.session t.3.counted (c.into_totals.ensures
            ∙ ap (λ (at : Session). tallied at.net.now c.in-Ok.ran.tally) c.as_session.ensures);
      },
      t.2,
    )
