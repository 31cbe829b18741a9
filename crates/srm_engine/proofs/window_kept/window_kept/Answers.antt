use Rattle.std.proofs.Common.{◌∙◌, refl, sym, ap}
use Rattle.srm_cell.specs.Setting.{Setting}
use Rattle.srm_cell.specs.Crossings.{crossings}
use Rattle.srm_model.specs.World.{exits_of}
use Rattle.srm_engine.proofs.window_kept.window_kept.Goals as goal

pub returns-in-Ok-clause-totals : goal.returns-in-Ok-clause-totals
returns-in-Ok-clause-totals g c = λ seed h.
    let t = c.in-Ok.ensures.last seed h in (
      t.0.trace,
      exits_of t.0,
      record {
        world = t.0;
        last = t.1;
        trace_is = refl;
        exits_are = refl;
        totals_are = c.into_totals.ensures t.3.0 t.3.2.0 t.0 t.3.2.1
            ∙ ap (λ (s : Setting). crossings s.traffic t.0.trace) (sym t.3.1);
      },
      t.2,
    )
