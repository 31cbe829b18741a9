use Rattle.std.proofs.Common.{◌∙◌}
use Rattle.srm_engine.specs.Ends.{end_from}
use Rattle.srm_engine.proofs.WindowLemmas.{ends_at, next}
use Rattle.srm_engine.proofs.window_engine.WindowEngine.end.Goals as goal

pub returns : goal.returns
returns g c = λ seed begins w comes.
    let f = g.M.Participant.plain in
    let e = c.args.self.now in
    let k = c.requires in (
      next f e k.stands seed begins w comes c.args.begin k.begin k.early,
      c.end.ensures
          ∙ (λ i. end_from e.ends (c.as_slice.ensures.value i) c.args.begin (c.until.ensures.until i))
          ∙ ends_at f e k.stands seed begins w comes c.args.begin k.begin k.early,
    )
