use Rattle.std.proofs.Common.{◌∙◌}
use Rattle.srm_engine.specs.Soonest.{first_time}
use Rattle.srm_engine.specs.WindowEngines.{setting_by}
use Rattle.srm_engine.proofs.SoonLemmas.{begins_at}
use Rattle.srm_engine.proofs.window_engine.WindowEngine.begin.Goals as goal

pub returns : goal.returns
returns g c = λ seed begins w comes.
    let e = c.args.self.now in
    c.least.ensures
    ∙ (λ i. first_time (c.until.ensures.until i) ((c.as_slice.ensures.value ∙ comes.kept.soon) i))
    ∙ begins_at g.M.Participant.plain (setting_by e seed) e.groups.groups.items w comes.kept.grouped.order comes.shown
