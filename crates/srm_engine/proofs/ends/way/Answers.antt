use Rattle.std.proofs.Common.{◌∙◌}
use Rattle.srm_engine.proofs.Ways.{way_of_other}
use Rattle.srm_engine.proofs.ends.way.Goals as goal

pub returns-in_default : goal.returns-in_default
returns-in_default c = λ seed. c.out-nearest.ensures.value ∙ way_of_other c.args.session.scenario.now c.args.session.net.now seed
    c.args.member
    c.role.result c.args.session.network c.role.ensures (λ e. c.in_default.not-Listener e)
