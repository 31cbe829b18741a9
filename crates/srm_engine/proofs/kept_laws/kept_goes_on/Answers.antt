use Rattle.srm_engine.proofs.KeptLemmas.{kept_goes_on as the_law}
use Rattle.srm_engine.proofs.kept_laws.kept_goes_on.Goals as goal

pub returns : goal.returns
returns g c = the_law (g.W.Watch.keeps c.args.watch.now)
