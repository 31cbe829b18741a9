use Rattle.srm_crew.proofs.WorkedLemmas.{tells_after}
use Rattle.srm_crew.proofs.shared.share_all.Goals as goal

pub returns-clause-work : goal.returns-clause-work
returns-clause-work g c =
    tells_after (λ x r. goal.F-post g c.args.work x r) g.D.Counted.numbers c.args.pass c.in-Ok.shared.0 c.args.seat c.in-Ok.shared.1
    c.in-Ok.shared.2.items c.work_alone.result c.in-Ok.ensures c.work_alone.ensures.work
