use Rattle.std.proofs.Common.{sym}
use Rattle.srm_crew.proofs.JobsShared.{each_long, jobs_settled}
use Rattle.srm_crew.proofs.plain.PlainCrewCrew.map.Goals as goal

pub settle-requires-clause-long : goal.settle-requires-clause-long
settle-requires-clause-long g c = each_long g.M.Participant.plain c.args.scenario.now c.args.net.now
    c.args.ledger.now.links c.args.jobs.items c.advance_each-advanced.result (sym c.requires.may.links) c.advance_each-advanced.ensures

pub returns-clause-done : goal.returns-clause-done
returns-clause-done g c = jobs_settled g.M.Participant.plain c.args.scenario.now c.args.net.now c.args.seat c.args.jobs.items
    c.advance_each-advanced.result c.settle.result c.advance_each-advanced.ensures c.settle.ensures
