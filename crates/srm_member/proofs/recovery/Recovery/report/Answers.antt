use Rattle.std.proofs.Common.{refl}
use Rattle.srm_member.specs.declared.cause.Cause.TheVariants.{Report}
use Rattle.srm_member.proofs.Calls.{call_gives}
use Rattle.srm_member.proofs.recovery.Recovery.report.Goals as goal

pub returns : goal.returns
returns c = λ at. call_gives c.args.self.now c.self.inside.gone c.self.inside.state c.self.inside.state at Report
    c.in_ok-outcome.outcome _ _ c.self.view_is c.in_ok-begin.ensures.here c.self.invariant refl c.in_ok-outcome.ensures
    c.intervals-before.ensures c.in_ok-react.ensures
