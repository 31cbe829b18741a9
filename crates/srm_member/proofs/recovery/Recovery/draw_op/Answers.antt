use Rattle.std.proofs.Common.{refl}
use Rattle.srm_member.specs.declared.cause.Cause.TheVariants.{Draw}
use Rattle.srm_member.proofs.Calls.{call_gives}
use Rattle.srm_member.proofs.recovery.Recovery.draw_op.Goals as goal

pub returns : goal.returns
returns c = call_gives c.args.self.now c.self.inside.gone c.self.inside.state c.draw_op.new.self c.args.at (Draw c.args.page c.args.ink)
    c.in_ok-outcome.outcome _ _ c.self.view_is c.in_ok-begin.ensures.here c.self.invariant refl c.in_ok-outcome.ensures.ok
    c.intervals-before.ensures c.in_ok-react.ensures
