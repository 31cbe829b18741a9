use Rattle.std.proofs.Common.{◌∙◌, refl, Some}
use Rattle.srm_member.specs.declared.cause.Cause.TheVariants.{Join}
use Rattle.srm_member.specs.React.{intervals_of}
use Rattle.srm_member.proofs.Calls.{call_tells}
use Rattle.srm_member.proofs.recovery.Recovery.join.Goals as goal

pub returns : goal.returns
returns c = λ at. call_tells c.args.self.now c.self.inside.gone c.self.inside.state c.self.inside.state at Join _ c.self.view_is
    c.in_ok-begin.ensures.here c.self.invariant
    (c.in_ok-react.ensures ∙ (λ i. record (c.quiet.ensures i) { adapted = Some (intervals_of c.self.inside.state) }), refl)
