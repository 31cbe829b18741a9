use Rattle.srm_roles.proofs.Listening.{listener_gives}
use Rattle.srm_roles.proofs.listener.ListenerMember.react.Goals as goal

pub returns : goal.returns
returns c =
    listener_gives c.args.self.now c.self.inside.gone c.self.inside.fixed c.self.inside.held c.listen.new.held c.args._at c.args.cause.now
    c.in_ok-told.told _ c.self.view_is c.in_ok-begin.ensures.here c.self.invariant c.in_ok-told.ensures.ok c.quiet.ensures
