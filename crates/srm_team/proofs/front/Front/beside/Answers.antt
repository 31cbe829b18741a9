use Rattle.std.proofs.Common.{ap, subst, List}
use mathlib.Core.List.{IsPrefix}
use Rattle.srm_team.proofs.Fronts.{prefix_agree}
use Rattle.srm_team.proofs.front.Front.beside.Goals as goal

pub returns : goal.returns
returns g c = λ n a b h k.
    let both = c.learn.new.self.log in
    let this : IsPrefix c.self.inside.seen.log both =
    subst (λ (l : List _). IsPrefix l both) (ap (λ s. s.log) c.again-both.ensures) c.learn.ensures.2 in
    prefix_agree c.self.inside.seen.log c.other.inside.seen.log both n a b this c.learn.ensures.3 (rw (c.self.view_is) h)
    (rw (c.other.view_is) k)
