use Rattle.std.proofs.Common.{refl}
use Rattle.srm_net.specs.Losses.{mix, loss_word}
use Rattle.srm_net.specs.Paths.{route_within, route, reaches, drops_at}
use Rattle.srm_net.proofs.laws.small_losses.Goals as goal

pub returns-clause-taken : goal.returns-clause-taken
unfolding mix loss_word route_within route reaches
returns-clause-taken c = refl

pub returns-clause-dropped : goal.returns-clause-dropped
unfolding mix loss_word route_within route drops_at
returns-clause-dropped c = refl

pub returns-clause-near : goal.returns-clause-near
unfolding mix loss_word route_within route reaches
returns-clause-near c = refl

pub returns-clause-spared : goal.returns-clause-spared
unfolding mix loss_word route_within route reaches
returns-clause-spared c = refl

pub returns-clause-in_time : goal.returns-clause-in_time
unfolding mix loss_word route_within route reaches
returns-clause-in_time c = refl

pub returns-clause-over : goal.returns-clause-over
unfolding mix loss_word route_within route reaches
returns-clause-over c = refl

pub returns-clause-not_yet : goal.returns-clause-not_yet
unfolding mix loss_word route_within route reaches
returns-clause-not_yet c = refl
