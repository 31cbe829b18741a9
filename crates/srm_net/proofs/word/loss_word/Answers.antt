use Rattle.std.proofs.Common.{rules}
use Rattle.srm_net.specs.Losses.{loss_word}
use Rattle.srm_net.proofs.word.loss_word.Goals as goal

pub returns : goal.returns
unfolding loss_word
returns c = search rules
