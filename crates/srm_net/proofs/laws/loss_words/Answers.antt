use Rattle.std.proofs.Common.{refl}
use Rattle.srm_net.specs.Losses.{mix, loss_word}
use Rattle.srm_net.proofs.laws.loss_words.Goals as goal

pub returns-clause-first : goal.returns-clause-first
unfolding mix loss_word
returns-clause-first c = refl

pub returns-clause-next : goal.returns-clause-next
unfolding mix loss_word
returns-clause-next c = refl

pub returns-clause-exchanged : goal.returns-clause-exchanged
unfolding mix loss_word
returns-clause-exchanged c = refl

pub returns-clause-other_seed : goal.returns-clause-other_seed
unfolding mix loss_word
returns-clause-other_seed c = refl

pub returns-clause-other_stream : goal.returns-clause-other_stream
unfolding mix loss_word
returns-clause-other_stream c = refl

pub returns-clause-last_of_slot : goal.returns-clause-last_of_slot
unfolding mix loss_word
returns-clause-last_of_slot c = refl

pub returns-clause-next_slot : goal.returns-clause-next_slot
unfolding mix loss_word
returns-clause-next_slot c = refl
