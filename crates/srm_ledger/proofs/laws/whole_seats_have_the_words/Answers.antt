use Rattle.srm_ledger.proofs.Keeps.{whole_words}
use Rattle.srm_ledger.proofs.laws.whole_seats_have_the_words.Goals as goal

pub returns : goal.returns
returns c = λ n s j v h at whole k. whole_words n s j v h at whole k
