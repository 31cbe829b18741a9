use Rattle.srm_ledger.proofs.Keeps.{word_most}
use Rattle.srm_ledger.proofs.laws.words_never_wrap.Goals as goal

pub returns : goal.returns
returns c = λ n s k h. word_most n s k h
