use Rattle.srm_ledger.proofs.laws.reads_are_not_above.Goals as goal

pub returns : goal.returns
returns c = λ n s j v h at. (h.seats j v at).known
