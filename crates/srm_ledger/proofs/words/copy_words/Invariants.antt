use Rattle.std.proofs.Common.{◌≡◌}
use Rattle.srm_ledger.proofs.words.copy_words.Given as goal

abbrev pub invariant-loop-i : goal.invariant-loop-i
invariant-loop-i l = l.into.items ≡ l.initial.into.items
