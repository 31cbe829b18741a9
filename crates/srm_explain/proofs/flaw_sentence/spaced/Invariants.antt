use Rattle.std.proofs.Common.{◌≡◌, ◌++◌, drop, string_bytes}
use Rattle.srm_explain.specs.Flaws.{spaced}
use Rattle.srm_explain.proofs.flaw_sentence.spaced.Given as goal

-- the numbers so far, and those that are still to come
abbrev pub invariant-loop-number : goal.invariant-loop-number
invariant-loop-number l = string_bytes l.told ++ spaced (drop l.number-index l.numbers) ≡ spaced l.numbers
