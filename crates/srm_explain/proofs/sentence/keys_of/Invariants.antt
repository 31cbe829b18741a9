use Rattle.std.proofs.Common.{◌≡◌, ◌++◌, drop, string_bytes}
use Rattle.srm_explain.specs.Findings.{keys_of}
use Rattle.srm_explain.proofs.sentence.keys_of.Given as goal

-- the keys so far, and those that are still to come
abbrev pub invariant-loop-rule : goal.invariant-loop-rule
invariant-loop-rule l = string_bytes l.keys ++ keys_of (drop l.rule-index l.rules) ≡ keys_of l.rules
