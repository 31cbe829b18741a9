use Rattle.std.proofs.Common.{IfSome}
use Rattle.srm_explain.specs.Findings.{HasKey}
use Rattle.srm_explain.proofs.nearest.nearest.Given as goal

-- what is the nearest so far is the key of one of the rules
abbrev pub invariant-loop-rule : goal.invariant-loop-rule
invariant-loop-rule l = IfSome l.near (HasKey l.rules)
