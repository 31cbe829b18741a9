use Rattle.std.proofs.Common.{◌≡◌, ◌++◌, drop, string_bytes}
use Rattle.srm_explain.specs.RuleTexts.{lines_from, rule_lines}
use Rattle.srm_explain.proofs.rule_text.rule_lines.Given as goal

-- the rules so far, and those that are still to come
abbrev pub invariant-loop-rule : goal.invariant-loop-rule
invariant-loop-rule l =
    string_bytes l.told ++ lines_from l.is_first l.part (drop l.rule-index l.rules) ≡ rule_lines l.part l.rules
