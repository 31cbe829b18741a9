use Rattle.std.proofs.Common.{◌≡◌, ◌++◌, drop, string_bytes}
use Rattle.srm_explain.specs.RuleDocument.{element_tables}
use Rattle.srm_explain.proofs.rule_document.element_tables.Given as goal

-- the tables so far, and those that are still to come
abbrev pub invariant-loop-part : goal.invariant-loop-part
invariant-loop-part l =
    string_bytes l.told ++ element_tables l.version (drop l.part-index l.parts) ≡ element_tables l.version l.parts
