use Rattle.std.proofs.Common.{◌≡◌, ◌++◌, drop, string_bytes}
use Rattle.srm_explain.specs.RuleDocument.{version_texts}
use Rattle.srm_explain.proofs.rule_document.version_texts.Given as goal

-- the versions so far, and those that are still to come
abbrev pub invariant-loop-version : goal.invariant-loop-version
invariant-loop-version l = string_bytes l.told ++ version_texts (drop l.version-index l.versions) ≡ version_texts l.versions
