use Rattle.std.proofs.Common.{◌≡◌, ◌++◌, drop, string_bytes}
use Rattle.srm_explain.specs.RuleDocument.{top_tables}
use Rattle.srm_explain.proofs.rule_document.top_tables.Given as goal

-- the tables so far, and those that are still to come
abbrev pub invariant-loop-layout : goal.invariant-loop-layout
invariant-loop-layout l =
    string_bytes l.told ++ top_tables l.version (drop l.layout-index l.layouts) ≡ top_tables l.version l.layouts
