use Rattle.std.proofs.Common.{◌≡◌, ◌-◌, ◌≤◌, ℕ, List, length}
use Rattle.srm_report.specs.Seeds.{IsLine, AreLines}
use Rattle.srm_report.specs.Tables.{table_lines}
use Rattle.srm_report.proofs.SeedLemmas.{IsAt}
use Rattle.srm_report.proofs.seeds.seeded_lines.Given as goal

-- the lines so far, of any rows of which this is the table
abbrev pub invariant-loop-start : goal.invariant-loop-start
invariant-loop-start l = record {
  within : l.start ≤ length l.table;
  at : (columns : List (List ℕ)) (rows : List (List (List ℕ))) → IsLine columns → AreLines rows → l.table ≡ table_lines columns rows
      → IsAt l.fn.seed rows l.table l.start l.text.items;
}

abbrev pub decreases-loop-start : goal.decreases-loop-start
decreases-loop-start l = length l.table - l.start
