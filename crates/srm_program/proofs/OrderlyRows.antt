-- The rows of a run are as the table of losses asks.
use Rattle.std.proofs.Common.{◌∙◌, ℕ, List, [], length, sym, append-nil}
use Rattle.srm_scenario.specs.Accepted.{IsAccepted}
use Rattle.srm_scenario.specs.Plain.{PlainScenario}
use Rattle.srm_member.specs.declared.exit.Exit.{Exit}
use Rattle.srm_member.specs.declared.row.Row.{Row}
use Rattle.srm_member.specs.Orderly.{IsOrderly}
use Rattle.srm_cell.specs.Setting.{setting_of}
use Rattle.srm_model.specs.World.{IsOutcome}
use Rattle.srm_model.proofs.OrderlyRuns.{traces_are_orderly}

-- the rows of the run of an accepted scenario
pub orderly_rows : (p : PlainScenario) (seed : ℕ) (rows : List Row) (exits : List Exit) (totals : List ℕ) → IsAccepted p
    → IsOutcome (setting_of p seed) rows exits totals → IsOrderly (length p.members) rows
orderly_rows p seed rows exits totals ok o =
    traces_are_orderly p seed ok o.world o.last.reached rows [] (sym o.trace_is ∙ sym (append-nil rows))
