-- What an outlet took of a table that was written at the end of a run.
use Rattle.std.proofs.Common.{◌≡◌, ℕ, ◌<◌, List, length, take, Option, Result, Ok, Err, subst}
use Rattle.std.specs.Io.KnownBytes.{Appends}
use Rattle.srm_scenario.specs.Plain.{PlainScenario}
use Rattle.srm_member.specs.declared.row.Row.{Row}
use Rattle.srm_member.specs.declared.exit.Exit.{Exit}
use Rattle.srm_cell.specs.Setting.{setting_of}
use Rattle.srm_model.specs.World.{IsOutcome}
use Rattle.srm_program.specs.declared.fault.LabFault.{LabFault}
use Rattle.srm_program.specs.declared.fault.LabFault.TheVariants.{BadCut, BadWidth, ShareFull, NoMemory, CountFull, WriteFault}
use Rattle.srm_options.specs.declared.options.Show.{Show}
use Rattle.srm_options.specs.declared.options.Engine.TheVariants.{Window}
use Rattle.srm_options.specs.declared.options.Options.{Options}
use Rattle.srm_program.specs.Reports.{report_of, table_shown, Writes, TellsTable}
use Rattle.srm_program.specs.Runs.{MayBeCut, TellsRefusedFor}

module _ (p : PlainScenario) (seed : ℕ) (show : Show) (rows : List Row) (exits : List Exit) (totals : List ℕ)
    (o : IsOutcome (setting_of p seed) rows exits totals) where
  -- the table is a function of the world in which the run ends
  report_is : table_shown show p rows totals ≡ report_of show p o.world
  report_is = λ i. table_shown show p (o.trace_is i) (o.totals_are i)

  pub table_told : {T : Type 0} (old new : Option (List ℕ)) (r : Result T LabFault) → Writes old new (table_shown show p rows totals) r
      → TellsTable p seed show old new r
  table_told old new (Ok v) w = (o.world, o.last, subst (λ (t : List ℕ). Appends old new t) report_is w)
  table_told old new (Err NoMemory) w = w
  table_told old new (Err (WriteFault n)) w =
      let t = subst (λ (t : List ℕ). Appends old new (take n t) × (n < length t)) report_is w in (o.world, o.last, t.0, t.1)
  table_told old new (Err BadCut) w = absurd w
  table_told old new (Err BadWidth) w = absurd w
  table_told old new (Err ShareFull) w = absurd w
  table_told old new (Err CountFull) w = absurd w

-- what is written after a whole run is refused for no reason of the engine's
pub asked_told : {T : Type 0} (p : PlainScenario) (seed : ℕ) (o : Options)
    → (o.engine ≡ Window → MayBeCut p o) → (old new : Option (List ℕ)) (report : List ℕ) (r : Result T LabFault)
    → Writes old new report r → TellsRefusedFor p seed o r
asked_told p seed o h old new report (Ok v) w = h
asked_told p seed o h old new report (Err NoMemory) w = h
asked_told p seed o h old new report (Err (WriteFault n)) w = h
asked_told p seed o h old new report (Err BadCut) w = absurd w
asked_told p seed o h old new report (Err BadWidth) w = absurd w
asked_told p seed o h old new report (Err ShareFull) w = absurd w
asked_told p seed o h old new report (Err CountFull) w = absurd w
