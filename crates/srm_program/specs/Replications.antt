-- Runs of one scenario that differ in their seed alone, and their table.
use Rattle.std.specs.Prelude.{◌≡◌, ◌⊎◌, ℕ, ◌+◌, ◌≤◌, ◌<◌, List, [], ◌∷◌, ◌++◌, ◌-◌, length, codes, Option}
use Rattle.std.specs.Prelude.{Result, Ok, Err}
use Rattle.std.specs.Global.{Vec}
use Rattle.std.specs.Io.KnownBytes.{Appends, Keeps}
use Rattle.srm_scenario.specs.Plain.{PlainScenario}
use Rattle.srm_scenario.specs.Plain as plain
use Rattle.srm_cell.specs.Setting.{setting_of}
use Rattle.srm_model.specs.World.{World, IsLast, RunMeetsFull}
use Rattle.srm_options.specs.declared.options.Engine.TheVariants.{Step}
use Rattle.srm_options.specs.declared.options.Options.{Options}
use Rattle.srm_options.specs.declared.options.Show.{Show}
use Rattle.srm_report.specs.Seeds.{with_seed}
use Rattle.srm_report.specs.Standings.{GrewBy}
use Rattle.srm_report.specs.Tables.{lines_of, table_lines}
use Rattle.srm_program.specs.declared.fault.LabFault.{LabFault}
use Rattle.srm_program.specs.declared.fault.LabFault.TheVariants.{NoMemory, CountFull, WriteFault}
use Rattle.srm_report.specs.declared.outlet.Outlet as outlet
use Rattle.srm_program.specs.declared.replications.ShownRuns.{ShownRuns}
use Rattle.srm_program.specs.Reports.{columns_shown, rows_of_run, failures_after_run}
use Rattle.srm_program.specs.Runs.{MayShareBag}

-- ---- replications

-- runs of a scenario, so many, the first with this seed and each other with the next, and the table that is shown of
-- each
pub record Series : Type 0 where
  pub scenario : PlainScenario
  pub first : ℕ
  pub count : ℕ
  pub show : Show

-- the run of a scenario with this seed, which is that of its losses too, ends in this world
abbrev pub EndsOfSeed : PlainScenario → ℕ → World → Type 0
EndsOfSeed p seed w = IsLast (setting_of (plain.with_seed p seed) seed) w

-- the rows of the table of such a run, with the seed in front
abbrev pub rows_of_seed : Show → PlainScenario → ℕ → World → List (List (List ℕ))
rows_of_seed show p seed w = with_seed seed (rows_of_run show (plain.with_seed p seed) w)

-- the run with this seed meets a step for which the packet count is used up
abbrev pub MeetsFullOfSeed : PlainScenario → ℕ → Type 0
MeetsFullOfSeed p seed = RunMeetsFull (setting_of (plain.with_seed p seed) seed)

-- the rows of runs that ended in these worlds, the first with this seed and each other with the next: those of the
-- run's table, with the seed in front
abbrev pub replicated_rows : Show → PlainScenario → ℕ → List World → List (List (List ℕ))
replicated_rows show p seed [] = []
replicated_rows show p seed (w ∷ ws) =
    rows_of_seed show p seed w ++ replicated_rows show p (seed + 1) ws

-- the table of the first runs of a series, which ended in these worlds: the columns are the seed and those of the
-- run's table
abbrev pub replications_of : Series → List World → List ℕ
replications_of a ws =
    table_lines (codes "seed" ∷ columns_shown a.show) (replicated_rows a.show a.scenario a.first ws)

-- the sequential runs of a scenario, the first with this seed and each other with the next, end in these worlds
abbrev pub EndInTurn : PlainScenario → ℕ → List World → Type 0
EndInTurn p seed [] = Unit {0}
EndInTurn p seed (w ∷ ws) = EndsOfSeed p seed w × EndInTurn p (seed + 1) ws

-- an outlet took the table of the first runs of a series, which end in these worlds
abbrev pub TakesRuns : Series → List World → Option (List ℕ) → Option (List ℕ) → Type 0
TakesRuns a ws old new = EndInTurn a.scenario a.first ws × Appends old new (replications_of a ws)

-- an outlet took a front of that table, but not all of it, and as many bytes as are told, up to 2^64 - 1
abbrev pub TakesFrontOfRuns : Series → List World → Option (List ℕ) → Option (List ℕ) → ℕ → Type 0
TakesFrontOfRuns a ws old new written =
    EndInTurn a.scenario a.first ws
    × ((out rest : List ℕ) × (replications_of a ws ≡ out ++ rest) × (0 < length rest)
    × Appends old new out × GrewBy 0 (length out) written)

-- what an outlet took of a series: the table of all runs; or, where the outlet failed, a front of it; or, after another
-- refusal, the table of the runs before the one that was refused, of which CountFull says that it meets a step for
-- which the packet count is used up. It took nothing where memory ran out before the first run
abbrev pub TellsReplications : {T : Type 0} → Series
    → Option (List ℕ) → Option (List ℕ) → Result T LabFault → Type 0
TellsReplications a old new (Ok v) = (ws : List World) × (length ws ≡ a.count) × TakesRuns a ws old new
TellsReplications a old new (Err (WriteFault written)) =
    (ws : List World) × (length ws ≤ a.count) × TakesFrontOfRuns a ws old new written
TellsReplications a old new (Err CountFull) =
    (ws : List World) × (length ws < a.count) × TakesRuns a ws old new
    × MeetsFullOfSeed a.scenario (a.first + length ws)
TellsReplications a old new (Err NoMemory) =
    Keeps old new ⊎ ((ws : List World) × (length ws ≤ a.count) × TakesRuns a ws old new)
TellsReplications a old new (Err f) = ⊥

-- the runs of a scenario that a span asks for
abbrev pub series_of : PlainScenario → ShownRuns → Series
series_of p span = record {
  scenario = p;
  first = span.first;
  count = span.end - span.first;
  show = span.show;
}

-- what comes of a series: how often the outlet failed, and what it took
abbrev pub AreReplicated : {O : Type 0} → outlet.Ghosts O → Series → O → Result (Unit {0}) LabFault → O → Type 0
AreReplicated o a old r new =
    (o.failures new ≡ failures_after_run r (o.failures old))
    × TellsReplications a (o.taken old) (o.taken new) r

-- ---- texts that are written one after the other

-- a text was taken, and its bytes were counted; or a front of it, but not all of it, and the fault tells all bytes that
-- were taken
abbrev pub PutsNext : {T : Type 0} → Option (List ℕ) → ℕ → List ℕ → Result T LabFault → Option (List ℕ) → ℕ → Type 0
PutsNext old n text (Ok v) new m = Appends old new text × GrewBy n (length text) m
PutsNext old n text (Err (WriteFault written)) new m =
    (out rest : List ℕ) × (text ≡ out ++ rest) × (0 < length rest) × Appends old new out × GrewBy n (length out) written
PutsNext old n text (Err f) new m = ⊥

-- ---- the run of one seed

-- what comes of the run of a scenario, as it is, with words of this seed: the lines of its rows, each with the seed in
-- front; or a refusal
abbrev pub GivesLines : PlainScenario → Show → ℕ → Result (Vec ℕ) LabFault → Type 0
GivesLines p show seed (Ok text) =
    (w : World) × IsLast (setting_of p seed) w × (text.items ≡ lines_of (with_seed seed (rows_of_run show p w)))
GivesLines p show seed (Err CountFull) = RunMeetsFull (setting_of p seed)
GivesLines p show seed (Err NoMemory) = Unit {0}
GivesLines p show seed (Err f) = ⊥

-- what comes of the run of one seed, which is that of its losses too
abbrev pub MakesLines : PlainScenario → Show → ℕ → Result (Vec ℕ) LabFault → Type 0
MakesLines p show seed r = GivesLines (plain.with_seed p seed) show seed r

-- what comes of each seed is that of its run
abbrev pub MakesEach :
    (ℕ → Result (Vec ℕ) LabFault → Type 0) → PlainScenario → Show → Type 0
MakesEach gives p show = (seed : ℕ) (r : Result (Vec ℕ) LabFault) → gives seed r → MakesLines p show seed r

-- runs may be replicated so
abbrev pub MayReplicate : Options → Type 0
MayReplicate o = (o.engine ≡ Step) × MayShareBag o.workers
