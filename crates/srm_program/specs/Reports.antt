-- The report of a run, and what an outlet takes of it.
use Rattle.std.specs.Prelude.{◌≡◌, ℕ, ◌+◌, ◌<◌, List, ◌++◌, length, map, take, Option, Result, Ok, Err}
use Rattle.std.specs.List.{flat_map}
use Rattle.std.specs.Io.KnownBytes.{Appends, Keeps}
use Rattle.srm_net.specs.Orders.{ordered}
use Rattle.srm_scenario.specs.Plain.{PlainScenario, network_of}
use Rattle.srm_member.specs.declared.row.Row.{Row}
use Rattle.srm_cell.specs.Crossings.{crossings}
use Rattle.srm_cell.specs.Setting.{Setting, setting_of, traffic_of}
use Rattle.srm_model.specs.World.{World, IsReached, IsLast, RunMeetsFull}
use Rattle.srm_report.specs.Links.{link_columns, link_rows}
use Rattle.srm_report.specs.Losses.{loss_columns, loss_cmp, loss_row, losses_in}
use Rattle.srm_report.specs.Members.{member_columns, member_rows}
use Rattle.srm_report.specs.Operations.{names_lost, operation_columns, operation_row}
use Rattle.srm_report.specs.Scopes.{scope_columns, scope_rows}
use Rattle.srm_report.specs.Standings.{GrewBy}
use Rattle.srm_report.specs.Tables.{table_lines}
use Rattle.srm_report.specs.Timers.{timers_columns, timers_rows}
use Rattle.srm_report.specs.Trace.{trace_columns, trace_fields}
use Rattle.srm_program.specs.declared.fault.LabFault.{LabFault}
use Rattle.srm_program.specs.declared.fault.LabFault.TheVariants.{BadCut, BadWidth, ShareFull, NoMemory, CountFull}
use Rattle.srm_program.specs.declared.fault.LabFault.TheVariants.{WriteFault}
use Rattle.srm_options.specs.declared.options.Show.{Show}
use Rattle.srm_options.specs.declared.options.Show.TheVariants.{Trace, Members, Losses, Operations, Links, Timers}
use Rattle.srm_options.specs.declared.options.Show.TheVariants.{Scopes}

-- the columns of a table
abbrev pub columns_shown : Show → List (List ℕ)
columns_shown Trace = trace_columns
columns_shown Members = member_columns
columns_shown Losses = loss_columns
columns_shown Operations = operation_columns
columns_shown Links = link_columns
columns_shown Timers = timers_columns
columns_shown Scopes = scope_columns

-- the rows of a table, each as its fields, of a run of a scenario that left these rows and totals
abbrev pub rows_shown : Show → PlainScenario → List Row → List ℕ → List (List (List ℕ))
rows_shown Trace p rows totals = map trace_fields rows
rows_shown Members p rows totals = member_rows rows 0 p.members
rows_shown Losses p rows totals = map (loss_row (network_of p) rows) (ordered loss_cmp (losses_in rows))
rows_shown Operations p rows totals = map (operation_row (network_of p) rows) (names_lost rows)
rows_shown Links p rows totals = link_rows totals
rows_shown Timers p rows totals = flat_map timers_rows rows
rows_shown Scopes p rows totals = scope_rows rows

-- the table of a run that left these rows and totals
abbrev pub table_shown : Show → PlainScenario → List Row → List ℕ → List ℕ
table_shown show p rows totals = table_lines (columns_shown show) (rows_shown show p rows totals)

-- the rows of a run that ended in this world: its totals are the crossings of its packets
abbrev pub rows_of_run : Show → PlainScenario → World → List (List (List ℕ))
rows_of_run show p w = rows_shown show p w.trace (crossings (traffic_of p (network_of p)) w.trace)

-- the report of such a run: the line of its table's columns, and then the lines of its rows
abbrev pub report_of : Show → PlainScenario → World → List ℕ
report_of show p w = table_lines (columns_shown show) (rows_of_run show p w)

-- the count of an outlet's failures after a report was written to it: one more exactly where the answer is that it
-- failed
abbrev pub failures_after_run : {T : Type 0} → Result T LabFault → ℕ → ℕ
failures_after_run (Err (WriteFault written)) n = n + 1
failures_after_run r n = n

-- what an outlet took of a report: all of it, or as many bytes as the fault tells; and nothing where memory ran out
abbrev pub Writes : {T : Type 0} → Option (List ℕ) → Option (List ℕ) → List ℕ → Result T LabFault → Type 0
Writes old new report (Ok v) = Appends old new report
Writes old new report (Err NoMemory) = Keeps old new
Writes old new report (Err (WriteFault written)) = Appends old new (take written report) × (written < length report)
Writes old new report (Err f) = ⊥

-- what an outlet took of a table of a scenario's sequential run with random words of this seed, which ends in a world:
-- all of it, or as many bytes as the fault tells; and nothing after another refusal, of which CountFull says that the
-- run meets a step for which the packet count is used up
abbrev pub TellsTable : {T : Type 0} → PlainScenario → ℕ → Show
    → Option (List ℕ) → Option (List ℕ) → Result T LabFault → Type 0
TellsTable p seed show old new (Ok v) =
    (w : World) × IsLast (setting_of p seed) w × Appends old new (report_of show p w)
TellsTable p seed show old new (Err (WriteFault written)) =
    (w : World) × IsLast (setting_of p seed) w
    × Appends old new (take written (report_of show p w)) × (written < length (report_of show p w))
TellsTable p seed show old new (Err CountFull) = RunMeetsFull (setting_of p seed) × Keeps old new
TellsTable p seed show old new (Err f) = Keeps old new

-- ---- tables that list rows

-- an outlet took these bytes, a front of the table of the sequential run which lists its rows in this text: of its rows
-- up to some event
abbrev pub TakesFront :
    (List Row → List ℕ) → Setting → Option (List ℕ) → Option (List ℕ) → List ℕ → Type 0
TakesFront text s old new out =
    (w : World) × IsReached s w × ((rest : List ℕ) × (text w.trace ≡ out ++ rest)) × Appends old new out

-- what an outlet took of a table of the sequential run which lists its rows in this text: all of it; or a front of it,
-- of as many bytes as a fault of the outlet tells, up to 2^64 - 1; or nothing, where the cut or the width was refused.
-- CountFull says that the run meets a step for which the packet count is used up
abbrev pub TellsListing : {T : Type 0} → (List Row → List ℕ) → Setting
    → Option (List ℕ) → Option (List ℕ) → Result T LabFault → Type 0
TellsListing text s old new (Ok v) = (w : World) × IsLast s w × Appends old new (text w.trace)
TellsListing text s old new (Err (WriteFault written)) =
    (out : List ℕ) × TakesFront text s old new out × GrewBy 0 (length out) written
TellsListing text s old new (Err CountFull) = RunMeetsFull s × ((out : List ℕ) × TakesFront text s old new out)
TellsListing text s old new (Err ShareFull) = (out : List ℕ) × TakesFront text s old new out
TellsListing text s old new (Err NoMemory) = (out : List ℕ) × TakesFront text s old new out
TellsListing text s old new (Err BadCut) = Keeps old new
TellsListing text s old new (Err BadWidth) = Keeps old new

-- this holds of the text of a table that lists rows, and that of every other table
abbrev pub ByShow : Show → ((List Row → List ℕ) → Type 0) → Type 0 → Type 0
ByShow Trace listed written = listed (λ rows. table_lines trace_columns (map trace_fields rows))
ByShow Timers listed written = listed (λ rows. table_lines timers_columns (flat_map timers_rows rows))
ByShow show listed written = written

-- the table lists no rows, and is written at the end
abbrev pub IsWhole : Show → Type 0
IsWhole show = ByShow show (λ text. ⊥) (Unit {0})

-- what an outlet took of the report of a run: that of the sequential run, for the seed and the table alone. After a
-- refusal it is of the trace and the table of timers a front, and of another table nothing but where the outlet failed
abbrev pub TellsReport : {T : Type 0} → PlainScenario → ℕ → Show
    → Option (List ℕ) → Option (List ℕ) → Result T LabFault → Type 0
TellsReport p seed show old new r =
    ByShow show (λ text. TellsListing text (setting_of p seed) old new r) (TellsTable p seed show old new r)
