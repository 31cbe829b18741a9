-- What comes of a session, from a scenario to its report.
use Rattle.std.specs.Prelude.{⊤, ◌≡◌, ℕ, Bool, true, false, List, Option, Some, None, Result, Ok, Err, MatchResult}
use Rattle.std.specs.Io.KnownBytes.{IsAtEnd, Keeps}
use Rattle.srm_scenario.specs.declared.fault.ScenarioFault.{ScenarioFault}
use Rattle.srm_scenario.specs.declared.fault.ScenarioFault.TheVariants.{ReadFault}
use Rattle.srm_scenario.specs.Plain.{PlainScenario, with_seed}
use Rattle.srm_scenario.specs.Faults as faults
use Rattle.srm_program.specs.declared.fault.LabFault.{LabFault}
use Rattle.srm_program.specs.declared.fault.Fault.{Fault}
use Rattle.srm_program.specs.declared.fault.Fault.TheVariants as fault
use Rattle.srm_options.specs.declared.options.Options.{Options}
use Rattle.srm_options.specs.declared.options.Show.{Show}
use Rattle.srm_program.specs.Replications.{TellsReplications}
use Rattle.srm_program.specs.Reports.{failures_after_run, TellsReport}
use Rattle.srm_program.specs.Runs.{TellsRefusals}

-- the count of an outlet's failures after a session: one more exactly where the answer is that it failed
abbrev pub session_failures : {T : Type 0} → Result T Fault → ℕ → ℕ
session_failures (Ok v) n = n
session_failures {T} (Err (fault.Lab f)) n = let r : Result T LabFault = Err f in failures_after_run r n
session_failures (Err (fault.Line f)) n = n
session_failures (Err (fault.Scenario f)) n = n
session_failures (Err fault.NoMemory) n = n

-- what an outlet took of the session of an accepted scenario: what its run tells, and nothing where memory ran out
-- before
abbrev pub TellsSession : {T : Type 0} → PlainScenario → ℕ → Show
    → Option (List ℕ) → Option (List ℕ) → Result T Fault → Type 0
TellsSession p seed show old new (Ok v) =
    TellsReport p seed show old new (let r : Result _ LabFault = Ok v in r)
TellsSession {T} p seed show old new (Err (fault.Lab f)) =
    TellsReport p seed show old new (let r : Result T LabFault = Err f in r)
TellsSession p seed show old new (Err (fault.Line f)) = ⊥
TellsSession p seed show old new (Err (fault.Scenario f)) = ⊥
TellsSession p seed show old new (Err fault.NoMemory) = Keeps old new

-- this holds of what comes of a run, where the session came so far
abbrev pub OfRun : {T : Type 0} → (Result T LabFault → Type 0) → Result T Fault → Type 0
OfRun holds (Ok v) = holds (Ok v)
OfRun holds (Err (fault.Lab f)) = holds (Err f)
OfRun holds (Err f) = Unit {0}

-- the count of a feed's failures after a session: one more exactly where the answer is that it failed
abbrev pub reading_failures : {T : Type 0} → Result T Fault → ℕ → ℕ
reading_failures (Ok v) n = n
reading_failures (Err (fault.Scenario f)) n =
    let r : Result PlainScenario ScenarioFault = Err f in faults.failures_after r n
reading_failures (Err (fault.Line f)) n = n
reading_failures (Err (fault.Lab f)) n = n
reading_failures (Err fault.NoMemory) n = n

-- this holds of a scenario that is only checked, this of so many replications of its run, and this of its run, as is
-- asked for
abbrev pub ByTask : Bool → Option ℕ → Type 0 → (ℕ → Type 0) → Type 0 → Type 0
ByTask true count checked replicated ran = checked
ByTask false (Some count) checked replicated ran = replicated count
ByTask false None checked replicated ran = ran

-- what an outlet took of an accepted scenario: what its run tells, or what its replications tell where so many are
-- asked for; nothing where it was only to be checked, which cannot be refused
abbrev pub TellsTask : {T : Type 0} → PlainScenario → ℕ → Options
    → Option (List ℕ) → Option (List ℕ) → Result T LabFault → Type 0
TellsTask p seed o old new r =
    ByTask o.check o.replications (MatchResult r (λ v. Keeps old new) (λ f. ⊥))
    (λ count. TellsReplications (record { scenario = p; first = seed; count = count; show = o.show }) old new r)
    (TellsReport p seed o.show old new r)

-- what an outlet took of the session of a text, with random words and losses of this seed: what the run of its scenario
-- tells; nothing where the text is refused, by its first fault, and nothing where memory ran out before the run
abbrev pub TellsText : {T : Type 0} → ℕ → Options → List ℕ
    → Option (List ℕ) → Option (List ℕ) → Result T Fault → Type 0
TellsText seed o text old new (Ok v) =
    (p : PlainScenario) × (faults.scenario_of_text text ≡ Ok p)
    × TellsTask (with_seed p seed) seed o old new (let r : Result _ LabFault = Ok v in r)
TellsText {T} seed o text old new (Err (fault.Lab f)) =
    (p : PlainScenario) × (faults.scenario_of_text text ≡ Ok p)
    × TellsTask (with_seed p seed) seed o old new (let r : Result T LabFault = Err f in r)
TellsText seed o text old new (Err (fault.Line f)) = ⊥
TellsText seed o text old new (Err (fault.Scenario f)) = faults.RefusesText f text × Keeps old new
TellsText seed o text old new (Err fault.NoMemory) = Keeps old new

-- when the run of the scenario of a text is refused, and where a run that breaks off left the table
abbrev pub TellsTextRefusals : {T : Type 0} → ℕ → Options → List ℕ
    → Option (List ℕ) → Option (List ℕ) → Result T Fault → Type 0
TellsTextRefusals seed o text old new r =
    OfRun (λ ran. ByTask o.check o.replications (Unit {0}) (λ count. Unit {0})
    ((p : PlainScenario) × (faults.scenario_of_text text ≡ Ok p)
    × TellsRefusals (with_seed p seed) seed o old new ran)) r

-- what an outlet took of the session of a feed that gave this text: nothing where the feed failed, and else what its
-- text tells
abbrev pub TellsFeed : {T : Type 0} → ℕ → Options → List ℕ
    → Option (List ℕ) → Option (List ℕ) → Result T Fault → Type 0
TellsFeed seed o text old new (Err (fault.Scenario ReadFault)) = Keeps old new
TellsFeed seed o text old new r = TellsText seed o text old new r

-- where a text was read whole, no byte is left to come: so it is after each run, and for each fault that is one of the
-- text
abbrev pub ReadsSessionToEnd : {T : Type 0} → Result T Fault → Option (List ℕ) → Type 0
ReadsSessionToEnd (Err (fault.Scenario f)) left = faults.ReadsToEnd (Err f) left
ReadsSessionToEnd (Err fault.NoMemory) left = ⊤
ReadsSessionToEnd r left = IsAtEnd left
