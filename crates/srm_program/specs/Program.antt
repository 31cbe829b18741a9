-- What the program does, as its devices see it: what it reads, what it writes, and its exit status.
use Rattle.std.specs.Prelude.{◌≡◌, ◌≢◌, ◌⊎◌, ℕ, ◌+◌, ◌<◌, ◌≤◌, List, [], ◌∷◌, ◌++◌, length, take, codes, Option, Bool}
use Rattle.std.specs.Prelude.{Result, Ok, Err, string_bytes}
use Rattle.std.specs.Io.KnownBytes.{Appends, Consumes, Keeps}
use Rattle.srm_scenario.specs.declared.bytes.TheConstants.{LONGEST_TEXT}
use Rattle.srm_program.specs.declared.fault.LabFault.TheVariants.{WriteFault}
use Rattle.srm_command_line.specs.declared.line_fault.LineFault.{LineFault}
use Rattle.srm_command_line.specs.declared.line_fault.LineFault.TheVariants as line
use Rattle.srm_program.specs.declared.fault.Fault.{Fault}
use Rattle.srm_program.specs.declared.fault.Fault.TheVariants as fault
use Rattle.srm_options.specs.declared.options.Options.{Options}
use Rattle.srm_command_line.specs.declared.request.Request.{Request}
use Rattle.srm_explain.specs.RuleDocument.{rule_document}
use Rattle.srm_program.specs.Explained.{asks_explanation, asks_remarks, FollowsLine, MayRemark}
use Rattle.srm_program.specs.RefusalLines.{line_of_fault}
pub use Rattle.srm_options.specs.Asked.{MayBeAsked}
use Rattle.srm_program.specs.Sessions.{TellsFeed, TellsTextRefusals, ReadsSessionToEnd}
use Rattle.srm_program.specs.Sessions.{reading_failures, session_failures}

-- a device before and after: its bytes, where they are known, and how often it failed. The bytes of a feed are those
-- still to come, those of an outlet what it has taken
pub record Device : Type 0 where
  pub old : Option (List ℕ)
  pub new : Option (List ℕ)
  pub failed : ℕ
  pub fails : ℕ

-- a device that had these bytes and then those, and had failed so often and then so often
abbrev pub device : Option (List ℕ) → Option (List ℕ) → ℕ → ℕ → Device
device old new failed fails = record { old = old; new = new; failed = failed; fails = fails }

-- a line with its line feed
abbrev pub full_line : List ℕ → List ℕ
full_line l = l ++ 10 ∷ []

-- the exit status after a refusal
abbrev pub status_of_fault : Fault → ℕ
status_of_fault (fault.Line line.Line) = 2
status_of_fault (fault.Line line.BadWord) = 2
status_of_fault (fault.Line (line.Help text)) = 0
status_of_fault (fault.Line line.Rules) = 0
status_of_fault f = 1

-- what an outlet took of help: all of it, or as many bytes as the fault tells
abbrev pub WritesHelp : {T : Type 0} → List ℕ → Option (List ℕ) → Option (List ℕ) → Result T Fault → Type 0
WritesHelp help old new (Ok v) = Appends old new help
WritesHelp help old new (Err (fault.Lab (WriteFault written))) =
    Appends old new (take written help) × (written < length help)
WritesHelp help old new (Err f) = ⊥

-- what an outlet took of the rules of scenarios: as of help, and nothing where there was no memory for them
abbrev pub WritesRules : {T : Type 0} → Option (List ℕ) → Option (List ℕ) → Result T Fault → Type 0
WritesRules old new (Err fault.NoMemory) = Keeps old new
WritesRules old new r = WritesHelp rule_document old new r

-- what comes of a command line for which nothing is run: help, or the rules; or its refusal, and nothing is written
abbrev pub RunsNothing : {T : Type 0} → LineFault → Option (List ℕ) → Option (List ℕ) → Result T Fault → Type 0
RunsNothing (line.Help help) old new r = WritesHelp (string_bytes help) old new r
RunsNothing line.Rules old new r = WritesRules old new r
RunsNothing f old new r = (r ≡ Err (fault.Line f)) × Keeps old new

-- what comes of what the command line asks for, of a feed that gave this text and has this left: a session, or nothing
-- is run, and then the feed gave nothing
abbrev pub CarriesOut : {T : Type 0} → Result (ℕ × Options) LineFault → List ℕ
    → Option (List ℕ) → Option (List ℕ) → Option (List ℕ) → Result T Fault → Type 0
CarriesOut (Ok asked) text old new left r = TellsFeed asked.0 asked.1 text old new r × ReadsSessionToEnd r left
CarriesOut (Err f) text old new left r = (text ≡ []) × RunsNothing f old new r

-- what an outlet took of a line: all of it, or its front where it failed
abbrev pub TakesLine : Device → List ℕ → Type 0
TakesLine d l =
    ((d.fails ≡ d.failed) × Appends d.old d.new l)
    ⊎ ((d.fails ≡ d.failed + 1) × (n : ℕ) × (n < length l) × Appends d.old d.new (take n l))

-- what an outlet took of a line and what follows it: both, or the line alone
abbrev pub TakesEither : Device → List ℕ → List ℕ → Type 0
TakesEither d l told = TakesLine d (l ++ told) ⊎ TakesLine d l

-- what an outlet for errors took of a refusal: its line and what follows it, or its line alone; or, where the command
-- line was not refused, the line that memory ran out
abbrev pub TakesFaultLine : Device → Fault → List ℕ → Type 0
TakesFaultLine d f told =
    TakesEither d (full_line (line_of_fault f)) told
    ⊎ ((status_of_fault f ≢ 2) × TakesLine d (full_line (codes "refused: no-memory")))

-- what an outlet for errors took of remarks: nothing where there is none
abbrev pub TakesRemarks : Device → List ℕ → Type 0
TakesRemarks d [] = (d.fails ≡ d.failed) × Keeps d.old d.new
TakesRemarks d told = TakesLine d told

-- the remarks on this text that are asked for or not
abbrev pub RemarksSo : Device → Bool → List ℕ → Type 0
RemarksSo d asks text = (told : List ℕ) × MayRemark asks text told × TakesRemarks d told

-- what an outlet for errors took, where a session was given this text: after success the remarks that are asked for,
-- and after a refusal its line and what is asked for to follow it
abbrev pub TellsErrors : {T : Type 0} → Device → Bool → Bool → List ℕ → List ℕ → Result T Fault → Type 0
TellsErrors d explains remarks message given (Ok v) = RemarksSo d remarks given
TellsErrors d explains remarks message given (Err f) =
    (told : List ℕ) × FollowsLine explains message given f told × TakesFaultLine d f told

-- the exit status: 0 after success
abbrev pub exit_status : {T : Type 0} → Result T Fault → ℕ
exit_status (Ok v) = 0
exit_status (Err f) = status_of_fault f

-- what the program does for what the command line asks for, over the devices that it reads from, writes to and tells
-- refusals on: something comes of it, as the exit status and the outlet for errors tell, of which this holds and of the
-- text that the feed gave
abbrev pub AnswersSo :
    (Result (Unit {0}) Fault → List ℕ → Type 0) → Request → Device → Device → Device → ℕ → Type 0
AnswersSo holds request feed outlet errors status =
    (done : Result (Unit {0}) Fault) × (given : List ℕ) × holds done given
    × Consumes feed.old feed.new given × (length given ≤ LONGEST_TEXT + 1)
    × CarriesOut request.asked given outlet.old outlet.new feed.new done
    × (feed.fails ≡ reading_failures done feed.failed)
    × (outlet.fails ≡ session_failures done outlet.failed)
    × TellsErrors errors (asks_explanation request.asked) (asks_remarks request.asked) (string_bytes request.message)
    given done
    × (status ≡ exit_status done)

-- so, whatever comes of it
abbrev pub AnswersRequest : Request → Device → Device → Device → ℕ → Type 0
AnswersRequest request feed outlet errors status =
    AnswersSo (λ done given. Unit {0}) request feed outlet errors status

-- when the run that is asked for is refused, and where a run that breaks off left the table
abbrev pub TellsAskedRefusals : {T : Type 0} → Result (ℕ × Options) LineFault → List ℕ
    → Option (List ℕ) → Option (List ℕ) → Result T Fault → Type 0
TellsAskedRefusals (Ok asked) text old new r = TellsTextRefusals asked.0 asked.1 text old new r
TellsAskedRefusals (Err f) text old new r = Unit {0}

-- so, and a run is refused where it may be
abbrev pub RefusesRequest : Request → Device → Device → Device → ℕ → Type 0
RefusesRequest request feed outlet errors status =
    AnswersSo (λ done given. TellsAskedRefusals request.asked given outlet.old outlet.new done)
    request feed outlet errors status
