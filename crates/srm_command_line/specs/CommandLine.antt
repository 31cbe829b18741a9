-- What the words of the command line ask for.
use Rattle.std.specs.Prelude.{◌≡◌, ◌⊎◌, ℕ, ◌≤◌, Bool, true, false, List, [], IfSome, codes}
use Rattle.std.specs.List.{list_any}
use Rattle.std.specs.Str.{bytes_eq}
use Rattle.clap.specs.declared.error.kind.ErrorKind.{ErrorKind}
use Rattle.clap.specs.declared.error.kind.ErrorKind.TheVariants.{OutOfMemory, DisplayHelp, DisplayVersion}
use Rattle.srm_options.specs.declared.options.Options.{Options}
use Rattle.srm_command_line.specs.declared.command_line.Reader.{Reader}
use Rattle.srm_command_line.specs.declared.command_line.Reader.TheVariants.{Number, Text}
use Rattle.srm_command_line.specs.declared.line_fault.LineFault.{LineFault}
use Rattle.srm_command_line.specs.declared.line_fault.LineFault.TheVariants.{Line, BadWord, Help, Rules, NoMemory}

-- an option that is read in this way takes this number
abbrev pub TakesNumber : Reader → ℕ → Type 0
TakesNumber (Number least most) n = (least ≤ n) × (n ≤ most)
TakesNumber Text n = ⊥

-- so many runs may be asked for
abbrev pub IsCountOfRuns : ℕ → Type 0
IsCountOfRuns n = (1 ≤ n) × (n ≤ 1000000)

-- where replications are asked for, so many may be
abbrev pub AsksForRuns : ℕ × Options → Type 0
AsksForRuns asked = IfSome asked.1.replications IsCountOfRuns

-- help is given, unless there was no memory for it
abbrev pub GivesHelp : LineFault → Type 0
GivesHelp (Help text) = Unit {0}
GivesHelp NoMemory = Unit {0}
GivesHelp Line = ⊥
GivesHelp BadWord = ⊥
GivesHelp Rules = ⊥

-- what is told where `clap` answers an error of this kind: help and the version are its text, and each mistake in the
-- words is one fault
abbrev pub TellsKind : ErrorKind → LineFault → Type 0
TellsKind OutOfMemory f = f ≡ NoMemory
TellsKind DisplayHelp f = GivesHelp f
TellsKind DisplayVersion f = GivesHelp f
TellsKind kind f = f ≡ Line

-- one of these words, whose texts are told, asks that a refusal is explained
abbrev pub asks_to_explain : {S : Type 0} → (S → List ℕ) → List S → Bool
asks_to_explain text words = list_any (λ word. bytes_eq (text word) (codes "--explain")) words

-- what is told after the line of a refusal that is not to be explained: where a terminal takes it that there is an
-- option, and else nothing
abbrev pub hint_for : Bool → List ℕ
hint_for true = codes "  add --explain to be told what to mend\n"
hint_for false = []

-- words, whose texts are told, of which none asks for an explanation, are told this hint after a refusal, or nothing
abbrev pub HintsAlone : {S : Type 0} → (S → List ℕ) → List S → List ℕ → List ℕ → Type 0
HintsAlone text words hint told = asks_to_explain text words ≡ false → (told ≡ hint) ⊎ (told ≡ [])

-- so are options by which no explanation is asked for
abbrev pub HintsUnasked : List ℕ → List ℕ → ℕ × Options → Type 0
HintsUnasked hint told asked = asked.1.explain ≡ false → (told ≡ hint) ⊎ (told ≡ [])
