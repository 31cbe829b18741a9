-- What a sink puts next, by where it stands, and how it counts what was taken.
use Rattle.std.specs.Prelude.{◌≡◌, ℕ, ◌+◌, ◌-◌, ◌^◌, min, List, [], ◌++◌, length, Option, Result, Ok, Err}
use Rattle.std.specs.Io.KnownBytes.{Appends}
use Rattle.srm_member.specs.declared.row.Row.{Row}
use Rattle.srm_interfaces.specs.declared.sink.SinkFault.{SinkFault}
use Rattle.srm_interfaces.specs.declared.sink.SinkFault.TheVariants as fault
use Rattle.srm_report.specs.declared.listing.standing.Standing.{Standing}
use Rattle.srm_report.specs.declared.listing.standing.Standing.TheVariants.{Fresh, Live, NoMemory, Stopped}
use Rattle.srm_report.specs.Listings.{Form, lines_in}

-- ---- text

-- what comes before the rows that a sink takes next: the header, where it took none yet
abbrev pub lead : Form → Standing → List ℕ
lead f Fresh = f.header
lead f Live = []
lead f NoMemory = []
lead f Stopped = []

-- the text of the rows that a sink takes next
abbrev pub text_next : Form → Standing → List Row → List ℕ
text_next f at rows = lead f at ++ lines_in f rows

-- this is the text of all rows that a sink took between these two standings: none where it is still fresh
abbrev pub IsText : Form → Standing → Standing → List Row → List ℕ → Type 0
IsText f old Fresh rows text = (old ≡ Fresh) × (rows ≡ []) × (text ≡ [])
IsText f old Live rows text = text ≡ text_next f old rows
IsText f old NoMemory rows text = text ≡ text_next f old rows
IsText f old Stopped rows text = text ≡ text_next f old rows

-- where a sink stands after this answer
abbrev pub after_answer : {A : Type 0} → Result A SinkFault → Standing
after_answer (Ok v) = Live
after_answer (Err fault.NoMemory) = NoMemory
after_answer (Err (fault.Stopped n)) = Stopped

-- ---- counts

-- a count has grown by a number, and stays at 2^64 - 1 once there
abbrev pub GrewBy : ℕ → ℕ → ℕ → Type 0
GrewBy old n new = min new (2 ^ 64 - 1) ≡ min (old + n) (2 ^ 64 - 1)

-- between these two values an outlet took these bytes, and they were counted
pub record Took {O : Type 0} (taken : O → Option (List ℕ)) (old : O) (n : ℕ) (out : List ℕ) (new : O) (m : ℕ)
    : Type 0 where
  pub bytes : Appends (taken old) (taken new) out
  pub counted : GrewBy n (length out) m

-- a text was taken, but for what is left of it
abbrev pub TakesBut : {O : Type 0} → (O → Option (List ℕ)) → O → ℕ → List ℕ → O → ℕ → List ℕ → Type 0
TakesBut taken old n text new m left = (out : List ℕ) × (text ≡ out ++ left) × Took taken old n out new m

-- a front of a text was taken and nothing is left, and the fault tells how many bytes were taken in all
abbrev pub TakesPart : {O : Type 0} → (O → Option (List ℕ)) → O → ℕ → List ℕ → SinkFault → O → ℕ → List ℕ → Type 0
TakesPart taken old n text e new m left =
    (e ≡ fault.Stopped m) × (left ≡ []) × (rest : List ℕ) × TakesBut taken old n text new m rest

-- a text was taken, but for what is left of it; or else a front
abbrev pub TakesText : {O A : Type 0} → (O → Option (List ℕ)) → O → ℕ → List ℕ → Result A SinkFault → O → ℕ → List ℕ
    → Type 0
TakesText taken old n text (Ok v) new m left = TakesBut taken old n text new m left
TakesText taken old n text (Err e) new m left = TakesPart taken old n text e new m left
