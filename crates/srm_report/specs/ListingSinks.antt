-- A table that lists rows, written as they come.
use Rattle.std.specs.Prelude.{◌≡◌, ◌⊎◌, ℕ, ◌+◌, Bool, IsTrue, List, [], ◌++◌, Option, Result, Ok, Err}
use Rattle.srm_member.specs.declared.row.Row.{Row}
use Rattle.srm_interfaces.specs.declared.sink.SinkFault.{SinkFault}
use Rattle.srm_interfaces.specs.declared.sink.SinkFault.TheVariants as fault
use Rattle.srm_interfaces.specs.declared.sink.Stage.{Stage}
use Rattle.srm_interfaces.specs.declared.sink.Stage.TheVariants as stage
use Rattle.srm_interfaces.specs.Sinks.{stage_after, stops_in}
use Rattle.srm_report.specs.declared.listing.standing.Standing.{Standing}
use Rattle.srm_report.specs.declared.listing.standing.Standing.TheVariants.{Fresh, Live, NoMemory, Stopped}
use Rattle.srm_report.specs.declared.listing.listing_sink.ListingSink.{ListingSink}
use Rattle.srm_report.specs.declared.outlet.Outlet as outlet
use Rattle.srm_report.specs.declared.writing.WriteFault.{WriteFault}
use Rattle.srm_report.specs.Listings.{Form}
use Rattle.srm_report.specs.Standings.{after_answer, IsText, text_next, Took}

-- ---- sinks

-- where a sink stands for its callers, which stands so and wrote so many bytes
abbrev pub stage_at : Standing → ℕ → Stage
stage_at Fresh n = stage.Fresh
stage_at Live n = stage.Live
stage_at NoMemory n = stage.Refused fault.NoMemory
stage_at Stopped n = stage.Refused (fault.Stopped n)

module _ {L O : Type 0} where
  abbrev pub stage_of : ListingSink L O → Stage
  stage_of s = stage_at s.standing s.written

  abbrev pub standing_of : ListingSink L O → Standing
  standing_of s = s.standing

  -- whether it was given rows, at least one
  abbrev pub has_begun : ListingSink L O → Bool
  has_begun s = s.has_begun

  -- the outlet
  abbrev pub outlet_under : ListingSink L O → O
  outlet_under s = s.outlet.now

  -- what is still to be written
  abbrev pub gathered_by : ListingSink L O → List ℕ
  gathered_by s = s.gathered.items

  -- how many bytes may be gathered
  abbrev pub gathering_room : ListingSink L O → ℕ
  gathering_room s = s.room

  -- how many bytes the outlet took by the sink, up to 2^64 - 1
  abbrev pub written_by : ListingSink L O → ℕ
  written_by s = s.written

  -- both write to one outlet, and may gather as much
  abbrev pub AreOverOne : ListingSink L O → ListingSink L O → Type 0
  AreOverOne a b = (b.outlet.ghost_name ≡ a.outlet.ghost_name) × (gathering_room b ≡ gathering_room a)

  -- nothing is gathered now; or the sink had begun, and all that was gathered is so still, with this text after it
  abbrev pub Gathers : ListingSink L O → List ℕ → ListingSink L O → Type 0
  Gathers a text b = (gathered_by b ≡ []) ⊎ (IsTrue (has_begun a) × (gathered_by b ≡ gathered_by a ++ text))

  module _ (taken : O → Option (List ℕ)) where
    -- between these two values the outlet took these bytes, and they were counted
    abbrev pub Wrote : ListingSink L O → List ℕ → ListingSink L O → Type 0
    Wrote a out b = Took taken (outlet_under a) (written_by a) out (outlet_under b) (written_by b)

    -- this text was put between these two values: the outlet took what was gathered and the text, but for what is
    -- gathered now
    abbrev pub PutsAll : ListingSink L O → List ℕ → ListingSink L O → Type 0
    PutsAll a text b = (out : List ℕ) × (gathered_by a ++ text ≡ out ++ gathered_by b) × Wrote a out b

    -- no more than a front of what was gathered and this text was taken
    abbrev pub PutsFront : ListingSink L O → List ℕ → ListingSink L O → Type 0
    PutsFront a text b = (out rest : List ℕ) × (gathered_by a ++ text ≡ out ++ rest) × Wrote a out b

    -- the text of exactly these rows was put
    abbrev pub PutsRows : Form → ListingSink L O → List Row → ListingSink L O → Type 0
    PutsRows f a rows b = (text : List ℕ) × IsText f a.standing b.standing rows text × PutsAll a text b

    -- no more than a front of the text of these rows was taken
    abbrev pub PutsPart : Form → ListingSink L O → List Row → ListingSink L O → Type 0
    PutsPart f a rows b = PutsFront a (text_next f a.standing rows) b

    -- a text was put, or else no more than a front of it
    abbrev pub PutsText : {A E : Type 0} → ListingSink L O → List ℕ → Result A E → ListingSink L O → Type 0
    PutsText a text (Ok v) b = PutsAll a text b × Gathers a text b
    PutsText a text (Err e) b = PutsFront a text b

    -- nothing is left to be written; or a front was written, and the fault tells how many bytes the outlet took in all
    abbrev pub Flushes : {A : Type 0} → ListingSink L O → Result A WriteFault → ListingSink L O → Type 0
    Flushes a (Ok v) b = (gathered_by b ≡ []) × PutsAll a [] b × (standing_of b ≡ standing_of a)
    Flushes a (Err e) b = PutsFront a [] b × (stage_of b ≡ stage.Refused (fault.Stopped e.written))

  -- where memory was refused, the outlet is as it was, and no byte more is counted
  abbrev pub LeavesOutlet : {A : Type 0} → ListingSink L O → Result A SinkFault → ListingSink L O → Type 0
  LeavesOutlet a (Ok v) b = Unit {0}
  LeavesOutlet a (Err fault.NoMemory) b = (outlet_under b ≡ outlet_under a) × (written_by b ≡ written_by a)
  LeavesOutlet a (Err (fault.Stopped n)) b = Unit {0}

  -- what an answer to a text that was put tells, and how the sink stands before it is told
  pub record Answers {A : Type 0} (o : outlet.Ghosts O) (a : ListingSink L O) (r : Result A SinkFault)
      (b : ListingSink L O) : Type 0 where
    pub device : AreOverOne a b
    pub standing : standing_of b ≡ standing_of a
    pub begun : has_begun b ≡ has_begun a
    pub failures : o.failures (outlet_under b) ≡ o.failures (outlet_under a) + stops_in r
    pub told : stage_at (after_answer r) (written_by b) ≡ stage_after r
    pub left : LeavesOutlet a r b
