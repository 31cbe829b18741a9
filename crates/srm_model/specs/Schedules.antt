-- Own runs in a world, schedules to an end, and safe ends. An end is a tick, `till`: events before it are handled.
use Rattle.std.specs.Prelude.{◌≡◌, ℕ, ◌≤◌, List, [], ◌∷◌, Option, Some, None, slice_get}
use Rattle.srm_net.specs.declared.packet.Packet.{Packet}
use Rattle.srm_member.specs.declared.row.Row.{Row}
use Rattle.srm_cell.specs.Setting.{Setting, arrival_of}
use Rattle.srm_cell.specs.Cells.{PlainCell, StepOutcome, Idle, Full, Spent, Done, Stepped, own_step}
use Rattle.srm_cell.specs.OwnRuns.{own_rows, own_end, MeetsFull}
use Rattle.srm_model.specs.World.{World, after_step}

-- member m's own step to an end
abbrev pub own_of : ℕ → ℕ → Option PlainCell → StepOutcome Stepped
own_of till m None = Idle
own_of till m (Some c) = own_step till m c

-- a schedule: the members of the list take their least own pending events before the end, one after the other
unfoldable pub scheduled : Setting → ℕ → List ℕ → World → StepOutcome World
scheduled s till [] w = Done w
scheduled s till (m ∷ ms) w =
    elim (after_step s w m (own_of till m (slice_get w.cells m))) [
      | Idle ↦ Idle
      | Full ↦ Full
      | Spent ↦ Spent
      | Done v
          ↦ scheduled s till ms v
    ]

-- no member has an event before the end pending. A schedule that comes to such a world is complete
abbrev pub IsQuiet : ℕ → World → Type 0
IsQuiet till w = (m : ℕ) → own_of till m (slice_get w.cells m) ≡ Idle

-- member m's own run to an end has a result: after some steps no own event before the end is pending
abbrev pub HasResult : ℕ → World → ℕ → Type 0
HasResult till w m = (c : PlainCell) → slice_get w.cells m ≡ Some c → (n : ℕ) × (own_end till m n c ≡ Idle)

-- it meets a step for which the packet count is used up
abbrev pub HasNoResult : ℕ → World → ℕ → Type 0
HasNoResult till w m = (c : PlainCell) × (slice_get w.cells m ≡ Some c) × MeetsFull till m c

-- a packet that the row sent is handed to nobody before the end
abbrev pub SendsLate : Setting → ℕ → Row → Type 0
SendsLate s till r = (p : Packet) → r.sent ≡ Some p → (m at : ℕ) → arrival_of s.traffic p m ≡ Some at → till ≤ at

-- so for each of the rows
abbrev pub AllSendLate : Setting → ℕ → List Row → Type 0
AllSendLate s till [] = Unit {0}
AllSendLate s till (r ∷ rs) = SendsLate s till r × AllSendLate s till rs

-- a safe end: no packet that is sent in a member's own run to the end arrives before it
abbrev pub IsSafe : Setting → ℕ → World → Type 0
IsSafe s till w =
    (m : ℕ) (c : PlainCell) → slice_get w.cells m ≡ Some c → (n : ℕ) → AllSendLate s till (own_rows till m n c)
