-- A cell's own run to an end: its own steps, one after the other, while it hears nothing new.
use Rattle.std.specs.Prelude.{◌≡◌, ℕ, zero, suc, List, [], ◌∷◌, Option, Some, None}
use Rattle.srm_net.specs.declared.packet.Packet.{Packet}
use Rattle.srm_member.specs.declared.row.Row.{Row}
use Rattle.srm_cell.specs.Setting.{Traffic}
use Rattle.srm_cell.specs.Cells.{PlainCell, hear, StepOutcome, Idle, Full, Spent, Done, Stepped, own_step}

-- the rows of the first n own steps, or of fewer where the own run ends before
unfoldable pub own_rows : ℕ → ℕ → ℕ → PlainCell → List Row
own_rows till m zero c = []
own_rows till m (suc n) c =
    elim (own_step till m c) [ Idle ↦ [] | Full ↦ [] | Spent ↦ [] | Done d ↦ d.row ∷ own_rows till m n d.cell ]

-- what ends the own run within n steps
unfoldable pub own_end : ℕ → ℕ → ℕ → PlainCell → StepOutcome Stepped
own_end till m zero c = own_step till m c
own_end till m (suc n) c =
    elim (own_step till m c) [ Idle ↦ Idle | Full ↦ Full | Spent ↦ Spent | Done d ↦ own_end till m n d.cell ]

-- the cell after the first n own steps, or fewer where the own run ends before
unfoldable pub own_after : ℕ → ℕ → ℕ → PlainCell → PlainCell
own_after till m zero c = c
own_after till m (suc n) c =
    elim (own_step till m c) [ Idle ↦ c | Full ↦ c | Spent ↦ c | Done d ↦ own_after till m n d.cell ]

-- member m's own run to the end has these rows and leaves this cell, with no own event before the end pending
pub record IsOwnRun (till m : ℕ) (c : PlainCell) (rows : List Row) (d : PlainCell) : Type 0 where
  pub steps : ℕ
  pub ends : own_end till m steps c ≡ Idle
  pub rows_are : rows ≡ own_rows till m steps c
  pub leaves : d ≡ own_after till m steps c

-- the own run meets a step for which the packet count is used up
abbrev pub MeetsFull : ℕ → ℕ → PlainCell → Type 0
MeetsFull till m c = (n : ℕ) × (own_end till m n c ≡ Full)

-- the own run meets an event at a record that is gone
abbrev pub MeetsSpent : ℕ → ℕ → PlainCell → Type 0
MeetsSpent till m c = (n : ℕ) × (own_end till m n c ≡ Spent)

-- ---- what others sent

-- member m's cell after this packet was sent by another member, if any was
abbrev pub told_to : Traffic → Option Packet → ℕ → PlainCell → PlainCell
told_to t None m c = c
told_to t (Some p) m c = hear t p m c

-- the cell after it hears the packets of the rows, in their order
abbrev pub hear_rows : Traffic → ℕ → List Row → PlainCell → PlainCell
hear_rows t m [] c = c
hear_rows t m (r ∷ rs) c = hear_rows t m rs (told_to t r.sent m c)
