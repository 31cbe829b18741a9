-- Runs in which no member has a scope.
use Rattle.std.specs.Prelude.{◌≡◌, ℕ, ◌<◌, All, List, Option, Some, None}
use Rattle.srm_net.specs.declared.packet.Packet.{Packet}
use Rattle.srm_net.specs.Scopes.{scope_of}
use Rattle.srm_member.specs.declared.exit.Exit.{Exit}
use Rattle.srm_member.specs.declared.row.Row.{Row}
use Rattle.srm_member.specs.declared.steps.Steps.{Steps}
use Rattle.srm_member.specs.Record.{MemberState}
use Rattle.srm_member.specs.LocalLaws.{IsWide}
use Rattle.srm_cell.specs.declared.flight.Flight.{Flight}
use Rattle.srm_cell.specs.Setting.{Setting, IsFit}
use Rattle.srm_cell.specs.Cells.{PlainCell}
use Rattle.srm_model.specs.Handed.{SentIn}
use Rattle.srm_model.specs.World.{World, IsReached, IsOutcome, RunMeetsFull}

-- no member has a scope
abbrev pub HasNoScopes : Setting → Type 0
HasNoScopes s = (m : ℕ) → m < s.traffic.members → (s.fixed m).scope ≡ 0

-- what a member knows is wide: it has no mark, and no repair timer of a width or of a second step. Once it is gone it
-- knows nothing
abbrev pub KnowsWide : Option MemberState → Type 0
KnowsWide (Some m) = IsWide m
KnowsWide None = Unit {0}

-- the packet goes to all
abbrev pub IsForAll : Packet → Type 0
IsForAll p = scope_of p.body ≡ None

-- what the cell's member knows is wide, and each packet on the way to it goes to all
pub record IsWideCell (c : PlainCell) : Type 0 where
  pub holds : KnowsWide c.holds
  pub inbox : All (λ (f : Flight). IsForAll f.packet) c.inbox

-- so is each cell, and each packet that was sent went to all
pub record IsWideWorld (w : World) : Type 0 where
  pub cells : All IsWideCell w.cells
  pub sent : (p : Packet) → SentIn p w.trace → IsForAll p

-- where no member has a scope all is wide, in every world of the run
abbrev pub AllIsWide : Type 0
AllIsWide = (s : Setting) (w : World) → IsFit s → HasNoScopes s → IsReached s w → IsWideWorld w

-- the members with another widen, other tries and other steps
abbrev pub with_widenings : ℕ → ℕ → Steps → Setting → Setting
with_widenings widen tries steps s = record s {
  fixed = λ m. record (s.fixed m) { widen = widen; tries = tries; steps = steps };
}

-- where no member has a scope, widen, tries and steps decide nothing of a run: with any others it has the same rows,
-- exits and crossings, or meets a packet count that is used up too
abbrev pub WideningDecidesNoRun : Type 0
WideningDecidesNoRun =
    (s : Setting) (widen tries : ℕ) (steps : Steps) → IsFit s → HasNoScopes s
    → let t = with_widenings widen tries steps s in
    ((trace : List Row) (exits : List Exit) (totals : List ℕ)
    → IsOutcome s trace exits totals → IsOutcome t trace exits totals)
    × (RunMeetsFull s → RunMeetsFull t)
