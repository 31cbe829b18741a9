-- What a run is given, and what it tells.
use Rattle.std.specs.Prelude.{◌≡◌, ◌≢◌, ◌⊎◌, All, List, map, Option, Some, None, Result, MatchResult}
use Rattle.srm_member.specs.declared.exit.Exit.{Exit}
use Rattle.srm_member.specs.Record.{Record, MemberState}
use Rattle.srm_cell.specs.declared.cell.Cell.{Cell}
use Rattle.srm_cell.specs.Setting.{Setting}
use Rattle.srm_cell.specs.Cells.{PlainCell}
use Rattle.srm_cell.specs.Views.{plain_cell}
use Rattle.srm_engine.specs.declared.fault.RunFault.{RunFault}
use Rattle.srm_engine.specs.declared.fault.RunFault.TheVariants as fault
use Rattle.srm_engine.specs.declared.outcome.Outcome.{Outcome}
use Rattle.srm_model.specs.World.{IsOutcome, RunMeetsFull, exit_at}

-- when the sequential run may be refused: for memory; or where it meets a step for which the packet count is used up
abbrev pub MayRefuseRun : Setting → RunFault → Type 0
MayRefuseRun s e = (e ≡ fault.NoMemory) ⊎ ((e ≡ fault.CountFull) × RunMeetsFull s)

-- what a run tells: the outcome of the sequential run, or why it is refused
abbrev pub TellsOutcome : Setting → Result Outcome RunFault → Type 0
TellsOutcome s r = MatchResult r (λ v. IsOutcome s v.trace.items v.exits.items v.totals) (MayRefuseRun s)

-- a member that is gone has left its exit
abbrev pub HasEnd : Option MemberState → Option Exit → Type 0
HasEnd (Some m) x = Unit {0}
HasEnd None x = x ≢ None

-- what the cell ends with, as its member left or as it is
abbrev pub end_of : PlainCell → Exit
end_of p = exit_at p.holds p.exit

module _ {M : Type 0} where
  -- the member of each cell is there, or has left its exit
  abbrev pub AllEnd : (M → Record) → List (Cell M) → Type 0
  AllEnd f cs = All (λ c. HasEnd (plain_cell f c).holds (plain_cell f c).exit) cs

  -- what each cell ends with
  abbrev pub ends_of : (M → Record) → List (Cell M) → List Exit
  ends_of f cs = map (λ c. end_of (plain_cell f c)) cs
