-- What a table is made of at the end of a run.
use Rattle.std.specs.Prelude.{◌≤◌, ℕ, List, length}
use Rattle.srm_scenario.specs.declared.session.Session.{Session}
use Rattle.srm_member.specs.declared.exit.Exit.{Exit}
use Rattle.srm_member.specs.declared.row.Row.{Row}
use Rattle.srm_cell.specs.Setting.{setting_of}
use Rattle.srm_interfaces.specs.Watches.{KeepMembers}
use Rattle.srm_model.specs.World.{IsOutcome}

-- the run of a session with random words of this seed left these rows, exits and totals, and this is kept of its
-- members
pub record IsKeptOf {K : Type 0} (keeps : K → List Row → Type 0) (of : Session) (seed : ℕ) (kept : List K)
    (totals : List ℕ) (rows : List Row) (exits : List Exit) : Type 0 where
  pub outcome : IsOutcome (setting_of of.scenario.now seed) rows exits totals
  pub many : length of.scenario.now.members ≤ length kept
  pub are : KeepMembers keeps 0 kept rows
