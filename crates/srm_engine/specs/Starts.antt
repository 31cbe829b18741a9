-- What a run starts from.
use Rattle.std.specs.Prelude.{ℕ, map}
use Rattle.srm_member.specs.declared.participant.Participant.{Ghosts}
use Rattle.srm_scenario.specs.declared.session.Session.{Session}
use Rattle.srm_cell.specs.Setting.{Setting, setting_of}
use Rattle.srm_engine.specs.declared.start.Start.{Start}
use Rattle.srm_engine.specs.Openings.{HoldOpeningRecords, InRuns}

-- the setting of a session with a seed
abbrev pub setting_on : Session → ℕ → Setting
setting_on at seed = setting_of at.scenario.now seed

-- this holds of each run that starts so
abbrev pub InRunsOf : {M : Type 0} {P : Ghosts M} → Start M P → (Setting → Type 0) → Type 0
InRunsOf {M} {P} start holds = InRuns start.session.scenario.now (map P.plain start.members.items) holds

-- the members have their opening records for this seed
abbrev pub BeginsWith : {M : Type 0} {P : Ghosts M} → Start M P → ℕ → Type 0
BeginsWith {M} {P} start seed =
    HoldOpeningRecords start.session.scenario.now seed (map P.plain start.members.items)
