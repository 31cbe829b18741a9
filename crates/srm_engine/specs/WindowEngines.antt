-- What is seen of the engine in windows, and what its calls tell.
use Rattle.std.specs.Prelude.{◌≡◌, ℕ, List, [], length, min, Result, MatchResult}
use Rattle.srm_scenario.specs.declared.session.Session.{Session}
use Rattle.srm_scenario.specs.Accepted.{IsAccepted}
use Rattle.srm_member.specs.declared.row.Row.{Row}
use Rattle.srm_member.specs.declared.exit.Exit.{Exit}
use Rattle.srm_member.specs.Record.{Record}
use Rattle.srm_cell.specs.Setting.{Setting}
use Rattle.srm_cell.specs.Crossings.{crossings}
use Rattle.srm_cell.specs.Cells.{Event}
use Rattle.srm_cell.specs.Jobs as cell
use Rattle.srm_model.specs.World.{World, opening, IsLast, exits_of}
use Rattle.srm_model.specs.WindowChains.{AreWindows, IsNext, start_of, window_jobs}
use Rattle.srm_engine.specs.declared.ends.Ends.{Ends}
use Rattle.srm_engine.specs.declared.halt.Halt.{Halt}
use Rattle.srm_engine.specs.declared.window_engine.WindowEngine.{WindowEngine}
use Rattle.srm_engine.specs.Ends.{ends_rule, MayEnd}
use Rattle.srm_engine.specs.Groups.{AreKept, cells_of}
use Rattle.srm_engine.specs.Starts.{setting_on}
use Rattle.srm_engine.specs.Streams.{TellsHalt}
use Rattle.srm_engine.specs.Windowed.{IsCounted, MayCome}

module _ {M : Type 0} where
  -- what an engine's run is of: its session, how many cells a job has, and where windows end
  abbrev pub frame_of : WindowEngine M → Session × ℕ × Ends
  frame_of e = (e.session, e.groups.cut, e.ends)

  -- the setting of its run with a seed
  abbrev pub setting_by : WindowEngine M → ℕ → Setting
  setting_by e seed = setting_on e.session seed

  -- where the windows of that run end
  abbrev pub rule_by : WindowEngine M → ℕ → World → ℕ
  rule_by e seed = ends_rule (setting_by e seed) e.ends

  -- the windows that begin in these worlds came to a last one, as which the engine is seen: its cells, how soon
  -- something is due in them, and what its seat counted
  pub record ComesTo (f : M → Record) (seed : ℕ) (e : WindowEngine M) (begins : List World)
      (w : World) : Type 0 where
    pub windows : AreWindows (setting_by e seed) (rule_by e seed) begins w
    pub kept : AreKept f (setting_by e seed) e.groups
    pub shown : cells_of f e.groups ≡ w.cells
    pub counted : IsCounted (setting_by e seed).traffic e.ledger w.trace e.seat

  -- the run is under way: its scenario is accepted, the ledger has the network's links, windows may end so, and some of
  -- them came to what the engine is seen as
  pub record IsUnderWay (f : M → Record) (e : WindowEngine M) : Type 0 where
    pub accepted : IsAccepted e.session.scenario.now
    pub links : e.ledger.links ≡ length e.session.net.now.links
    pub ends : MayEnd e.session.scenario.now e.ends
    pub seed : ℕ
    pub begins : List World
    pub world : World
    pub comes : ComesTo f seed e begins world

  -- windows of a run with this setting came to this world, as which the engine is seen
  abbrev pub IsAt : (M → Record) → Setting → WindowEngine M → World → Type 0
  IsAt f s e w = (seed : ℕ) × (s ≡ setting_by e seed) × ((begins : List World) × ComesTo f seed e begins w)

  -- the engine is seen as the opening world with a seed
  abbrev pub OpensAt : (M → Record) → ℕ → WindowEngine M → Type 0
  OpensAt f seed e = ComesTo f seed e [] (opening (setting_by e seed))

  -- the next window begins at this tick, if that is before the end of the run
  abbrev pub BeginsNext : (M → Record) → WindowEngine M → ℕ → Type 0
  BeginsNext f e begin =
      (seed : ℕ) (begins : List World) (w : World) → ComesTo f seed e begins w
      → begin ≡ min e.session.scenario.now.until (start_of (setting_by e seed) w)

  -- something is pending, and the window in which it is handled ends at this tick
  abbrev pub EndsNext : (M → Record) → WindowEngine M → ℕ → Type 0
  EndsNext f e till =
      (seed : ℕ) (begins : List World) (w : World) → ComesTo f seed e begins w
      → ((v : Event) × IsNext (setting_by e seed) w v) × (till ≡ rule_by e seed w)

  -- totals are those of the world as which the engine is seen
  abbrev pub TellsCounted : (M → Record) → WindowEngine M → List ℕ → Type 0
  TellsCounted f e totals =
      (seed : ℕ) (begins : List World) (w : World) → ComesTo f seed e begins w
      → totals ≡ crossings (setting_by e seed).traffic w.trace

  -- exits and totals are those of the world as which the engine is seen
  abbrev pub TellsEnd : (M → Record) → WindowEngine M → List Exit → List ℕ → Type 0
  TellsEnd f e exits totals =
      (seed : ℕ) (begins : List World) (w : World) → ComesTo f seed e begins w
      → (exits ≡ exits_of w) × (totals ≡ crossings (setting_by e seed).traffic w.trace)

  module _ {C S : Type 0} (handed : C → List (List cell.PlainJob) → C → Type 0) (took part : S → List Row → S → Type 0)
      (f : M → Record) where
    -- what all windows of a run tell: they come to its last world, of which the sink took the trace, and the crew was
    -- handed their jobs, window after window; or why not all rows were handed on
    abbrev pub TellsWindows : WindowEngine M → C → S → Result (WindowEngine M) Halt → S → C → Type 0
    TellsWindows e old from r to new =
        (seed : ℕ) → OpensAt f seed e
        → MatchResult r (λ v. (begins : List World) × (w : World) × ComesTo f seed v begins w
        × IsLast (setting_by e seed) w × took from w.trace to
        × handed old (window_jobs (rule_by e seed) e.groups.cut begins) new)
        (λ x. TellsHalt took part (MayCome (setting_by e seed) (rule_by e seed) e.groups.cut) (setting_by e seed)
        from x to)
