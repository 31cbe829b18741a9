-- What is seen of the engine, and what its calls tell.
use Rattle.std.specs.Prelude.{◌≡◌, ◌<◌, ◌+◌, ◌^◌, ℕ, List, [], ◌∷◌, ◌++◌, length, Option, Some, None, Result, Ok, Err}
use Rattle.srm_net.specs.declared.packet.Packet.{Packet}
use Rattle.srm_scenario.specs.Plain.{network_of}
use Rattle.srm_member.specs.declared.row.Row.{Row}
use Rattle.srm_member.specs.Record.{Record}
use Rattle.srm_cell.specs.Setting.{Traffic, Setting, traffic_of, setting_of}
use Rattle.srm_cell.specs.Crossings.{packets_of}
use Rattle.srm_cell.specs.Cells.{StepOutcome, Idle, Full, Done}
use Rattle.srm_cell.specs.Tallies.{Tallies}
use Rattle.srm_cell.specs.Views.{HasWork}
use Rattle.srm_engine.specs.declared.simulation.Simulation.{Simulation}
use Rattle.srm_engine.specs.declared.fault.RunFault.{RunFault}
use Rattle.srm_engine.specs.declared.fault.RunFault.TheVariants as fault
use Rattle.srm_model.specs.World.{World, IsReached, step, opening}
use Rattle.srm_model.specs.Hearing.{IsUnheard, all_hear}
use Rattle.srm_engine.specs.Seen.{AreWhole, ShowCells, shown_in}
use Rattle.srm_model.specs.Totalled.{and_sent, MaySend}
use Rattle.srm_net.specs.Limits.{end_of_time}

-- when a step with this outcome may be refused: memory may be only where there is a step to take
abbrev pub MayRefuseStep : StepOutcome World → RunFault → Type 0
MayRefuseStep o fault.NoMemory = HasWork o
MayRefuseStep o fault.CountFull = o ≡ Full
MayRefuseStep o e = ⊥

module _ {M : Type 0} where
  -- the traffic of an engine's scenario
  abbrev pub traffic_in : Simulation M → Traffic
  traffic_in e = traffic_of e.session.scenario.now (network_of e.session.scenario.now)

  -- its setting with a seed
  abbrev pub setting_in : Simulation M → ℕ → Setting
  setting_in e seed = setting_of e.session.scenario.now seed

  -- the engine has counted these packets
  abbrev pub HasCounted : Simulation M → List Packet → Type 0
  HasCounted e ps = Tallies e.session.scenario.now e.session.net.now ps e.tally

  -- the engine is seen as this world: its cells, and the count of the trace's packets
  pub record Shows (f : M → Record) (e : Simulation M) (w : World) : Type 0 where
    pub seen : ShowCells f e.cells w.cells
    pub counted : HasCounted e (packets_of w.trace)

  -- a step may be taken: the engine is seen as a world of a run whose rows are few enough to be counted
  abbrev pub MayStep : (M → Record) → Simulation M → Type 0
  MayStep f e = (seed : ℕ) × (w : World) × IsReached (setting_in e seed) w × Shows f e w × (length w.trace + 3 < 2 ^ 64)

  -- what the step with this outcome tells: it is over, or the row that it adds; or why it is refused
  abbrev pub TellsWorld : (M → Record) → World → StepOutcome World → Result (Option Row) RunFault
      → Simulation M → Type 0
  TellsWorld f w o (Ok None) after = (o ≡ Idle) × Shows f after w
  TellsWorld f w o (Ok (Some row)) after =
      (v : World) × (o ≡ Done v) × (v.trace ≡ w.trace ++ row ∷ []) × Shows f after v
  TellsWorld f w o (Err e) after = MayRefuseStep o e

  -- so of whatever world the engine is seen as, with every seed
  abbrev pub StepsOn : (M → Record) → Simulation M → Result (Option Row) RunFault → Simulation M → Type 0
  StepsOn f old r new = (seed : ℕ) (w : World) → Shows f old w → TellsWorld f w (step (setting_in old seed) w) r new

  -- a packet, if any, may be sent: it is new to all cells, and the packets so far are few enough to be counted
  abbrev pub MaySendNow : (M → Record) → Simulation M → Option Packet → Type 0
  MaySendNow f e sent =
      (ps : List Packet) × AreWhole f e.cells × HasCounted e ps
      × MaySend (length e.session.scenario.now.members) (shown_in f e.cells) ps sent

  -- after a packet was sent, if any was: all cells have heard it, and it is counted
  abbrev pub Sends : (M → Record) → Option Packet → Simulation M → Simulation M → Type 0
  Sends f sent old new =
      (ps : List Packet) → AreWhole f old.cells → HasCounted old ps
      → ShowCells f new.cells (all_hear (traffic_in old) sent (shown_in f old.cells))
      × HasCounted new (and_sent sent ps)

  -- a packet may be handed out: members sent it before the latest end of all, and it is new to the cells of all members
  pub record MayDeliver (f : M → Record) (p : Packet) (e : Simulation M) : Type 0 where
    pub sent : p.sent < end_of_time
    pub sender : p.id.sender < length e.session.scenario.now.members
    pub members : length (shown_in f e.cells) ≡ length e.session.scenario.now.members
    pub whole : AreWhole f e.cells
    pub new : IsUnheard p.id (shown_in f e.cells)

  -- after a packet was handed out: every cell has heard it
  abbrev pub Delivers : (M → Record) → Packet → Simulation M → Simulation M → Type 0
  Delivers f p old new =
      AreWhole f old.cells → ShowCells f new.cells (all_hear (traffic_in old) (Some p) (shown_in f old.cells))

  -- the engine is seen as the opening world with a seed
  abbrev pub IsOpened : (M → Record) → ℕ → Simulation M → Type 0
  IsOpened f seed e = Shows f e (opening (setting_in e seed))
