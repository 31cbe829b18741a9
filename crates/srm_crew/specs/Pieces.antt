-- What a team's worker is given, and what it gives back.
use Rattle.std.specs.Prelude.{◌≡◌, List, map, All, Result, Ok, Err}
use Rattle.std.specs.List.{Contains}
use Rattle.std.specs.Arc.{arc_value}
use Rattle.std.specs.declared.alloc.AllocError.{AllocError}
use Rattle.std.specs.Global.{Vec}
use Rattle.srm_net.specs.Network.{Network}
use Rattle.srm_scenario.specs.Plain.{PlainScenario}
use Rattle.srm_member.specs.Record.{Record}
use Rattle.srm_member.specs.declared.row.Row.{Row}
use Rattle.srm_cell.specs.declared.cell.Cell.{Cell}
use Rattle.srm_cell.specs.declared.fault.CellFault.{CellFault}
use Rattle.srm_cell.specs.declared.fault.CellFault.TheVariants as cell
use Rattle.srm_cell.specs.declared.sent.Sent.{Sent}
use Rattle.srm_cell.specs.Crossings.{joined}
use Rattle.srm_cell.specs.Setting.{traffic_of}
use Rattle.srm_cell.specs.Hearing.{IsSent, packets_in}
use Rattle.srm_crew.specs.declared.piece.Piece.{Piece}
use Rattle.srm_crew.specs.declared.piece.Piece.TheVariants.{Jobs, Hearers}
use Rattle.srm_crew.specs.declared.worked.Worked.{Worked}
use Rattle.srm_crew.specs.declared.worked.Worked.TheVariants.{Advanced, Heard}
use Rattle.srm_interfaces.specs.declared.watched.WatchedJob.{WatchedJob}
use Rattle.srm_interfaces.specs.declared.watched.WatchedDone.{WatchedDone}
use Rattle.srm_interfaces.specs.Hearers.{GroupsMayHear, TellsHeard}
use Rattle.srm_interfaces.specs.Watches.{AdvanceWatched}
use Rattle.srm_crew.specs.Watched.{MayWatch}

module _ {M K : Type 0} where
  -- a worker may work on the piece, in runs of this scenario on this network
  abbrev pub MayWork : (M → Record) → PlainScenario → Network → Piece M K → Type 0
  MayWork f k net (Jobs js) = MayWatch f net js.items
  MayWork f k net (Hearers sent gs) =
      All (λ x. IsSent k net x) (arc_value sent).items
      × GroupsMayHear f (traffic_of k net) (packets_in (arc_value sent).items) gs.items

  -- the piece has these jobs
  abbrev pub IsJobsOf : Vec (WatchedJob M K) → Piece M K → Type 0
  IsJobsOf js p = p ≡ Jobs js

  -- the piece has these groups, which are to hear what was sent
  abbrev pub AreHearersOf : List Sent → Vec (Vec (Cell M)) → Piece M K → Type 0
  AreHearersOf xs gs (Jobs js) = ⊥
  AreHearersOf xs gs (Hearers sent own) = ((arc_value sent).items ≡ xs) × (own ≡ gs)

  -- this comes of the piece: of jobs what may come of them, and of hearers what comes of hearers
  abbrev pub ComesOfPiece : (M → Record) → (List K → List (List Row) → List K → Type 0) → PlainScenario → Network
      → Piece M K → Worked M K → Type 0
  ComesOfPiece f takes k net (Jobs js) (Advanced r) = AdvanceWatched f takes k net js.items r
  ComesOfPiece f takes k net (Hearers sent gs) (Heard r) =
      TellsHeard f (traffic_of k net) (packets_in (arc_value sent).items) gs.items r
  ComesOfPiece f takes k net _ _ = ⊥

  -- it is what came of jobs
  abbrev pub IsAdvanced : Worked M K → Type 0
  IsAdvanced (Advanced r) = Unit {0}
  IsAdvanced (Heard r) = ⊥

  -- this came of jobs
  abbrev pub IsAdvancedAs : Result (Vec (WatchedDone M K)) CellFault → Worked M K → Type 0
  IsAdvancedAs r w = w ≡ Advanced r

  -- it is what came of hearers
  abbrev pub IsHeard : Worked M K → Type 0
  IsHeard (Advanced r) = ⊥
  IsHeard (Heard r) = Unit {0}

  -- this came of hearers
  abbrev pub IsHeardAs : Result (Vec (Vec (Cell M))) AllocError → Worked M K → Type 0
  IsHeardAs r w = w ≡ Heard r

  -- all groups that came of these hearers, in order
  abbrev pub HeardTogether : List (Worked M K) → List (Vec (Cell M)) → Type 0
  HeardTogether ws gs =
      (own : List (Vec (Vec (Cell M)))) × (ws ≡ map (λ v. Heard (Ok v)) own)
      × (gs ≡ joined (map (λ (v : Vec (Vec (Cell M))). v.items) own))

module _ {D : Type 0} where
  -- what pieces come to that gave these: all that they gave, in order; or, besides that memory ran out, one's refusal
  abbrev pub PutTogether : List (Result (Vec D) CellFault) → Result (Vec D) CellFault → Type 0
  PutTogether rs (Ok v) =
      (ds : List (Vec D)) × (rs ≡ map Ok ds) × (v.items ≡ joined (map (λ (d : Vec D). d.items) ds))
  PutTogether rs (Err cell.NoMemory) = Unit {0}
  PutTogether rs (Err e) = Contains rs (Err e)
