-- One step of the sequential run: the event that it takes, the cell from which, the row, and the cells after it.
use Rattle.std.proofs.Common.{◌≡◌, ℕ, zero, suc, ◌<◌, ◌≤◌, List, [], ◌∷◌, ◌++◌, length, refl}
use Rattle.std.proofs.Common.{sym, ap, ◌∙◌, subst, ◌≢◌, ◌⊎◌, inr, arith, Option, Some, None, option_map, slice_get}
use Rattle.std.proofs.Common.{le_refl}
use Rattle.srm_net.specs.declared.packet.Body.{Body}
use Rattle.srm_net.specs.declared.packet.Packet.{Packet}
use Rattle.srm_scenario.specs.declared.mark.Mark.{Mark}
use Rattle.srm_member.specs.declared.cause.Cause.{Cause}
use Rattle.srm_member.specs.declared.cause.Cause.TheVariants.{Arrival}
use Rattle.srm_member.specs.declared.due.Due.{Due}
use Rattle.srm_member.specs.Record.{MemberState, exit_of}
use Rattle.srm_member.specs.React.{react}
use Rattle.srm_cell.specs.declared.flight.Flight.{Flight}
use Rattle.srm_cell.specs.Setting.{Setting, arrival_of, cause_of_mark}
use Rattle.srm_cell.specs.Cells.{PlainCell, Event, first_arrival, first_mark, next_timer, next_event, before, StepOutcome, Idle, Full}
use Rattle.srm_cell.specs.Cells.{hear_at}
use Rattle.srm_cell.specs.Cells.{Spent, Done, Stepped, word_of, about_of, packet_of, handle, step_at}
use Rattle.srm_cell.specs.OwnRuns.{told_to}
use Rattle.srm_cell.proofs.Rising.{OnEvent, earlier_on, OnStep}
use Rattle.srm_cell.proofs.CellSteps.{some_not_idle}
use Rattle.srm_model.proofs.Settled.{get_after}
use Rattle.srm_model.proofs.RunLemmas.{least_from, run_by, run_first, step_none, step_is}
use Rattle.srm_model.specs.World.{World, cells_after, after_step, least_event, step, run, opening_cells}
use Rattle.srm_cell.specs.Cells.{due_in}
use Rattle.srm_member.specs.declared.told.Told.TheVariants.{Parted}
pub use Rattle.srm_model.proofs.Settled.{each_after, length_after}

-- ---- what a cell's least event is

-- a flight is taken from the inbox
pub record TakesFlight (c : PlainCell) (e : Event) : Type 0 where
  pub flight : Flight
  pub inbox : c.inbox ≡ flight ∷ e.rest.inbox
  pub cause : e.cause ≡ Some (Arrival flight.packet)
  pub time : e.key.time ≡ flight.arrival

abbrev pub NoArrival : Option Cause → Type 0
NoArrival cause = (p : Packet) → cause ≢ Some (Arrival p)

abbrev pub Takes : PlainCell → Event → Type 0
Takes c e = TakesFlight c e ⊎ ((e.rest.inbox ≡ c.inbox) × NoArrival e.cause)

-- an event of member m, which leaves all of its cell but what it takes
pub record IsPending (m : ℕ) (c : PlainCell) (e : Event) : Type 0 where
  pub member : e.key.member ≡ m
  pub holds : e.rest.holds ≡ c.holds
  pub sent : e.rest.sent ≡ c.sent
  pub exit : e.rest.exit ≡ c.exit
  pub takes : Takes c e

arrival_pends : (m : ℕ) (c : PlainCell) (fs : List Flight) → c.inbox ≡ fs → OnEvent (IsPending m c) (first_arrival m c fs)
arrival_pends m c fs h = grind arith

mark_no_arrival : (k : Mark) → NoArrival (cause_of_mark k.rank k)
mark_no_arrival k = grind arith

mark_pends : (m : ℕ) (c : PlainCell) (ks : List Mark) → OnEvent (IsPending m c) (first_mark m c ks)
mark_pends m c [] = tt
mark_pends m c (k ∷ ks) = record { member = refl; holds = refl; sent = refl; exit = refl; takes = inr (refl, mark_no_arrival k) }

timer_pends : (m : ℕ) (c : PlainCell) (d : Option Due) → OnEvent (IsPending m c) (next_timer m c d)
timer_pends m c d = grind arith

next_pends : (m : ℕ) (c : PlainCell) → OnEvent (IsPending m c) (next_event m c)
unfolding next_event
next_pends m c = earlier_on (IsPending m c) (first_arrival m c c.inbox) _ (arrival_pends m c c.inbox refl)
    (earlier_on (IsPending m c) (first_mark m c c.script) (next_timer m c (due_in c.holds)) (mark_pends m c c.script)
    (timer_pends m c (due_in c.holds)))

-- the least event of all is one of its member's cell
pub least_pends : (until : ℕ) (cs : List PlainCell) (e : Event) → before until (least_event 0 cs) ≡ Some e
    → (c : PlainCell) × (slice_get cs e.key.member ≡ Some c) × IsPending e.key.member c e
least_pends until cs e h = grind (arith, least_from, next_pends)

-- ---- what a step does

-- the packet of a body, if there is one, is sent, and counted
abbrev pub Sends : Event → Option Body → Stepped → Type 0
Sends e None d = (d.row.sent ≡ None) × (d.cell.sent ≡ e.rest.sent)
Sends e (Some body) d = (d.row.sent ≡ Some (packet_of e body)) × (d.cell.sent ≡ suc e.rest.sent)

-- the member answers the cause
pub record Answers (e : Event) (d : Stepped) : Type 0 where
  pub state : MemberState
  pub cause : Cause
  pub holds : e.rest.holds ≡ Some state
  pub is : e.cause ≡ Some cause
  pub holds_then : d.cell.holds ≡ Some (react state e.key.time cause).state
  pub exit : d.cell.exit ≡ e.rest.exit
  pub told : d.row.told ≡ (react state e.key.time cause).answer.told
  pub lost : d.row.lost ≡ (react state e.key.time cause).answer.lost
  pub about : d.row.about ≡ about_of (Some cause) (react state e.key.time cause).answer.body
  pub sends : Sends e (react state e.key.time cause).answer.body d

-- the member leaves
pub record Leaves (e : Event) (d : Stepped) : Type 0 where
  pub state : MemberState
  pub holds : e.rest.holds ≡ Some state
  pub is : e.cause ≡ None
  pub holds_then : d.cell.holds ≡ None
  pub exit : d.cell.exit ≡ Some (exit_of state)
  pub told : d.row.told ≡ Parted
  pub lost : d.row.lost ≡ []
  pub about : d.row.about ≡ about_of None None
  pub sends : Sends e None d

pub record Does (e : Event) (d : Stepped) : Type 0 where
  pub key : d.row.key ≡ e.key
  pub cause : d.row.cause ≡ word_of e.cause
  pub inbox : d.cell.inbox ≡ e.rest.inbox
  pub how : Answers e d ⊎ Leaves e d

does_handle : (e : Event) (holds : Option MemberState) (cause : Option Cause) → e.rest.holds ≡ holds → e.cause ≡ cause
    → OnStep (Does e) (handle e holds cause)
unfolding handle
does_handle e holds cause h c = grind arith

does_step : (e : Event) → OnStep (Does e) (step_at (Some e))
does_step e = does_handle e e.rest.holds e.cause refl refl

-- ---- a step of the sequential run

pub record Steps (until : ℕ) (cs : List PlainCell) (e : Event) (d : Stepped) : Type 0 where
  pub least : before until (least_event 0 cs) ≡ Some e
  pub stepped : step_at (Some e) ≡ Done d

-- the stepping member's cell before the step, its event, and what came of it
pub record StepFacts (cs : List PlainCell) (e : Event) (d : Stepped) : Type 0 where
  pub cell : PlainCell
  pub here : slice_get cs e.key.member ≡ Some cell
  pub pending : IsPending e.key.member cell e
  pub does : Does e d

pub step_facts : (until : ℕ) (cs : List PlainCell) (e : Event) (d : Stepped) → Steps until cs e d → StepFacts cs e d
step_facts until cs e d h = grind (arith, least_from, next_pends, does_step)

-- ---- the cells after a step

-- who hears a packet has sent none more
pub hear_at_sent : (p : Packet) (o : Option ℕ) (c : PlainCell) → (hear_at p o c).sent ≡ c.sent
hear_at_sent p None c = refl
hear_at_sent p (Some at) c = refl

module _ (s : Setting) where
  -- the stepping member's cell is the step's
  pub here_after : (m : ℕ) (d : Stepped) (cs : List PlainCell) (c : PlainCell) → slice_get cs m ≡ Some c
      → slice_get (cells_after s m d 0 cs) m
      ≡ Some d.cell
  here_after m d cs c h = grind (arith, get_after)

  -- every other hears what was sent
  pub there_after : (m : ℕ) (d : Stepped) (cs : List PlainCell) (j : ℕ) → j ≢ m → slice_get (cells_after s m d 0 cs) j
      ≡ option_map (told_to s.traffic d.row.sent j) (slice_get cs j)
  there_after m d cs j ne = grind (arith, get_after)

  pub length_opening : (n i : ℕ) → length (opening_cells s n i) ≡ n
  unfolding opening_cells
  length_opening zero i = refl
  length_opening (suc n) i = ap suc (length_opening n (suc i))

  -- ---- the run, step by step

  within : s.traffic.until ≤ s.traffic.until
  within = le_refl s.traffic.until

  -- an event is a step, or is refused
  after_moves : (w : World) (e : Event) (o : StepOutcome Stepped) → step_at (Some e) ≡ o → after_step s w e.key.member o ≢ Idle
  unfolding after_step
  after_moves w e o h g = grind (arith, some_not_idle)

  -- where the run is over, nothing is pending before `until`
  pub nothing_left : (w : World) → step s w ≡ Idle → before s.traffic.until (least_event 0 w.cells) ≡ None
  nothing_left w h = elim (before s.traffic.until (least_event 0 w.cells))
      as (λ o. before s.traffic.until (least_event 0 w.cells) ≡ o → before s.traffic.until (least_event 0 w.cells) ≡ None) [
        | None ↦ λ q. q
        | Some e ↦ λ q. absurd (after_moves w e (step_at (Some e)) refl (sym (step_is s s.traffic.until within w e q) ∙ h))
      ] refl

  -- a step, and a run of n steps from what it leaves
  abbrev pub BeginsRun : ℕ → World → World → Type 0
  BeginsRun n w v = (e : Event) × (d : Stepped) × Steps s.traffic.until w.cells e d
      × (run s n (record { cells = cells_after s e.key.member d 0 w.cells; trace = w.trace ++ d.row ∷ [] }) ≡ Done v)

  pub run_begins : (n : ℕ) (w v : World) → run s (suc n) w ≡ Done v → BeginsRun n w v
  unfolding after_step
  run_begins n w v h =
      let by = sym (run_first s s.traffic.until within n w) ∙ h in
      elim (before s.traffic.until (least_event 0 w.cells)) as (λ o. before s.traffic.until (least_event 0 w.cells) ≡ o → BeginsRun n w v) [
        | None ↦ λ e. let x : Idle ≡ Done v = sym (ap (run_by s s.traffic.until within n) (step_none s s.traffic.until within w e))
            ∙ by in cc
        | Some e ↦ λ b.
            let stepped = λ (o : StepOutcome Stepped) (x : step_at (Some e) ≡ o). sym
            (ap (run_by s s.traffic.until within n) (step_is s s.traffic.until within w e b ∙ ap (after_step s w e.key.member) x))
            ∙ by in
            elim (step_at (Some e)) as (λ o. step_at (Some e) ≡ o → BeginsRun n w v) [
              | Idle ↦ λ x. absurd (some_not_idle e x)
              | Full ↦ λ x. let y : Full ≡ Done v = stepped Full x in cc
              | Spent ↦ λ x. let y : Spent ≡ Done v = stepped Spent x in cc
              | Done d ↦ λ x. (e, d, record { least = b; stepped = x }, stepped (Done d) x)
            ] refl
      ] refl

  -- what holds of a world, and is kept by each step, holds of all worlds to which the run comes from there
  pub run_keeps : (P : World → Type 0)
      → ((w : World) (e : Event) (d : Stepped) → Steps s.traffic.until w.cells e d → P w
      → P (record { cells = cells_after s e.key.member d 0 w.cells; trace = w.trace ++ d.row ∷ [] }))
      → (n : ℕ) (w v : World) → P w → run s n w ≡ Done v → P v
  unfolding run
  run_keeps P kept zero w v p h = let e : w ≡ v = same_done w v h in subst P e p
    where
      same_done : (a b : World) → Done a ≡ Done b → a ≡ b
      same_done a b e = cc
  run_keeps P kept (suc n) w v p h = let r = run_begins n w v h in run_keeps P kept n _ v (kept w r.0 r.1 r.2 p) r.3

  -- ---- flights

  -- a flight is to another member, and arrives before the end of the run
  pub arrival_is : (p : Packet) (m at : ℕ) → arrival_of s.traffic p m ≡ Some at → (m < s.traffic.members) × (m ≢ p.id.sender)
      × (at < s.traffic.until)
  arrival_is p m at h = grind arith
