-- Where no member has a scope, widen, tries and steps decide nothing of a run.
use Rattle.std.proofs.Common.{◌≡◌, ℕ, zero, suc, ◌==◌, Bool, true, false, cond, List, [], ◌∷◌, ◌++◌, map, refl, sym, ap, ap₂, ◌∙◌}
use Rattle.std.proofs.Common.{Option, Some, None, option_map, nat_lt}
use Rattle.srm_net.specs.Limits.{most_sent}
use Rattle.srm_net.specs.declared.packet.Body.{Body}
use Rattle.srm_net.specs.declared.packet.Packet.{Packet}
use Rattle.srm_scenario.specs.declared.mark.Mark.{Mark}
use Rattle.srm_member.specs.declared.cause.Cause.{Cause}
use Rattle.srm_member.specs.declared.due.Due.{Due}
use Rattle.srm_member.specs.declared.exit.Exit.{Exit}
use Rattle.srm_member.specs.declared.row.Row.{Row}
use Rattle.srm_member.specs.declared.steps.Steps.{Steps}
use Rattle.srm_member.specs.LocalLaws.{IsWide, BringsNoScope, with_widening}
use Rattle.srm_member.specs.Record.{MemberState}
use Rattle.srm_member.specs.React.{Reaction, react}
use Rattle.srm_member.proofs.Widening.{widening_decides_nothing}
use Rattle.srm_cell.specs.declared.flight.Flight.{Flight}
use Rattle.srm_cell.specs.Setting.{Traffic, Setting, IsFit, arrival_of}
use Rattle.srm_cell.specs.Cells.{PlainCell, Event, earlier, first_arrival, first_mark, next_timer, next_event, before, hear, hear_at}
use Rattle.srm_cell.specs.Cells.{StepOutcome, Idle, Full, Spent, Done, Stepped, due_in, handle, opening_cell, sending_step, step_at}
use Rattle.srm_cell.specs.OwnRuns.{told_to}
use Rattle.srm_cell.proofs.CellLemmas.{event_map, stepped_map, outcome_map, earlier-map}
use Rattle.srm_model.specs.World.{World, after_step, cells_after, least_event, step_of, step_to, step, opening, opening_cells, run, exit_at}
use Rattle.srm_model.specs.World.{IsOutcome, RunMeetsFull}
use Rattle.srm_model.specs.WithoutScopes.{HasNoScopes, with_widenings, WideningDecidesNoRun}
use Rattle.srm_model.proofs.WithoutScopes.{Wide, state_wide, state_brings, wide_opening, wide_run}

abbrev goes_on : (World → StepOutcome World) → StepOutcome World → StepOutcome World
goes_on f o = elim o [ Idle ↦ Idle | Full ↦ Full | Spent ↦ Spent | Done v ↦ f v ]

module _ (widen tries : ℕ) (steps : Steps) where
  abbrev knows : Option MemberState → Option MemberState
  knows o = option_map (with_widening widen tries steps) o

  abbrev other : PlainCell → PlainCell
  other c = record c { holds = knows c.holds }

  abbrev other_world : World → World
  other_world w = record w { cells = map other w.cells }

  -- ---- the least event

  arrival_is : (m : ℕ) (c : PlainCell) (fs : List Flight) → first_arrival m (other c) fs
      ≡ option_map (event_map other) (first_arrival m c fs)
  arrival_is m c [] = refl
  arrival_is m c (f ∷ fs) = refl

  mark_is : (m : ℕ) (c : PlainCell) (ks : List Mark) → first_mark m (other c) ks ≡ option_map (event_map other) (first_mark m c ks)
  mark_is m c [] = refl
  mark_is m c (k ∷ ks) = refl

  due_is : (o : Option MemberState) → due_in (knows o) ≡ due_in o
  due_is None = refl
  due_is (Some k) = refl

  timer_is : (m : ℕ) (c : PlainCell) (o : Option Due) → next_timer m (other c) o ≡ option_map (event_map other) (next_timer m c o)
  timer_is m c None = refl
  timer_is m c (Some d) = refl

  next_is : (m : ℕ) (c : PlainCell) → next_event m (other c) ≡ option_map (event_map other) (next_event m c)
  unfolding next_event
  next_is m c =
      let mark = first_mark m c c.script in
      let timer = next_timer m c (due_in c.holds) in
      let timers = ap (next_timer m (other c)) (due_is c.holds) ∙ timer_is m c (due_in c.holds) in
      ap₂ earlier (arrival_is m c c.inbox) (ap₂ earlier (mark_is m c c.script) timers ∙ earlier-map other mark timer)
      ∙ earlier-map other (first_arrival m c c.inbox) (earlier mark timer)

  least_is : (i : ℕ) (cs : List PlainCell) → least_event i (map other cs) ≡ option_map (event_map other) (least_event i cs)
  unfolding least_event
  least_is i [] = refl
  least_is i (c ∷ cs) =
      ap₂ earlier (next_is i c) (least_is (suc i) cs) ∙ earlier-map other (next_event i c) (least_event (suc i) cs)

  kept_is : (b : Bool) (e : Event) → cond b (Some (event_map other e)) None ≡ option_map (event_map other) (cond b (Some e) None)
  kept_is true e = refl
  kept_is false e = refl

  before_is : (till : ℕ) (o : Option Event) → before till (option_map (event_map other) o) ≡ option_map (event_map other) (before till o)
  before_is till None = refl
  before_is till (Some e) = kept_is (nat_lt e.key.time till) e

  -- ---- the step

  if_room : (b : Bool) (x y : StepOutcome Stepped) → cond b (outcome_map (stepped_map other) x) (outcome_map (stepped_map other) y)
      ≡ outcome_map (stepped_map other) (cond b x y)
  if_room true x y = refl
  if_room false x y = refl

  abbrev carry : Reaction → Reaction
  carry r = record r { state = with_widening widen tries steps r.state }

  sending_is : (e : Event) (r : Reaction) (body : Option Body) → sending_step (event_map other e) (carry r) body
      ≡ outcome_map (stepped_map other) (sending_step e r body)
  sending_is e r None = refl
  sending_is e r (Some body) = if_room (nat_lt e.rest.sent most_sent) _ _

  handle_is : (e : Event) (holds : Option MemberState) (cause : Option Cause)
      → ((k : MemberState) → holds ≡ Some k → IsWide k)
      → ((k : MemberState) → holds ≡ Some k → (c : Cause) → cause ≡ Some c → BringsNoScope k.fixed c)
      → handle (event_map other e) (knows holds) cause ≡ outcome_map (stepped_map other) (handle e holds cause)
  unfolding handle
  handle_is e None cause wide brings = refl
  handle_is e (Some k) None wide brings = refl
  handle_is e (Some k) (Some c) wide brings =
      ap (λ (r : Reaction). sending_step (event_map other e) r r.answer.body)
      (widening_decides_nothing k e.key.time c widen tries steps (wide k refl) (brings k refl c refl))
      ∙ sending_is e (react k e.key.time c) (react k e.key.time c).answer.body

  -- ---- the cells after it

  heard_is : (p : Packet) (o : Option ℕ) (c : PlainCell) → hear_at p o (other c) ≡ other (hear_at p o c)
  heard_is p None c = refl
  heard_is p (Some at) c = refl

  told_is : (t : Traffic) (x : Option Packet) (m : ℕ) (c : PlainCell) → told_to t x m (other c) ≡ other (told_to t x m c)
  unfolding hear
  told_is t None m c = refl
  told_is t (Some p) m c = heard_is p (arrival_of t p m) c

  either_is : (b : Bool) (x y z : PlainCell) → z ≡ other y → cond b (other x) z ≡ other (cond b x y)
  either_is true x y z h = refl
  either_is false x y z h = h

  -- ---- what it ends with

  exit_is : (o : Option MemberState) (x : Option Exit) → exit_at (knows o) x ≡ exit_at o x
  exit_is None None = refl
  exit_is None (Some x) = refl
  exit_is (Some k) None = refl
  exit_is (Some k) (Some x) = refl

  exits_are : (cs : List PlainCell) → map (λ (c : PlainCell). exit_at c.holds c.exit) (map other cs)
      ≡ map (λ (c : PlainCell). exit_at c.holds c.exit) cs
  exits_are [] = refl
  exits_are (c ∷ cs) = λ k. exit_is c.holds c.exit k ∷ exits_are cs k

  -- ---- the run

  module _ (s : Setting) where
    abbrev t : Setting
    t = with_widenings widen tries steps s

    abbrev until : ℕ
    until = s.traffic.until

    cells_are : (m : ℕ) (d : Stepped) (i : ℕ) (cs : List PlainCell) → cells_after t m (stepped_map other d) i (map other cs)
        ≡ map other (cells_after s m d i cs)
    unfolding cells_after
    cells_are m d i [] = refl
    cells_are m d i (c ∷ cs) =
        λ k. either_is (i == m) d.cell (told_to s.traffic d.row.sent i c) _ (told_is s.traffic d.row.sent i c) k
        ∷ cells_are m d (suc i) cs k

    opening_is : (n i : ℕ) → opening_cells t n i ≡ map other (opening_cells s n i)
    unfolding opening_cells
    opening_is zero i = refl
    opening_is (suc n) i = ap (λ cs. other (opening_cell s i) ∷ cs) (opening_is n (suc i))

    before_least : (cs : List PlainCell) → before until (least_event 0 (map other cs))
        ≡ option_map (event_map other) (before until (least_event 0 cs))
    before_least cs = ap (before until) (least_is 0 cs) ∙ before_is until (least_event 0 cs)

    after_is : (w : World) (m : ℕ) (o : StepOutcome Stepped) → after_step t (other_world w) m (outcome_map (stepped_map other) o)
        ≡ outcome_map other_world (after_step s w m o)
    unfolding after_step
    after_is w m Idle = refl
    after_is w m Full = refl
    after_is w m Spent = refl
    after_is w m (Done d) = ap (λ cs. Done (record { cells = cs; trace = w.trace ++ d.row ∷ [] })) (cells_are m d 0 w.cells)

    module _ (fit : IsFit s) where
      abbrev IsWideHere : World → Type 0
      IsWideHere w = Wide s fit w.cells w.trace

      of_is : (w : World) → IsWideHere w → (o : Option Event) → before until (least_event 0 w.cells) ≡ o
          → step_of t (other_world w) (option_map (event_map other) o) ≡ outcome_map other_world (step_of s w o)
      unfolding step_of
      of_is w wide None least = refl
      of_is w wide (Some e) least =
          ap (after_step t (other_world w) e.key.member)
          (handle_is e e.rest.holds e.cause (state_wide s fit w.cells w.trace wide e least)
          (state_brings s fit w.cells w.trace wide e least))
          ∙ after_is w e.key.member (step_at (Some e))

      step_is : (w : World) → IsWideHere w → step t (other_world w) ≡ outcome_map other_world (step s w)
      unfolding step_to
      step_is w wide =
          ap (step_of t (other_world w)) (before_least w.cells) ∙ of_is w wide (before until (least_event 0 w.cells)) refl

      goes_on_is : (n : ℕ) → ((v : World) → IsWideHere v → run t n (other_world v) ≡ outcome_map other_world (run s n v))
          → (w : World) → IsWideHere w → (o : StepOutcome World) → step s w ≡ o
          → goes_on (run t n) (outcome_map other_world o) ≡ outcome_map other_world (goes_on (run s n) o)
      unfolding run
      goes_on_is n rest w wide Idle h = refl
      goes_on_is n rest w wide Full h = refl
      goes_on_is n rest w wide Spent h = refl
      goes_on_is n rest w wide (Done v) h = rest v (wide_run s fit 1 w v wide (ap (goes_on (λ u. Done u)) h))

      run_is : (n : ℕ) (w : World) → IsWideHere w → run t n (other_world w) ≡ outcome_map other_world (run s n w)
      unfolding run
      run_is zero w wide = refl
      run_is (suc n) w wide =
          ap (goes_on (run t n)) (step_is w wide) ∙ goes_on_is n (λ v g. run_is n v g) w wide (step s w) refl

      from_opening : HasNoScopes s → (n : ℕ) → run t n (opening t) ≡ outcome_map other_world (run s n (opening s))
      unfolding opening
      from_opening none n =
          ap (λ cs. run t n (record { cells = cs; trace = [] })) (opening_is s.traffic.members 0)
          ∙ run_is n (opening s) (wide_opening s fit none)

      pub outcome_is : HasNoScopes s → (trace : List Row) (exits : List Exit) (totals : List ℕ) → IsOutcome s trace exits totals
          → IsOutcome t trace exits totals
      outcome_is none trace exits totals o =
          let r = o.last.reached in
          let wide = wide_run s fit r.0 (opening s) o.world (wide_opening s fit none) r.1 in
          record {
            world = other_world o.world;
            last = record {
              reached = (r.0, from_opening none r.0 ∙ ap (outcome_map other_world) r.1);
              idle = step_is o.world wide ∙ ap (outcome_map other_world) o.last.idle;
            };
            trace_is = o.trace_is;
            exits_are = o.exits_are ∙ sym (exits_are o.world.cells);
            totals_are = o.totals_are;
          }

      pub full_is : HasNoScopes s → RunMeetsFull s → RunMeetsFull t
      full_is none f = (f.0, from_opening none f.0 ∙ ap (outcome_map other_world) f.1)

pub widening_decides_no_run : WideningDecidesNoRun
widening_decides_no_run s widen tries steps fit none = (
  outcome_is widen tries steps s fit none,
  full_is widen tries steps s fit none,
)
