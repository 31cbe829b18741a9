-- What is kept of a window's rows may be handed on, and what it tells.
use Rattle.std.proofs.Common.{◌≡◌, ◌∙◌, ℕ, ◌<◌, ◌≤◌, ◌^◌, List, [], ◌∷◌, ◌++◌, All, length, sym, subst, arith}
use Rattle.std.proofs.lemmas.List.Elements.{All-nil, All-cons}
use Rattle.srm_net.specs.declared.key.Key.{Key}
use Rattle.srm_net.specs.Orders.{Ascends}
use Rattle.srm_scenario.proofs.Members.{few_members}
use Rattle.srm_member.specs.declared.row.Row.{Row}
use Rattle.srm_member.specs.Record.{Record}
use Rattle.srm_member.proofs.AllIn.{AllIn, AllIn-second}
use Rattle.srm_cell.specs.Setting.{Setting, IsFit}
use Rattle.srm_cell.specs.Cells.{PlainCell}
use Rattle.srm_cell.specs.Crossings.{joined}
use Rattle.srm_cell.proofs.CellSteps.{before_some}
use Rattle.srm_interfaces.specs.declared.sink.SinkFault.{SinkFault}
use Rattle.srm_interfaces.specs.Watches.{KeepMembers}
use Rattle.srm_interfaces.specs.InTurn.{HasTurn, KeepInGroups, WereClosed}
use Rattle.srm_interfaces.proofs.GroupedLemmas.{closed_long}
use Rattle.srm_model.specs.World.{World, IsReached, least_event, opening, row_cmp}
use Rattle.srm_model.proofs.OneWindow.{part_rows}
use Rattle.srm_model.proofs.RunLemmas.{Seq, rest, next}
use Rattle.srm_model.proofs.StrictRuns.{keys_rise}
use Rattle.srm_model.proofs.Sequential.{Good, good_reached, good_step, member_below, step_facts}
use Rattle.srm_engine.specs.declared.halt.Halt.TheVariants as halt
use Rattle.srm_engine.specs.declared.fault.RunFault.{RunFault}
use Rattle.srm_engine.specs.declared.watch_engine.WatchEngine.{WatchEngine}
use Rattle.srm_engine.specs.Streams.{TellsHalt}
use Rattle.srm_engine.specs.WatchEngines.{IsWatching}
use Rattle.srm_engine.specs.WindowEngines.{ComesTo, setting_by}
use Rattle.srm_engine.proofs.Stepping.{opening_reached, opening_trace}
use Rattle.srm_engine.proofs.CellLists.{all_long}
use Rattle.srm_engine.proofs.WindowLemmas.{fit, members_are, reached}

-- ---- rows of a run are of its members, and before its end

module _ (s : Setting) (fit : IsFit s) where
  abbrev IsWithin : Row → Type 0
  IsWithin r = (r.key.member < s.traffic.members) × (r.key.time < s.traffic.until)

  rows_within : {cs ds : List PlainCell} {rows : List Row} → Seq s s.traffic.until cs rows ds → Good s fit cs → AllIn IsWithin rows
  rows_within rest good = tt
  rows_within (next {cs = cs} {e = e} {d = d} h x more) good =
      let f = step_facts s fit s.traffic.until cs e d h x in
      let is : (e.key.member < s.traffic.members) × (e.key.time < s.traffic.until) =
      (member_below s fit s.traffic.until cs e d good h x, (before_some s.traffic.until (least_event 0 cs) e h).1) in
      let here : IsWithin d.row = subst (λ (k : Key). (k.member < s.traffic.members) × (k.time < s.traffic.until)) (sym f.key) is in
      (here, rows_within more (good_step s fit s.traffic.until cs e d good h x))

  trace_within : (w : World) → IsReached s w → AllIn IsWithin w.trace
  trace_within w h =
      let o = opening_reached s in
      let part = part_rows s fit h.0 (opening s) w h.1 in
      subst (AllIn IsWithin) (sym (subst (λ l. w.trace ≡ l ++ part.0) (opening_trace s) part.2))
      (rows_within part.1 (good_reached s fit o.0 (opening s) o.1))

  have_turns : s.traffic.until ≤ 2 ^ 48 → (rows : List Row) → AllIn IsWithin rows → All (HasTurn s.traffic.members) rows
  have_turns early [] h = All-nil (HasTurn s.traffic.members)
  have_turns early (r ∷ rows) h =
      All-cons (HasTurn s.traffic.members) r rows
      (record { member = h.0.0; time = (let b : r.key.time < s.traffic.until = h.0.1 in omega arith) }) (have_turns early rows h.1)

  -- the last rows of a world of a run have turns
  pub turns_after : s.traffic.until ≤ 2 ^ 48 → (w : World) → IsReached s w → (front rows : List Row) → w.trace ≡ front ++ rows
      → All (HasTurn s.traffic.members) rows
  turns_after early w h front rows is =
      have_turns early rows (AllIn-second IsWithin front rows (subst (AllIn IsWithin) is (trace_within w h)))

-- ---- what is kept of a window

ascends_second : (xs ys : List Row) → Ascends row_cmp (xs ++ ys) → Ascends row_cmp ys
ascends_second [] ys h = h
ascends_second (x ∷ xs) ys h = ascends_second xs ys h.1

-- what was kept of the rows of a window, and closed, was so in turn
pub kept_in_turn : {M K : Type 0} (f : M → Record) (keeps : K → List Row → Type 0) (closes : List K → List K → Type 0)
    (e : WatchEngine M K) (is : IsWatching f e) (seed : ℕ) (begins : List World) (w : World) → ComesTo f seed e.engine begins w
    → (front rows : List Row) → w.trace ≡ front ++ rows → WereClosed closes (λ kept. KeepMembers keeps 0 kept rows) e.kept.items
    → KeepInGroups keeps closes e.kept.items rows
kept_in_turn f keeps closes e is seed begins w comes front rows grown kept =
    let s = setting_by e.engine seed in
    let p = e.engine.session.scenario.now in
    let all : length (joined kept.full) ≡ s.traffic.members =
    closed_long closes kept.full e.kept.items kept.closed ∙ all_long e.kept.items e.engine.groups.groups.items is.each
    ∙ members_are f e.engine is.under_way seed begins w comes in
    let most = few_members p is.under_way.accepted in
    let few = is.under_way.accepted.few_ticks in record {
      full = kept.full;
      closed = kept.closed;
      so = record {
        few = omega (arith, all, most);
        turns = subst (λ n. All (HasTurn n) rows) (sym all)
            (turns_after s (fit f e.engine is.under_way seed begins w comes) (omega (arith, few)) w
            (reached f e.engine is.under_way seed begins w comes) front rows grown);
        rise = ascends_second front rows (subst (Ascends row_cmp) grown
            (keys_rise s w (fit f e.engine is.under_way seed begins w comes) (reached f e.engine is.under_way seed begins w comes)));
        are = kept.so;
      };
    }

-- where a sink stops as it is handed what is kept of a window, it took no more than a front of the trace
pub kept_stopped : {S : Type 0} (took part : S → List Row → S → Type 0)
    → ((a b c : S) (xs ys : List Row) → took a xs b → part b ys c → part a (xs ++ ys) c)
    → (s : Setting) (may : World → RunFault → Type 0) (rows : List Row) (from sink to : S) (w u : World)
    → took from w.trace sink → IsReached s u → u.trace ≡ w.trace ++ rows
    → (x : SinkFault) → part sink rows to → TellsHalt took part may s from (halt.Sink x) to
kept_stopped took part more s may rows from sink to w u so_far later grown x h =
    (u, later, subst (λ (l : List Row). part from l to) (sym grown) (more from sink to w.trace rows so_far h))
