-- The windows of an engine: its jobs, what a crew did, and its rows.
use Rattle.std.proofs.Common.{◌≡◌, ℕ, suc, ◌<◌, ◌≤◌, ◌+◌, ◌^◌, min, List, [], ◌∷◌, ◌++◌, Ok, Err, refl, sym, ap, ◌∙◌, subst, arith}
use Rattle.std.proofs.Common.{inl, inr, ◌≢◌, Some, IsSome}
use Rattle.std.proofs.Common.{All, IsSorted, IsPermutation, length, map, drop, slice_index, ◌*◌}
use Rattle.std.proofs.lemmas.List.{length-map}
use Rattle.std.proofs.lemmas.Option.{same_Some}
use Rattle.std.proofs.lemmas.List.Sorted.{IsPermutation-refl}
use Rattle.std.specs.List.{range_with_len}
use Rattle.std.specs.Global.{Vec}
use Rattle.srm_net.specs.Network.{Network}
use Rattle.srm_scenario.specs.Plain.{PlainScenario}
use Rattle.srm_scenario.specs.Accepted.{IsAccepted}
use Rattle.srm_scenario.specs.declared.parts.MemberSpec.{MemberSpec}
use Rattle.srm_scenario.proofs.Members.{few_members}
use Rattle.srm_net.specs.Limits.{most_nodes}
use Rattle.srm_member.specs.declared.row.Row.{Row}
use Rattle.srm_member.specs.Record.{Record}
use Rattle.srm_ledger.specs.Seats.{LedgerView, SeatView, totals_of, whole_seat}
use Rattle.srm_interfaces.proofs.Sums.{crossings_long}
use Rattle.srm_cell.specs.declared.cell.Cell.{Cell}
use Rattle.srm_cell.specs.declared.job.Job.{Job}
use Rattle.srm_cell.specs.declared.job.Done as job
use Rattle.srm_cell.specs.Setting.{Setting, IsFit, setting_of, traffic_of}
use Rattle.srm_cell.specs.Cells.{Event, Full, Spent}
use Rattle.srm_cell.specs.Crossings.{joined, packets_of, crossings}
use Rattle.srm_cell.specs.Jobs as cell
use Rattle.srm_cell.proofs.FitSettings.{settings_are_fit}
use Rattle.srm_interfaces.specs.declared.fault.CrewFault.{CrewFault}
use Rattle.srm_interfaces.specs.declared.fault.CrewFault.TheVariants as crew
use Rattle.srm_interfaces.specs.Watches.{KeepEach, KeepMembers}
use Rattle.srm_interfaces.specs.Crews.{AreDone, AnyEnds, AreRowsOfSome, Maps, HasGrown, IsPast, rows_of, counted_in, plain_jobs}
use Rattle.srm_engine.specs.declared.window_engine.WindowEngine.{WindowEngine}
use Rattle.srm_engine.specs.declared.cutting.Cutting.{Cutting}
use Rattle.srm_engine.specs.declared.width.Windows.{Windows}
use Rattle.srm_engine.specs.declared.fault.RunFault.{RunFault}
use Rattle.srm_engine.specs.declared.fault.RunFault.TheVariants as fault
use Rattle.srm_engine.specs.declared.stream_fault.StreamFault.{StreamFault}
use Rattle.srm_engine.specs.declared.stream_fault.StreamFault.TheVariants.{Run, Stopped}
use Rattle.srm_engine.specs.declared.halt.Halt.{Halt}
use Rattle.srm_engine.specs.declared.halt.Halt.TheVariants as halt
use Rattle.srm_interfaces.specs.declared.sink.SinkFault.TheVariants as sink
use Rattle.srm_interfaces.specs.declared.sink.Stage.{Stage}
use Rattle.srm_interfaces.specs.Sinks.{stage_after}
use Rattle.srm_model.specs.World.{World, row_cmp, IsReached, IsLast, opening}
use Rattle.srm_model.specs.Schedules.{IsSafe, HasNoResult}
use Rattle.srm_model.specs.WindowRuns.{OwnResult, AreOwnRuns, AreRunsOf, jobs_from, rows_in, cells_in, IsMerge, AreNewInTurn, each_hears}
use Rattle.srm_model.specs.WindowRuns.{IsWindow, after_window, jobs_of}
use Rattle.srm_model.specs.WindowChains.{IsNext, start_of, IsEndRule, AreWindows}
use Rattle.srm_engine.proofs.KeptLemmas.{kept_goes_on}
use Rattle.srm_engine.specs.Groups.{AreCuts, AreGrouped, RanGroups, all_in, jobs_with, groups_of, lists_of, some_of}
use Rattle.srm_engine.specs.declared.ends.Ends.{Ends}
use Rattle.srm_engine.specs.Ends.{MayEnd, TellsCutting, end_from, ends_rule}
use Rattle.srm_engine.specs.declared.ends.Ends.TheVariants.{After, Promised}
use Rattle.srm_engine.specs.Seen.{plain_cells}
use Rattle.srm_engine.specs.Soonest.{first_promise}
use Rattle.srm_engine.specs.Faults.{run_fault_of}
use Rattle.srm_engine.specs.Streams.{sink_in, TellsHalt, stream_fault_of, run_fault_in}
use Rattle.srm_scenario.specs.declared.session.Session.{Session}
use Rattle.srm_engine.specs.Starts.{setting_on}
use Rattle.srm_engine.specs.RowRuns.{MayLackWindow, UndoneAfter}
use Rattle.srm_engine.specs.WindowStreams.{MeetsWindowRefusal, TellsStreamAsked, RefusedAtWindow}
use Rattle.srm_engine.specs.Windowed.{IsCounted, MayCome, MayRefuseWindow, TellsRunAsked, rule_of}
use Rattle.srm_engine.specs.WindowEngines.{ComesTo, IsUnderWay, BeginsNext, EndsNext, frame_of, setting_by, rule_by}
use Rattle.srm_engine.proofs.CellLists.{as_many, few_groups, own_all, still_from}
use Rattle.srm_engine.proofs.SoonLemmas.{promised_by}
use Rattle.srm_engine.proofs.JobLemmas.{any_cell, seen_jobs, may_advance, as_many_jobs, places_with, job_results, ran_groups, sizes_kept}
use Rattle.srm_engine.proofs.JobLemmas.{joined_some}
use Rattle.srm_engine.proofs.JobLemmas.{counted_more, counted_merged, rows_joined}
use Rattle.srm_model.proofs.LawProofs.{never_spent}
use Rattle.srm_model.proofs.OneWindow.{as_many_results}
use Rattle.srm_model.proofs.Sequential.{good_reached}
use Rattle.srm_engine.proofs.Stepping.{opening_trace}
use Rattle.srm_model.proofs.AnyOrder.{packets_are_heard_in_any_order, heard_by_packets}
use Rattle.srm_model.proofs.WindowEnds.{widths_are_rules, promises_are_a_rule, starts_tell}
use Rattle.srm_model.proofs.WindowChain.{windows_are_reached, windows_follow, refused_windows_meet_full}
use Rattle.srm_ledger.proofs.Keeps.{replicate_zero}
use Rattle.srm_interfaces.proofs.Sums.{none_crossed}

-- ---- windows

-- windows that end so follow a rule
pub ends_are_rules : (p : PlainScenario) → IsAccepted p → (seed : ℕ) (ends : Ends) → MayEnd p ends
    → IsEndRule (setting_of p seed) (ends_rule (setting_of p seed) ends)
ends_are_rules p accepted seed ends may = grind (arith, widths_are_rules, promises_are_a_rule, settings_are_fit)

-- ---- records

-- what is known of the jobs of the window that ends so, before the crew's call and after it is refused
pub record JobsTell {M : Type 0} (f : M → Record) (e : WindowEngine M) (seed till : ℕ) (w : World)
    (js : List (Job M)) : Type 0 where
  pub may : All (λ (j : Job M). cell.MayAdvance f (length e.session.net.now.hosts) j) js
  pub few : length js ≤ most_nodes
  pub placed : map (λ (j : Job M). j.place) js ≡ range_with_len 0 (length js)
  pub seen : plain_jobs f js ≡ jobs_of e.groups.cut till w
  pub not_spent : AnyEnds Spent (jobs_of e.groups.cut till w) → ⊥
  pub full : AnyEnds Full (jobs_of e.groups.cut till w)
      → MayRefuseWindow (setting_by e seed) (rule_by e seed w) e.groups.cut w fault.CountFull
  pub past : ((rows : List Row) × AreRowsOfSome (jobs_of e.groups.cut till w) rows
      × IsPast (counted_in (crossings (setting_by e seed).traffic rows)) e.seat)
      → MayRefuseWindow (setting_by e seed) (rule_by e seed w) e.groups.cut w fault.ShareFull
  pub pending : MayRefuseWindow (setting_by e seed) (rule_by e seed w) e.groups.cut w fault.NoMemory

-- a crew's refusal, but for a member that left, is one of a window
pub of_a_window : (x : CrewFault) → x ≢ crew.Spent → IsSome (run_fault_of x)
of_a_window crew.NoMemory ne = refl
of_a_window crew.ShareFull ne = refl
of_a_window crew.CountFull ne = refl
of_a_window crew.Spent ne = absurd (ne refl)

-- what a crew's refusal tells of the window
pub map_refused : {M : Type 0} (f : M → Record) (e : WindowEngine M) (seed till : ℕ) (w : World)
    (js : List (Job M)) → JobsTell f e seed till w js → (x : CrewFault) (y : RunFault) → run_fault_of x ≡ Some y
    → Maps f e.session.scenario.now e.session.net.now e.seat js (Err x)
    → MayRefuseWindow (setting_by e seed) (rule_by e seed w) e.groups.cut w y
map_refused f e seed till w js j x y is of_net =
    let h = subst (λ (net : Network). Maps f e.session.scenario.now net e.seat js (Err x)) e.session.network of_net in grind arith

-- what the crew did for the window that ends so
pub record WindowRan {M : Type 0} (f : M → Record) (e : WindowEngine M) (seed till : ℕ) (w : World)
    (ds : List (job.Done M)) : Type 0 where
  pub results : List OwnResult
  pub alone : AreOwnRuns till 0 w.cells results
  pub grouped : AreGrouped f e.groups.cut (groups_of ds)
  pub shown : plain_cells f (all_in (groups_of ds)) ≡ cells_in results
  pub ran : RanGroups f till e.groups.groups.items (groups_of ds)
  pub rows : lists_of ds ≡ rows_in results
  pub members : length (cells_in results) ≡ length e.session.scenario.now.members

-- ---- the next window

module _ {M : Type 0} (f : M → Record) (e : WindowEngine M) (is : IsUnderWay f e) (seed : ℕ)
    (begins : List World) (w : World) (comes : ComesTo f seed e begins w) where
  abbrev s : Setting
  s = setting_by e seed

  pub fit : IsFit s
  fit = settings_are_fit e.session.scenario.now seed is.accepted

  rule_is : IsEndRule s (rule_by e seed)
  rule_is = ends_are_rules e.session.scenario.now is.accepted seed e.ends is.ends

  pub reached : IsReached s w
  reached = (windows_are_reached s (rule_by e seed) begins w comes.windows).0

  pub members_are : length (all_in e.groups.groups.items) ≡ length e.session.scenario.now.members
  members_are = as_many f (all_in e.groups.groups.items) w.cells comes.shown ∙ (good_reached s fit reached.0 w reached.1).members

  -- where something is pending
  module _ (begin : ℕ) (at : BeginsNext f e begin) (early : begin < e.session.scenario.now.until) where
    begin_is : begin ≡ start_of s w
    begin_is = let b = at seed begins w comes in omega (arith, b)

    pub next : (v : Event) × IsNext s w v
    next = let v = (starts_tell s w).0 (let b = begin_is in omega arith) in (v.0, v.1)

    pub ends_at : end_from e.ends e.groups.soon.items begin e.session.scenario.now.until ≡ rule_by e seed w
    ends_at = by e.ends
      where
        by : (ends : Ends) → end_from ends e.groups.soon.items begin e.session.scenario.now.until ≡ ends_rule s ends w
        by (After n) = ap (λ k. min (k + n) e.session.scenario.now.until) begin_is
        by Promised = ap (first_promise e.session.scenario.now.until) comes.kept.soon
            ∙ promised_by f s e.groups.groups.items w comes.kept.grouped.order comes.shown

  -- nothing is pending
  pub is_last : (begin : ℕ) → BeginsNext f e begin → e.session.scenario.now.until ≤ begin → IsLast s w
  is_last begin at late = grind (arith, windows_are_reached)

  -- ---- its jobs

  module _ (till : ℕ) (at : EndsNext f e till) where
    abbrev gs : List (Vec (Cell M))
    gs = e.groups.groups.items

    abbrev cut : ℕ
    cut = e.groups.cut

    grouped : AreGrouped f cut gs
    grouped = comes.kept.grouped

    abbrev upcoming : List cell.PlainJob
    upcoming = jobs_of cut till w

    abbrev v : Event
    v = (at seed begins w comes).0.0

    is_next : IsNext s w v
    is_next = (at seed begins w comes).0.1

    pub end_is : till ≡ rule_by e seed w
    end_is = (at seed begins w comes).1

    pub within : till ≤ e.session.scenario.now.until
    within = let b = rule_is.within w in omega (arith, end_is)

    safe : IsSafe s till w
    safe = subst (λ n. IsSafe s n w) (sym end_is) (rule_is.safe w v reached is_next)

    hosts_are : length e.session.net.now.hosts ≡ length e.session.scenario.now.members
    hosts_are = ap (λ (n : Network). length n.hosts) e.session.network ∙ length-map e.session.scenario.now.members
        (λ (k : MemberSpec). k.node)

    own_jobs : plain_jobs f (jobs_with till 0 gs) ≡ upcoming
    own_jobs = seen_jobs f cut till 0 gs comes.kept.cut.0 grouped.cuts
        ∙ ap (jobs_from cut till 0) (own_all f (all_in gs) w.cells grouped.order comes.shown)

    -- what is known of the jobs of a window, before and after the crew's call
    pub jobs_tell : (js : List (Job M)) → js ≡ jobs_with till 0 gs → JobsTell f e seed till w js
    jobs_tell js same =
        let a = ap length same ∙ as_many_jobs f till 0 gs in
        let many = members_are in record {
          may =
              let few = is.accepted.few_ticks in
              let hosts = hosts_are in
              let cuts = comes.kept.cut in
              let b = within in
              subst (All (λ (j : Job M). cell.MayAdvance f (length e.session.net.now.hosts) j)) (sym same)
              (may_advance f cut till (length e.session.net.now.hosts) 0 0 gs cuts.0 cuts.1 (omega arith) grouped.order (omega arith)
              grouped.cuts);
          few =
              let b = few_groups cut gs comes.kept.cut.0 grouped.cuts in
              let most = few_members e.session.scenario.now is.accepted in
              omega (arith, a);
          placed = ap (map (λ (j : Job M). j.place)) same ∙ places_with f till 0 gs ∙ ap (range_with_len 0) (sym a);
          seen = ap (plain_jobs f) same ∙ own_jobs;
          not_spent = λ h.
              let r = any_cell Spent cut till w h in
              (never_spent s w fit reached).1 till r.0 r.3.0 r.1 r.2 r.3.1;
          full = λ h.
              let r = any_cell Full cut till w h in (
                refused_windows_meet_full s (rule_by e seed) begins w v fit rule_is comes.windows is_next r.0
                    (subst (λ n. HasNoResult n w r.0) end_is (r.1, r.2, r.3)),
                subst (λ n. AnyEnds Full (jobs_of cut n w)) end_is h,
              );
          past = λ h. (
            h.0,
            subst (λ n. AreRowsOfSome (jobs_of cut n w) h.0) end_is h.1,
            h.2.0,
            subst (λ n. 2 ^ 47 < n + counted_in (crossings s.traffic h.0) h.2.0) (comes.counted.shares h.2.0) h.2.1,
          );
          pending = (at seed begins w comes).0;
        }

    -- what the crew did
    pub window_ran : (ds : List (job.Done M)) → AreDone f e.session.scenario.now e.session.net.now (jobs_with till 0 gs) ds
        → WindowRan f e seed till w ds
    window_ran ds h =
        let r = job_results f e.session.scenario.now e.session.net.now till gs ds h in
        let ran = ran_groups f e.session.scenario.now e.session.net.now till 0 gs ds h in
        let alone = subst (λ qs. AreRunsOf till qs r.results) (own_all f (all_in gs) w.cells grouped.order comes.shown) r.alone in
        let many = as_many_results till 0 w.cells r.results alone in record {
          results = r.results;
          alone = alone;
          grouped = record {
            order = still_from f 0 (all_in gs) (all_in (groups_of ds)) grouped.order r.sound r.numbers;
            cuts = subst (AreCuts cut) (sizes_kept f till gs (groups_of ds) ran) grouped.cuts;
          };
          shown = r.shown;
          ran = ran;
          rows = r.rows;
          members = many ∙ sym (as_many f (all_in gs) w.cells comes.shown) ∙ members_are;
        }

    -- ---- its rows

    -- all rows, one list after the other
    module _ (ds : List (job.Done M)) (ran : WindowRan f e seed till w ds) where
      abbrev pub listed : List Row
      listed = joined (some_of (lists_of ds))

      listed_is : listed ≡ joined (rows_in ran.results)
      listed_is = ap (λ l. joined (some_of l)) ran.rows ∙ joined_some (rows_in ran.results)

      -- the packets of the lists' rows may be heard in any order, and are heard so as in the lists' own
      pub heard_in_order : (others : List Row) → IsPermutation (packets_of listed) (packets_of others)
          → AreNewInTurn s.traffic others (cells_in ran.results)
          × (each_hears s.traffic 0 others (cells_in ran.results) ≡ each_hears s.traffic 0 listed (cells_in ran.results))
      heard_in_order others h =
          let told = heard_by_packets s w till fit reached within safe ran.results ran.alone others
          (subst (λ l. IsPermutation (packets_of l) (packets_of others)) listed_is h) in
          (told.0, told.1 ∙ ap (λ l. each_hears s.traffic 0 l (cells_in ran.results)) (sym listed_is))

      -- heard so, they are heard as any merge of the lists
      pub heard_as : (rows : List Row) → IsPermutation listed rows
          → each_hears s.traffic 0 listed (cells_in ran.results) ≡ each_hears s.traffic 0 rows (cells_in ran.results)
      heard_as rows h = (packets_are_heard_in_any_order s w till fit reached within safe ran.results listed ran.alone
          (subst (IsPermutation (joined (rows_in ran.results))) (sym listed_is) (IsPermutation-refl (joined (rows_in ran.results))))).1
          rows (subst (λ l. IsPermutation l rows) listed_is h)

    module _ (ds : List (job.Done M)) (ran : WindowRan f e seed till w ds) (rows : List Row)
        (merged : IsPermutation (joined (some_of (lists_of ds))) rows × IsSorted row_cmp rows) where
      merge_is : IsMerge (rows_in ran.results) rows
      merge_is = grind (arith, joined_some)

      abbrev pub after : World
      after = after_window s w ran.results rows

      pub window_is : IsWindow s till w after
      window_is = record { results = ran.results; rows = rows; alone = ran.alone; merged = merge_is; is = refl }

      pub one_more : AreWindows s (rule_by e seed) (begins ++ w ∷ []) after × (start_of s w < start_of s after)
      one_more = windows_follow s (rule_by e seed) begins w after v fit rule_is comes.windows is_next
          (subst (λ n. IsWindow s n w after) end_is window_is)

      pub later : (begin n : ℕ) → BeginsNext f e begin → begin < e.session.scenario.now.until
          → n ≡ min e.session.scenario.now.until (start_of s after)
          → begin < n
      later begin n at early is_next = grind (arith, one_more)

      -- what keeps each member's rows of some, and takes in those of its cell, keeps them after the window
      pub kept_after : {K : Type 0} (keeps : K → List Row → Type 0) (before : List Row) (old new : List K) → KeepMembers keeps 0 old before
          → KeepEach keeps old (lists_of ds) new → KeepMembers keeps 0 new (before ++ rows)
      kept_after keeps before old new h each =
          kept_goes_on keeps s w till fit reached within safe ran.results ran.alone rows merge_is before old new h
          (subst (λ l. KeepEach keeps old l new) ran.rows each)

      pub counted_after : (seat : SeatView)
          → HasGrown (counted_in (crossings (traffic_of e.session.scenario.now e.session.net.now) (rows_of ds))) e.seat seat
          → IsCounted s.traffic e.ledger (w.trace ++ rows) seat
      counted_after seat grown = counted_merged s e.ledger w.trace (joined (rows_in ran.results)) rows seat merge_is.all
          (counted_more s.traffic e.ledger w.trace (rows_of ds) (joined (rows_in ran.results)) e.seat seat comes.counted
          (rw e.session.network at grown) (rows_joined f ds ∙ ap joined ran.rows))

-- ---- the beginning of a run

-- a whole seat at the beginning counts the rows of the opening world
pub opened_counted : (s : Setting) (l : LedgerView) (links : ℕ) (seat : SeatView) → seat ≡ whole_seat l.name links
    → IsCounted s.traffic l (opening s).trace seat
opened_counted s l links seat whole = grind (arith, replicate_zero, none_crossed, opening_trace)

-- ---- what was asked for

-- what holds of an engine's run holds of the run that was asked for
pub as_asked : {M : Type 0} (Q : Setting → (World → ℕ) → ℕ → Type 0) (e : WindowEngine M) (at : Session)
    (c : Cutting) (asked : Windows) (seed : ℕ) → frame_of e ≡ (at, c.cut, c.ends) → TellsCutting at.scenario.now asked (Ok c)
    → Q (setting_by e seed) (rule_by e seed) e.groups.cut
    → Q (setting_on at seed) (rule_of (setting_on at seed) at.scenario.now asked.width) asked.cut
as_asked Q e at c asked seed same told h = grind arith

-- what is told of what was asked for, where it is told why the run gave no outcome
pub asked_told : (A : Type 0) (p : PlainScenario) (asked : Windows) (x : StreamFault) (e : RunFault) → run_fault_in x ≡ Some e
    → TellsStreamAsked {A = A} p asked (Err x) → TellsRunAsked p asked (Err e)
asked_told A p asked (Run f) e is h = subst (λ y. TellsRunAsked p asked (Err y)) (same_Some f e is) h
asked_told A p asked (Stopped n) e is h = cc

-- when a run in windows that hands its rows on is refused
pub halts_refuse : {C S : Type 0} (took part : S → List Row → S → Type 0) (s : Setting) (rule : World → ℕ) (n : ℕ) (old : C) (from : S)
    (x : Halt) (to : S) (new : C) → TellsHalt took part (MayCome s rule n) s from x to
    → MeetsWindowRefusal s rule n old (stream_fault_of x) new
halts_refuse took part s rule n old from x to new h = grind arith

-- where such a run is refused for what it counts, the sink took the rows up to that window
pub refused_at_window : {S : Type 0} (took part : S → List Row → S → Type 0) (s : Setting) (rule : World → ℕ) (n : ℕ) (from : S)
    (x : Halt) (to : S) → TellsHalt took part (MayCome s rule n) s from x to
    → RefusedAtWindow took part s rule n from (stream_fault_of x) to
refused_at_window took part s rule n from (halt.Run fault.NoMemory) to h = tt
refused_at_window took part s rule n from (halt.Run fault.CountFull) to h = h
refused_at_window took part s rule n from (halt.Run fault.ShareFull) to h = h
refused_at_window took part s rule n from (halt.Run fault.BadCut) to h = tt
refused_at_window took part s rule n from (halt.Run fault.BadWidth) to h = tt
refused_at_window took part s rule n from (halt.Sink sink.NoMemory) to h = tt
refused_at_window took part s rule n from (halt.Sink (sink.Stopped k)) to h = tt

-- what was left undone where such a run is refused memory
pub windows_undone : {S : Type 0} (took part : S → List Row → S → Type 0) (stage : S → Stage) (A : Type 0) (s : Setting)
    (p : PlainScenario) (asked : Windows) (from : S) (x : Halt) (to : S)
    → TellsHalt took part (MayCome s (rule_of s p asked.width) asked.cut) s from x to → stage to ≡ stage_after (sink_in {A = A} (Err x))
    → UndoneAfter stage took part (MayLackWindow s p asked) s from (stream_fault_of x) to
windows_undone took part stage A s p asked from (halt.Run fault.NoMemory) to h at e = inr (inl h)
windows_undone took part stage A s p asked from (halt.Run fault.CountFull) to h at e = cc
windows_undone took part stage A s p asked from (halt.Run fault.ShareFull) to h at e = cc
windows_undone took part stage A s p asked from (halt.Run fault.BadCut) to h at e = cc
windows_undone took part stage A s p asked from (halt.Run fault.BadWidth) to h at e = cc
windows_undone took part stage A s p asked from (halt.Sink sink.NoMemory) to h at e = inr (inr (at, h))
windows_undone took part stage A s p asked from (halt.Sink (sink.Stopped k)) to h at e = cc

-- ---- its end

same_list : (xs ys : List ℕ) → length xs ≡ length ys → ((k : ℕ) → slice_index xs k ≡ slice_index ys k) → xs ≡ ys
same_list [] [] e each = refl
same_list [] (y ∷ ys) e each = absurd (omega arith)
same_list (x ∷ xs) [] e each = absurd (omega arith)
same_list (x ∷ xs) (y ∷ ys) e each = (λ i. each 0 i ∷ xs) ∙ ap (λ l. y ∷ l) (same_list xs ys (omega arith) (λ k. each (suc k)))

pub total_words : (totals shares numbers : List ℕ) → totals ≡ drop 1 shares → length totals ≡ length numbers
    → ((k : ℕ) → slice_index shares k ≡ counted_in numbers k) → totals ≡ numbers
total_words totals [] numbers e long each = e ∙ nothing numbers (sym long ∙ ap length e)
  where
    nothing : (ns : List ℕ) → length ns ≡ 0 → [] ≡ ns
    nothing [] z = refl
    nothing (n ∷ ns) z = absurd (omega arith)
total_words totals (x ∷ xs) numbers e long each = e ∙ same_list xs numbers (sym (ap length e) ∙ long) (λ k. each (suc k))

-- the words of a run under way are what was counted in the world as which its engine is seen
pub counted_words : {M : Type 0} (f : M → Record) (e : WindowEngine M) → IsUnderWay f e → (seed : ℕ) (begins : List World) (w : World)
    → ComesTo f seed e begins w → (totals : List ℕ) → length totals ≡ 5 * e.ledger.links → totals ≡ totals_of e.seat
    → totals ≡ crossings (setting_by e seed).traffic w.trace
counted_words f e is seed begins w comes totals long words =
    let t = (setting_by e seed).traffic in
    total_words totals e.seat.shares (crossings t w.trace) words
    (long ∙ ap (λ n. 5 * n) (rw e.session.network at is.links) ∙ sym (crossings_long t w.trace)) comes.counted.shares
