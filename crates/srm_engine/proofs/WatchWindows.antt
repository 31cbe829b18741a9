-- A window of an engine whose rows are watched.
use Rattle.std.proofs.Common.{◌≡◌, ◌∙◌, ℕ, List, Ok, All, map, ap, subst}
use Rattle.std.specs.Global.{Vec}
use Rattle.srm_member.specs.Record.{Record}
use Rattle.srm_member.specs.declared.row.Row.{Row}
use Rattle.srm_ledger.specs.Seats.{SeatView}
use Rattle.srm_cell.specs.declared.job.Done as job
use Rattle.srm_cell.specs.Setting.{Setting}
use Rattle.srm_cell.specs.Crossings.{joined, packets_of}
use Rattle.srm_cell.specs.Hearing.{IsSent, packets_in}
use Rattle.srm_interfaces.specs.declared.watched.WatchedJob.{WatchedJob}
use Rattle.srm_interfaces.specs.declared.watched.WatchedDone.{WatchedDone}
use Rattle.srm_interfaces.specs.Crews.{AreDone}
use Rattle.srm_interfaces.specs.Watches.{KeepClosed, KeepEach, MapsWatched, jobs_in}
use Rattle.srm_interfaces.specs.InTurn.{WereClosed}
use Rattle.srm_model.specs.World.{World}
use Rattle.srm_engine.specs.declared.watch_engine.WatchEngine.{WatchEngine}
use Rattle.srm_engine.specs.Groups.{all_in, sizes, jobs_with, groups_of, lists_of, some_of}
use Rattle.srm_engine.specs.WatchedGroups.{time_at, watched_with, groups_in, kept_of, sent_of}
use Rattle.srm_engine.specs.WatchEngines.{IsWatching, kept_by}
use Rattle.srm_engine.specs.WindowEngines.{ComesTo, EndsNext}
use Rattle.srm_engine.specs.declared.fault.RunFault.{RunFault}
use Rattle.srm_engine.specs.declared.fault.RunFault.TheVariants as fault
use Rattle.srm_engine.specs.Windowed.{MayCome}
use Rattle.srm_engine.specs.WindowWatches.{MeetsWatchRefusal}
use Rattle.srm_engine.proofs.JobLemmas.{joined_some, sizes_kept}
use Rattle.srm_engine.proofs.WatchedLemmas.{their_jobs, kept_there, groups_left, all_kept, as_many_left, all_sent, all_packets}
use Rattle.srm_engine.proofs.WindowLemmas.{JobsTell, WindowRan, jobs_tell, window_ran}

-- what the crew did for the window that ends so, and what is left of it
pub record WatchRan {M K : Type 0} (f : M → Record) (keeps : K → List Row → Type 0) (closes : List K → List K → Type 0)
    (e : WatchEngine M K) (seed till : ℕ) (w : World) (ds : List (job.Done M)) (es : List (WatchedDone M K)) : Type 0 where
  pub ran : WindowRan f e.engine seed till w ds
  pub groups : groups_in es ≡ groups_of ds
  pub each : sizes (kept_of es) ≡ sizes (groups_of ds)
  pub kept : WereClosed closes (KeepEach keeps (kept_by e) (lists_of ds)) (kept_of es)
  pub packets : packets_of (joined (some_of (lists_of ds))) ≡ packets_in (all_in (sent_of es))
  pub sent : All (λ x. IsSent e.engine.session.scenario.now e.engine.session.net.now x) (all_in (sent_of es))

module _ {M K : Type 0} (f : M → Record) (e : WatchEngine M K) (is : IsWatching f e) (seed : ℕ) (begins : List World) (w : World)
    (comes : ComesTo f seed e.engine begins w) (till : ℕ) (at : EndsNext f e.engine till) (js : List (WatchedJob M K))
    (same : js ≡ watched_with (time_at e.engine.groups.soon.items) till 0 e.engine.groups.groups.items e.kept.items) where
  jobs_are : jobs_in js ≡ jobs_with till 0 e.engine.groups.groups.items
  jobs_are = ap jobs_in same ∙ their_jobs (time_at e.engine.groups.soon.items) till 0 e.engine.groups.groups.items e.kept.items is.each

  kept_are : map (λ (j : WatchedJob M K). j.kept) js ≡ e.kept.items
  kept_are =
      ap (map (λ (j : WatchedJob M K). j.kept)) same
      ∙ kept_there (time_at e.engine.groups.soon.items) till 0 e.engine.groups.groups.items e.kept.items is.each

  -- what is known of its jobs
  pub watched_tell : JobsTell f e.engine seed till w (jobs_in js)
  watched_tell = jobs_tell f e.engine is.under_way seed begins w comes till at (jobs_in js) jobs_are

  -- what a crew's answer tells of the window
  pub watch_ran : {keeps : K → List Row → Type 0} {closes : List K → List K → Type 0} (r : Vec (WatchedDone M K) × SeatView)
      (maps : MapsWatched f (KeepClosed keeps closes) e.engine.session.scenario.now e.engine.session.net.now e.engine.seat js (Ok r))
      → WatchRan f keeps closes e seed till w maps.0 r.0.items
  watch_ran {keeps} {closes} r maps =
      let k = e.engine.session.scenario.now in
      let net = e.engine.session.net.now in
      let ds = maps.0 in
      let es = r.0.items in
      let left = maps.3 in
      let ran = window_ran f e.engine is.under_way seed begins w comes till at ds
      (subst (λ l. AreDone f k net l ds) jobs_are maps.1) in record {
        ran = ran;
        groups = groups_left (KeepClosed keeps closes) k net js ds es left;
        each = as_many_left keeps closes k net js ds es left ∙ ap sizes kept_are ∙ is.each
            ∙ sizes_kept f till e.engine.groups.groups.items (groups_of ds) ran.ran;
        kept = subst (λ l. WereClosed closes (KeepEach keeps (all_in l) (lists_of ds)) (kept_of es)) kept_are
            (all_kept keeps closes k net js ds es left);
        packets = ap packets_of (joined_some (lists_of ds)) ∙ all_packets (KeepClosed keeps closes) k net js ds es left;
        sent = all_sent (KeepClosed keeps closes) k net js ds es left;
      }

-- the same of the windows that a run under way came to
module _ {M K : Type 0} (f : M → Record) (e : WatchEngine M K) (is : IsWatching f e) (till : ℕ) (at : EndsNext f e.engine till)
    (js : List (WatchedJob M K))
    (same : js ≡ watched_with (time_at e.engine.groups.soon.items) till 0 e.engine.groups.groups.items e.kept.items) where
  pub watched_tell_now : JobsTell f e.engine is.under_way.seed till is.under_way.world (jobs_in js)
  watched_tell_now = watched_tell f e is is.under_way.seed is.under_way.begins is.under_way.world is.under_way.comes till at js same

  pub watch_ran_now : {keeps : K → List Row → Type 0} {closes : List K → List K → Type 0} (r : Vec (WatchedDone M K) × SeatView)
      (maps : MapsWatched f (KeepClosed keeps closes) e.engine.session.scenario.now e.engine.session.net.now e.engine.seat js (Ok r))
      → WatchRan f keeps closes e is.under_way.seed till is.under_way.world maps.0 r.0.items
  watch_ran_now {keeps} {closes} r maps =
      watch_ran f e is is.under_way.seed is.under_way.begins is.under_way.world is.under_way.comes till at js same {keeps = keeps}
      {closes = closes} r maps

-- ---- a run

-- when a run is refused one of whose windows is
pub refused_so : {C : Type 0} (s : Setting) (rule : World → ℕ) (cut : ℕ) (old new : C) (x : RunFault)
    → ((w : World) × MayCome s rule cut w x) → MeetsWatchRefusal s rule cut old x new
refused_so s rule cut old new fault.NoMemory h = tt
refused_so s rule cut old new fault.CountFull h = h
refused_so s rule cut old new fault.ShareFull h = h
refused_so s rule cut old new fault.BadCut h = absurd h.1.2
refused_so s rule cut old new fault.BadWidth h = absurd h.1.2
