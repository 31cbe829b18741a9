-- What is told of a table that is written at the end of a run, of what a watch kept.
use Rattle.std.proofs.Common.{◌≡◌, ◌∙◌, ◌≤◌, ℕ, List, [], length, Option, Result, Ok, Err, ap, refl, sym, subst, arith}
use Rattle.std.proofs.lemmas.List.{length-map}
use Rattle.std.specs.Global.{Vec}
use Rattle.srm_net.specs.Network.{Network}
use Rattle.srm_scenario.specs.Plain.{PlainScenario, network_of}
use Rattle.srm_member.specs.Record.{Record}
use Rattle.srm_member.specs.declared.row.Row.{Row}
use Rattle.srm_member.specs.declared.exit.Exit.{Exit}
use Rattle.srm_cell.specs.Setting.{setting_of}
use Rattle.srm_interfaces.specs.Watches.{KeepMembers}
use Rattle.srm_interfaces.specs.declared.watch_sink.WatchSink.{WatchSink}
use Rattle.srm_interfaces.specs.WatchSinks.{TakesIn, kept_in, watch_in}
use Rattle.srm_options.specs.declared.options.Engine.TheVariants.{Window}
use Rattle.srm_options.specs.declared.options.Options.{Options}
use Rattle.srm_options.specs.declared.options.Show.{Show}
use Rattle.srm_options.specs.declared.options.Show.TheVariants.{Trace, Members, Losses, Operations, Links, Timers, Scopes}
use Rattle.srm_engine.specs.declared.fault.RunFault.{RunFault}
use Rattle.srm_engine.specs.declared.fault.RunFault.TheVariants as fault
use Rattle.srm_engine.specs.Openings.{seed_in}
use Rattle.srm_engine.specs.Openings.{IsOpening}
use Rattle.srm_engine.specs.Windowed.{rule_of}
use Rattle.srm_engine.specs.WindowWatches.{TellsWatchAsked, MeetsWatchRefusal}
use Rattle.srm_report.specs.declared.outlet.Outlet as outlet
use Rattle.srm_program.specs.declared.fault.LabFault.{LabFault}
use Rattle.srm_program.specs.declared.fault.LabFault.TheVariants.{BadCut, BadWidth, ShareFull, NoMemory, CountFull, WriteFault}
use Rattle.srm_program.specs.declared.task.Task.{Task}
use Rattle.srm_program.specs.Askings.{ForEachSeed, IsKept, Reports}
use Rattle.srm_program.specs.EndTables.{IsKeptOf}
use Rattle.srm_program.specs.Reports.{ByShow, IsWhole, TellsReport, TellsTable, Writes, failures_after_run, table_shown}
use Rattle.srm_program.specs.Runs.{BreaksOff, KeepsRows, LeavesOff, MayBreakOff, TellsRefusedFor, TellsRows, fault_of_run}
use Rattle.srm_program.proofs.TableTexts.{asked_told, table_told}
use Rattle.srm_program.proofs.Texts.{keeps-itself}

-- the refusal of a run whose rows are watched
pub kept_refused : (A T : Type 0) {C K : Type 0} (keeps : K → List Row → Type 0) (p : PlainScenario) (seed : ℕ)
    (o : Options) (old new : C) (x : RunFault) → o.engine ≡ Window
    → TellsWatchAsked {A = A} p (record { cut = o.cut; width = o.width }) (Err x)
    → MeetsWatchRefusal (setting_of p seed) (rule_of (setting_of p seed) p o.width) o.cut old x new
    → KeepsRows keeps (setting_of p seed) (Err (fault_of_run x)) × TellsRefusedFor {T = T} p seed o (Err (fault_of_run x))
kept_refused A T keeps p seed o old new fault.NoMemory window asked met = (tt, λ e. asked)
kept_refused A T keeps p seed o old new fault.CountFull window asked met = (met.1.2.0, λ e. asked)
kept_refused A T keeps p seed o old new fault.ShareFull window asked met =
    (tt, (window, asked, (met.0, met.1.0, met.1.1, met.1.2)))
kept_refused A T keeps p seed o old new fault.BadCut window asked met = (tt, (window, asked))
kept_refused A T keeps p seed o old new fault.BadWidth window asked met = (tt, (window, asked.0, asked.1))

-- what a sink took of the sequential run is kept; and where that was refused, nothing is told of it
module _ {K W : Type 0} (keeps : W → K → List Row → Type 0) (watch : W) (task : Task) (rs : List Record) (a b : WatchSink K W) where
  abbrev Took : Result (List ℕ) LabFault → PlainScenario → ℕ → Type 0
  Took r p seed = TellsRows (TakesIn keeps) (λ a rows b. Unit {0}) p seed task.options a r b

  pub steps_kept : (v : Vec K) (totals : List ℕ) → watch_in a ≡ watch → length (kept_in a) ≡ length task.session.scenario.now.members
      → KeepMembers (keeps watch) 0 (kept_in a) [] → v.items ≡ kept_in b → ForEachSeed task rs (Took (Ok totals))
      → IsKept (keeps watch) task rs (Ok (v, totals))
  steps_kept v totals same many none is told = record {
    kept = λ seed h.
        let t = (told seed h).0 in
        let all : KeepMembers (keeps watch) 0 (kept_in b) t.0 =
        subst (λ (w : W). KeepMembers (keeps w) 0 (kept_in b) t.0) same
        (t.3.kept [] (subst (λ (w : W). KeepMembers (keeps w) 0 (kept_in a) []) (sym same) none)) in (
          ap length is ∙ t.3.many ∙ many,
          (t.0, t.1, t.2, subst (λ (l : List K). KeepMembers (keeps watch) 0 l t.0) (sym is) all),
        );
    refused = λ seed h. (told seed h).1;
  }

  pub steps_refused : (f : LabFault) → 0 ≡ failures_after_run {T = List ℕ} (Err f) 0 → ForEachSeed task rs (Took (Err f))
      → IsKept (keeps watch) task rs (Err f)
  steps_refused f count told = record {
    kept = λ seed h. (by task.session.scenario.now seed f count (told seed h)).0;
    refused = λ seed h. (by task.session.scenario.now seed f count (told seed h)).1;
  }
    where
      by : (p : PlainScenario) (seed : ℕ) (f : LabFault) → 0 ≡ failures_after_run {T = List ℕ} (Err f) 0
          → Took (Err f) p seed → KeepsRows (keeps watch) (setting_of p seed) (Err f)
          × TellsRefusedFor {T = Vec K × List ℕ} p seed task.options (Err f)
      by p seed BadCut count t = (tt, t.1)
      by p seed BadWidth count t = (tt, t.1)
      by p seed ShareFull count t = (tt, t.1)
      by p seed NoMemory count t = (tt, t.1)
      by p seed CountFull count t = (t.0.0, t.1)
      by p seed (WriteFault n) count t = absurd (omega (arith, count))

whole_report : (T : Type 0) (p : PlainScenario) (seed : ℕ) (asked show : Show) (old new : Option (List ℕ))
    (r : Result T LabFault) → IsWhole show → asked ≡ show → TellsTable p seed show old new r → TellsReport p seed asked old new r
whole_report T p seed asked show old new r whole is told =
    subst (λ (s : Show). TellsReport p seed s old new r) (sym is) (by show whole told)
  where
    by : (s : Show) → IsWhole s → TellsTable p seed s old new r → TellsReport p seed s old new r
    by Trace whole told = absurd whole
    by Members whole told = told
    by Losses whole told = told
    by Operations whole told = told
    by Links whole told = told
    by Timers whole told = absurd whole
    by Scopes whole told = told

-- such a table is not left anywhere
whole_left : (T : Type 0) (p : PlainScenario) (seed : ℕ) (o : Options) (show : Show) (old new : Option (List ℕ))
    (r : Result T LabFault) → IsWhole show → o.show ≡ show → BreaksOff p seed o old new r
whole_left T p seed o show old new r whole is =
    subst (λ (s : Show). ByShow s (λ text. LeavesOff text (MayBreakOff p seed o) (setting_of p seed) old new r) (Unit {0}))
    (sym is) (by show whole)
  where
    by : (s : Show) → IsWhole s
        → ByShow s (λ text. LeavesOff text (MayBreakOff p seed o) (setting_of p seed) old new r) (Unit {0})
    by Trace whole = absurd whole
    by Members whole = tt
    by Losses whole = tt
    by Operations whole = tt
    by Links whole = tt
    by Timers whole = absurd whole
    by Scopes whole = tt

module _ {K : Type 0} (keeps : K → List Row → Type 0) where
  -- nothing is told of a run that was refused
  nothing_told : (A T : Type 0) (p : PlainScenario) (seed : ℕ) (o : Options) (show : Show) (at : Option (List ℕ))
      (f : LabFault) → KeepsRows keeps (setting_of p seed) (Err f) → TellsRefusedFor {T = A} p seed o (Err f)
      → TellsTable {T = T} p seed show at at (Err f) × TellsRefusedFor {T = T} p seed o (Err f)
  nothing_told A T p seed o show at BadCut kept asked = (keeps-itself at, asked)
  nothing_told A T p seed o show at BadWidth kept asked = (keeps-itself at, asked)
  nothing_told A T p seed o show at ShareFull kept asked = (keeps-itself at, asked)
  nothing_told A T p seed o show at NoMemory kept asked = (keeps-itself at, asked)
  nothing_told A T p seed o show at CountFull kept asked = ((kept, keeps-itself at), asked)
  nothing_told A T p seed o show at (WriteFault n) kept asked = absurd kept

  not_written : (T : Type 0) (p : PlainScenario) (seed n : ℕ) (f : LabFault)
      → KeepsRows keeps (setting_of p seed) (Err f) → n ≡ failures_after_run {T = T} (Err f) n
  not_written T p seed n BadCut kept = refl
  not_written T p seed n BadWidth kept = refl
  not_written T p seed n ShareFull kept = refl
  not_written T p seed n NoMemory kept = refl
  not_written T p seed n CountFull kept = refl
  not_written T p seed n (WriteFault written) kept = absurd kept

  -- what was kept, seen as this list, is of each member
  pub rows_kept : (task : Task) (rs : List Record) (v : Vec K × List ℕ) (ks : List K) → ks ≡ v.0.items → IsKept keeps task rs (Ok v)
      → ForEachSeed task rs (λ p seed. (rows : List Row) × (exits : List Exit) × IsKeptOf keeps task.session seed ks v.1 rows exits)
  rows_kept task rs v ks are kept seed h =
      let k = kept.kept seed h in
      let p = task.session.scenario.now in
      let many : length p.members ≤ length v.0.items = let n = k.0 in omega (arith, n) in (
        k.1.0,
        k.1.1,
        record {
          outcome = k.1.2;
          many = subst (λ (l : List K). length p.members ≤ length l) (sym are) many;
          are = subst (λ (l : List K). KeepMembers keeps 0 l k.1.0) (sym are) k.1.3;
        },
      )

  module _ {O : Type 0} (T : Type 0) (o : outlet.Ghosts O) (task : Task) (rs : List Record) (show : Show) (whole : IsWhole show)
      (is : task.options.show ≡ show) where
    -- the report of a run that was refused
    pub refused_report : (at : O) (f : LabFault) → IsOpening task.session.scenario.now rs → IsKept keeps task rs (Err f)
        → Reports {T = T} o task rs at (Err f) at
    refused_report at f opening kept = record {
      failures = not_written T task.session.scenario.now (seed_in rs) (o.failures at) f
          (kept.kept (seed_in rs) opening);
      report = λ seed h.
          let p = task.session.scenario.now in
          let told = nothing_told (Vec K × List ℕ) T p seed task.options show (o.taken at) f (kept.kept seed h) (kept.refused seed h) in
          whole_report T p seed task.options.show show (o.taken at) (o.taken at) (Err f) whole is told.0;
      refusals = λ seed h.
          let p = task.session.scenario.now in
          let told = nothing_told (Vec K × List ℕ) T p seed task.options show (o.taken at) f (kept.kept seed h) (kept.refused seed h) in
          (told.1, whole_left T p seed task.options show (o.taken at) (o.taken at) (Err f) whole is);
    }

    -- the report of a whole run, of which the outlet took the table
    pub kept_report : (old new : O) (v : Vec K × List ℕ) (ks : List K) (r : Result T LabFault) → ks ≡ v.0.items
        → IsKept keeps task rs (Ok v) → o.failures new ≡ failures_after_run r (o.failures old)
        → ForEachSeed task rs (λ p seed. (rows : List Row) (exits : List Exit)
        → IsKeptOf keeps task.session seed ks v.1 rows exits → Writes (o.taken old) (o.taken new) (table_shown show p rows v.1) r)
        → Reports o task rs old r new
    kept_report old new v ks r are kept failures writes = record {
      failures = failures;
      report = λ seed h.
          let p = task.session.scenario.now in
          let t = rows_kept task rs v ks are kept seed h in
          whole_report T p seed task.options.show show (o.taken old) (o.taken new) r whole is
          (table_told p seed show t.0 t.1 v.1 t.2.outcome (o.taken old) (o.taken new) r (writes seed h t.0 t.1 t.2));
      refusals = λ seed h.
          let p = task.session.scenario.now in
          let t = rows_kept task rs v ks are kept seed h in (
            asked_told p seed task.options (kept.refused seed h) (o.taken old) (o.taken new) (table_shown show p t.0 v.1) r
                (writes seed h t.0 t.1 t.2),
            whole_left T p seed task.options show (o.taken old) (o.taken new) r whole is,
          );
    }

-- a network has as many hosts as its scenario has members
pub hosts_of : (p : PlainScenario) (net : Network) → net ≡ network_of p → length net.hosts ≡ length p.members
hosts_of p net made = ap (λ (w : Network). length w.hosts) made ∙ length-map p.members (λ m. m.node)
