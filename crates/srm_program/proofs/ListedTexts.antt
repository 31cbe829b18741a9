-- What an outlet took of a table of rows that was written through a sink.
use Rattle.std.proofs.Common.{◌≡◌, ◌∙◌, ℕ, List, [], ◌∷◌, ◌++◌, ◌+◌, ◌-◌, ◌^◌, ◌≤◌, min, length, Option, Result, Ok, Err, refl, sym}
use Rattle.std.proofs.Common.{append-nil, ◌<◌, IfOk, map, ap, subst}
use Rattle.std.specs.List.{flat_map}
use Rattle.std.specs.Io.KnownBytes.{Appends, Keeps}
use Rattle.csv.specs.Writing.{default_writer, row_text}
use Rattle.srm_scenario.specs.Plain.{PlainScenario}
use Rattle.srm_member.specs.declared.row.Row.{Row}
use Rattle.srm_cell.specs.Setting.{Setting, setting_of}
use Rattle.srm_interfaces.specs.declared.sink.SinkFault.TheVariants as sink
use Rattle.srm_interfaces.specs.declared.sink.Stage.{Stage}
use Rattle.srm_interfaces.specs.declared.sink.Stage.TheVariants as stage
use Rattle.srm_interfaces.specs.Sinks.{IsOpen}
use Rattle.srm_model.specs.World.{World, IsReached, IsLast}
use Rattle.srm_engine.specs.Streams as streams
use Rattle.srm_report.specs.declared.listing.standing.Standing.{Standing}
use Rattle.srm_report.specs.declared.listing.standing.Standing.TheVariants as standing
use Rattle.srm_report.specs.declared.listing.listing_sink.ListingSink.{ListingSink}
use Rattle.srm_report.specs.Listings.{Form, text_in}
use Rattle.srm_report.specs.Tables.{lines_of, table_lines}
use Rattle.srm_report.specs.Timers.{timers_columns, timers_form, timers_rows}
use Rattle.srm_report.specs.Trace.{trace_columns, trace_fields, trace_form}
use Rattle.srm_report.specs.Standings.{text_next, IsText, GrewBy}
use Rattle.srm_report.specs.ListingSinks.{stage_at, stage_of, outlet_under, gathered_by, gathering_room, written_by, Wrote}
use Rattle.srm_report.specs.ListingSinks.{AreOverOne, PutsAll, PutsFront, PutsRows, PutsPart}
use Rattle.srm_report.specs.SinkLaws.{all_more, front_more}
use Rattle.srm_program.specs.declared.fault.LabFault.{LabFault}
use Rattle.srm_program.specs.declared.fault.LabFault.TheVariants.{BadCut, BadWidth, ShareFull, NoMemory, CountFull, WriteFault}
use Rattle.srm_program.specs.Reports.{failures_after_run, ByShow, TakesFront, TellsListing, TellsReport}
use Rattle.srm_program.specs.Runs.{most_gathered, BreaksOff, HandsRows, LeavesOff, MayBreakOff, StandsAfter, TakesAllBut}
use Rattle.srm_options.specs.declared.options.Options.{Options}
use Rattle.srm_options.specs.declared.options.Show.{Show}
use Rattle.srm_options.specs.declared.options.Show.TheVariants.{Trace, Timers}
use Rattle.srm_program.proofs.ReplicationLemmas.{lines_joined}
use Rattle.srm_program.proofs.Texts.{keeps-itself}

-- ---- where a sink stands

fresh : (at : Standing) (n : ℕ) → stage_at at n ≡ stage.Fresh → at ≡ standing.Fresh
fresh standing.Fresh n e = refl
fresh standing.Live n e = cc
fresh standing.NoMemory n e = cc
fresh standing.Stopped n e = cc

live : (at : Standing) (n : ℕ) → stage_at at n ≡ stage.Live → at ≡ standing.Live
live standing.Fresh n e = cc
live standing.Live n e = refl
live standing.NoMemory n e = cc
live standing.Stopped n e = cc

-- a sink that stopped told how many bytes it counted
told : (at : Standing) (n m : ℕ) → stage_at at n ≡ stage.Refused (sink.Stopped m) → n ≡ m
told standing.Fresh n m e = cc
told standing.Live n m e = cc
told standing.NoMemory n m e = cc
told standing.Stopped n m e = cc

-- ---- the trace, and the table of timers, are by rows

traced : (rows : List Row) → flat_map (λ r. row_text default_writer (trace_fields r)) rows ≡ lines_of (map trace_fields rows)
unfolding lines_of
traced [] = refl
traced (r ∷ rows) = ap (λ l. row_text default_writer (trace_fields r) ++ l) (traced rows)

timed : (rows : List Row) → flat_map (λ r. lines_of (timers_rows r)) rows ≡ lines_of (flat_map timers_rows rows)
unfolding lines_of
timed [] = refl
timed (r ∷ rows) = ap (λ l. lines_of (timers_rows r) ++ l) (timed rows) ∙ sym (lines_joined (timers_rows r) (flat_map timers_rows rows))

trace_is : text_in trace_form ≡ (λ (rows : List Row). table_lines trace_columns (map trace_fields rows))
unfolding table_lines
trace_is = λ i rows. row_text default_writer trace_columns ++ traced rows i

timers_are : text_in timers_form ≡ (λ (rows : List Row). table_lines timers_columns (flat_map timers_rows rows))
unfolding table_lines
timers_are = λ i rows. row_text default_writer timers_columns ++ timed rows i

pub trace_shown : {T : Type 0} (p : PlainScenario) (seed : ℕ) (show : Show) (old new : Option (List ℕ))
    (r : Result T LabFault) → show ≡ Trace → TellsListing (text_in trace_form) (setting_of p seed) old new r
    → TellsReport p seed show old new r
trace_shown p seed show old new r e h =
    subst (λ s. TellsReport p seed s old new r) (sym e)
    (subst (λ text. TellsListing text (setting_of p seed) old new r) trace_is h)

pub timers_shown : {T : Type 0} (p : PlainScenario) (seed : ℕ) (show : Show) (old new : Option (List ℕ))
    (r : Result T LabFault) → show ≡ Timers → TellsListing (text_in timers_form) (setting_of p seed) old new r
    → TellsReport p seed show old new r
timers_shown p seed show old new r e h =
    subst (λ s. TellsReport p seed s old new r) (sym e)
    (subst (λ text. TellsListing text (setting_of p seed) old new r) timers_are h)

pub trace_left : {T : Type 0} (p : PlainScenario) (seed : ℕ) (o : Options) (old new : Option (List ℕ))
    (r : Result T LabFault) → o.show ≡ Trace
    → LeavesOff (text_in trace_form) (MayBreakOff p seed o) (setting_of p seed) old new r → BreaksOff p seed o old new r
trace_left p seed o old new r e h =
    subst (λ s. ByShow s (λ text. LeavesOff text (MayBreakOff p seed o) (setting_of p seed) old new r) (Unit {0})) (sym e)
    (subst (λ text. LeavesOff text (MayBreakOff p seed o) (setting_of p seed) old new r) trace_is h)

pub timers_left : {T : Type 0} (p : PlainScenario) (seed : ℕ) (o : Options) (old new : Option (List ℕ))
    (r : Result T LabFault) → o.show ≡ Timers
    → LeavesOff (text_in timers_form) (MayBreakOff p seed o) (setting_of p seed) old new r → BreaksOff p seed o old new r
timers_left p seed o old new r e h =
    subst (λ s. ByShow s (λ text. LeavesOff text (MayBreakOff p seed o) (setting_of p seed) old new r) (Unit {0})) (sym e)
    (subst (λ text. LeavesOff text (MayBreakOff p seed o) (setting_of p seed) old new r) timers_are h)

-- ---- a run that broke off

-- what was taken but for its last bytes is a front
front_taken : (text : List Row → List ℕ) (holds : World → Type 0) (s : Setting) (old new : Option (List ℕ))
    → TakesAllBut text holds s old new → (out : List ℕ) × TakesFront text s old new out
front_taken text holds s old new b = (b.3.0, (b.0, b.1, (b.3.1, b.3.2), b.3.4))

-- ---- what the outlet took, of a sink that was fresh and had nothing gathered

module _ {L O : Type 0} (taken : O → Option (List ℕ)) (form : Form) (a : ListingSink L O) (new : stage_of a ≡ stage.Fresh)
    (none : gathered_by a ≡ []) where
  first_text : (rows : List Row) → text_next form a.standing rows ≡ text_in form rows
  first_text rows = ap (λ (s : Standing). text_next form s rows) (fresh a.standing a.written new)

  all_text : (b : ListingSink L O) (rows : List Row) → stage_of b ≡ stage.Live → (put : PutsRows taken form a rows b)
      → put.0 ≡ text_in form rows
  all_text b rows at put =
      let is : IsText form a.standing standing.Live rows put.0 =
      subst (λ (s : Standing). IsText form a.standing s rows put.0) (live b.standing b.written at) put.1 in
      is ∙ first_text rows

  -- the whole, once nothing is gathered
  all_taken : (b c : ListingSink L O) (rows : List Row) → stage_of b ≡ stage.Live → PutsRows taken form a rows b
      → gathered_by c ≡ [] → PutsAll taken b [] c → Appends (taken (outlet_under a)) (taken (outlet_under c)) (text_in form rows)
  all_taken b c rows at put empty rest =
      let all = all_more taken a b c put.0 [] put.2 rest in
      let out : all.0 ≡ text_in form rows =
      sym (append-nil all.0) ∙ ap (λ (l : List ℕ). all.0 ++ l) (sym empty) ∙ sym all.1
      ∙ ap (λ (l : List ℕ). l ++ (put.0 ++ [])) none ∙ append-nil put.0 ∙ all_text b rows at put in
      subst (λ (l : List ℕ). Appends (taken (outlet_under a)) (taken (outlet_under c)) l) out all.2.bytes

  module _ (s : Setting) (none_written : written_by a ≡ 0) (room : gathering_room a ≡ most_gathered) (old : O)
      (is : outlet_under a ≡ old) where
    -- a front of it
    front_of : (c : ListingSink L O) (w : World) (text : List ℕ) → IsReached s w → text ≡ text_in form w.trace
        → (f : PutsFront taken a text c) → TakesFront (text_in form) s (taken (outlet_under a)) (taken (outlet_under c)) f.0
    front_of c w text reached same f =
        (w, reached, (f.1, sym same ∙ ap (λ (l : List ℕ). l ++ text) (sym none) ∙ f.2), f.3.bytes)

    -- as many bytes as are counted
    counted : (c : ListingSink L O) (n : ℕ) (out : List ℕ) → stage_of c ≡ stage.Refused (sink.Stopped n) → Wrote taken a out c
        → GrewBy 0 (length out) n
    counted c n out at wrote =
        ap (λ k. min k (2 ^ 64 - 1)) (sym (told c.standing c.written n at)) ∙ wrote.counted
        ∙ ap (λ k. min (k + length out) (2 ^ 64 - 1)) none_written

    fronted : (c : ListingSink L O) → streams.TakesTraceFront (PutsRows taken form) (PutsPart taken form) s a c
        → (out : List ℕ) × TakesFront (text_in form) s (taken (outlet_under a)) (taken (outlet_under c)) out × Wrote taken a out c
    fronted c h =
        let f : PutsFront taken a (text_in form h.0.trace) c = subst (λ (l : List ℕ). PutsFront taken a l c) (first_text h.0.trace) h.2 in
        (f.0, front_of c h.0 (text_in form h.0.trace) h.1 refl f, f.3)

    -- all but what is gathered
    broken_off : (c : ListingSink L O) (holds : World → Type 0) → AreOverOne a c → stage_of c ≡ stage.Live
        → streams.TakesUpTo (PutsRows taken form) (PutsPart taken form) s holds a c
        → TakesAllBut (text_in form) holds s (taken (outlet_under a)) (taken (outlet_under c))
    broken_off c holds one at h =
        let put = h.2 in
        let whole : text_in form h.0.trace ≡ put.2.0 ++ gathered_by c =
        sym (all_text c h.0.trace at put) ∙ sym (ap (λ (l : List ℕ). l ++ put.0) none) ∙ put.2.1 in
        (h.0, h.1, h.3, (put.2.0, gathered_by c, whole, subst (λ n. length (gathered_by c) ≤ n) (one.1 ∙ room) c.within, put.2.2.bytes))

    -- of the outlet itself, before and after
    pub seen : {T : Type 0} (c : ListingSink L O) (end : O) (r : Result T LabFault) → outlet_under c ≡ end
        → TellsListing (text_in form) s (taken (outlet_under a)) (taken (outlet_under c)) r
        → TellsListing (text_in form) s (taken old) (taken end) r
    seen c end r same h =
        subst (λ (x : O). TellsListing (text_in form) s (taken x) (taken end) r) is
        (subst (λ (x : O). TellsListing (text_in form) s (taken (outlet_under a)) (taken x) r) same h)

    -- after a refusal of the run
    pub refused_rows : (T U : Type 0) (breaks : LabFault → World → Type 0) (c : ListingSink L O) (end : O) (f : LabFault)
        → outlet_under c ≡ end
        → AreOverOne a c → HandsRows (PutsRows taken form) (PutsPart taken form) breaks s a (Err f) c
        → StandsAfter {T = T} (Err f) (stage_of c)
        → TellsListing {T = U} (text_in form) s (taken old) (taken end) (Err f)
    refused_rows T U breaks c end f same one h at = seen {T = U} c end (Err f) same (by f h at)
      where
        by : (f : LabFault) → HandsRows (PutsRows taken form) (PutsPart taken form) breaks s a (Err f) c
            → StandsAfter {T = T} (Err f) (stage_of c)
            → TellsListing {T = U} (text_in form) s (taken (outlet_under a)) (taken (outlet_under c))
            (Err f)
        by BadCut h at = subst (λ (x : ListingSink L O). Keeps (taken (outlet_under a)) (taken (outlet_under x))) (sym h)
            (keeps-itself (taken (outlet_under a)))
        by BadWidth h at = subst (λ (x : ListingSink L O). Keeps (taken (outlet_under a)) (taken (outlet_under x))) (sym h)
            (keeps-itself (taken (outlet_under a)))
        by ShareFull h at = front_taken (text_in form) (breaks ShareFull) s _ _ (broken_off c (breaks ShareFull) one at h)
        by NoMemory h at = let f = fronted c h in (f.0, f.1)
        by CountFull h at = (h.0, front_taken (text_in form) (breaks CountFull) s _ _ (broken_off c (breaks CountFull) one at h.1))
        by (WriteFault n) h at = let f = fronted c h in (f.0, f.1, counted c n f.0 at f.2)

    -- and up to where
    pub left_rows : (T U : Type 0) (breaks : LabFault → World → Type 0) (c : ListingSink L O) (end : O) (f : LabFault)
        → outlet_under c ≡ end → AreOverOne a c
        → HandsRows (PutsRows taken form) (PutsPart taken form) breaks s a (Err f) c → StandsAfter {T = T} (Err f) (stage_of c)
        → LeavesOff {T = U} (text_in form) breaks s (taken old) (taken end) (Err f)
    left_rows T U breaks c end f same one h at =
        subst (λ (x : O). LeavesOff {T = U} (text_in form) breaks s (taken x) (taken end) (Err f)) is
        (subst (λ (x : O). LeavesOff {T = U} (text_in form) breaks s (taken (outlet_under a)) (taken x) (Err f)) same (by f h at))
      where
        by : (f : LabFault) → HandsRows (PutsRows taken form) (PutsPart taken form) breaks s a (Err f) c
            → StandsAfter {T = T} (Err f) (stage_of c)
            → LeavesOff {T = U} (text_in form) breaks s (taken (outlet_under a)) (taken (outlet_under c)) (Err f)
        by ShareFull h at = broken_off c (breaks ShareFull) one at h
        by CountFull h at = broken_off c (breaks CountFull) one at h.1
        by BadCut h at = tt
        by BadWidth h at = tt
        by NoMemory h at = tt
        by (WriteFault n) h at = tt

    -- where the last bytes were not taken
    pub unflushed_rows : (U : Type 0) (b c : ListingSink L O) (end : O) (w : World) (rows : List Row) (n : ℕ) → outlet_under c ≡ end
        → IsReached s w → rows ≡ w.trace → stage_of b ≡ stage.Live → PutsRows taken form a rows b
        → PutsFront taken b [] c
        → stage_of c ≡ stage.Refused (sink.Stopped n)
        → TellsListing {T = U} (text_in form) s (taken old) (taken end) (Err (WriteFault n))
    unflushed_rows U b c end w rows n same reached all at put rest stopped =
        let f = front_more taken a b c put.0 [] put.2 rest in
        let whole : put.0 ++ [] ≡ text_in form w.trace = append-nil put.0 ∙ all_text b rows at put ∙ ap (text_in form) all in
        let r : Result U LabFault = Err (WriteFault n) in
        seen c end r same (f.0, front_of c w (put.0 ++ []) reached whole f, counted c n f.0 stopped f.3)

    -- after the whole run
    pub flushed_rows : (U : Type 0) (v : U) (b c : ListingSink L O) (end : O) (w : World) (rows : List Row) → outlet_under c ≡ end
        → IsLast s w → rows ≡ w.trace → stage_of b ≡ stage.Live → PutsRows taken form a rows b → gathered_by c ≡ []
        → PutsAll taken b [] c → TellsListing {T = U} (text_in form) s (taken old) (taken end) (Ok v)
    flushed_rows U v b c end w rows same last all at put empty rest =
        let r : Result U LabFault = Ok v in
        seen c end r same (
          w,
          last,
          subst (λ (l : List Row). Appends (taken (outlet_under a)) (taken (outlet_under c)) (text_in form l)) all
              (all_taken b c rows at put empty rest),
        )

-- ---- a sink that took all rows of a run

pub stands_open : {T : Type 0} (r : Result T LabFault) (at : Stage) → StandsAfter r at → IfOk r (λ _. IsOpen at)
stands_open (Ok v) at h = subst IsOpen (sym h) tt
stands_open (Err f) at h = tt

pub counts_on : {T : Type 0} (r : Result T LabFault) (old new : ℕ) → new ≡ failures_after_run r old → old < 2 ^ 64 - 1
    → IfOk r (λ _. new < 2 ^ 64 - 1)
counts_on (Ok v) old new e h = subst (λ n. n < 2 ^ 64 - 1) (sym e) h
counts_on (Err f) old new e h = tt
