-- Tables row by row, and the table of runs that differ in their seed.
use Rattle.std.proofs.Common.{◌≡◌, ◌∙◌, ℕ, zero, suc, ◌+◌, ◌-◌, ◌<◌, ◌≤◌, List, [], ◌∷◌, ◌++◌, length, map}
use Rattle.std.proofs.Common.{Option, Some, None, Ok, Err}
use Rattle.std.proofs.Common.{refl, ap, sym, subst, append_assoc, append-nil, length-append, inr, codes, arith}
use Rattle.std.specs.Global.{Vec}
use Rattle.std.specs.List.{flat_map, range_with_len}
use Rattle.std.specs.Option.{option_map_or}
use Rattle.std.specs.Io.KnownBytes.{Appends}
use Rattle.std.proofs.KnownBytes.{Appends-trans}
use Rattle.std.proofs.lemmas.Grind.{flat_map-append}
use Rattle.csv.specs.Writing.{default_writer, fields_text, is_blank, row_text}
use Rattle.srm_scenario.specs.declared.parts.MemberSpec.{MemberSpec}
use Rattle.srm_scenario.specs.Plain.{PlainScenario, network_of}
use Rattle.srm_member.specs.declared.intervals.Intervals.{Intervals}
use Rattle.srm_member.specs.declared.row.Row.{Row}
use Rattle.srm_cell.specs.Setting.{setting_of}
use Rattle.srm_model.specs.World.{World, IsLast}
use Rattle.srm_options.specs.declared.options.Show.{Show}
use Rattle.srm_options.specs.declared.options.Show.TheVariants.{Trace, Members, Losses, Operations, Links, Timers, Scopes}
use Rattle.srm_report.specs.Members.{member_rows}
use Rattle.srm_report.specs.Seeds.{IsLine, AreLines}
use Rattle.srm_report.specs.SinkLaws.{count_more}
use Rattle.srm_report.specs.Standings.{GrewBy}
use Rattle.srm_report.specs.Tables.{lines_of, table_lines}
use Rattle.srm_report.specs.Timers.{timers_fields, timers_rows}
use Rattle.srm_report.proofs.LineLemmas.{decimal_is_plain, role_is_plain, time_is_plain, delay_is_plain, cause_is_plain, ref_is_plain}
use Rattle.srm_report.proofs.LineLemmas.{last_is_plain, local_is_plain, name_is_plain, packet_is_plain, told_is_plain, sent_is_plain}
use Rattle.srm_program.specs.declared.fault.LabFault.{LabFault}
use Rattle.srm_program.specs.declared.fault.LabFault.TheVariants.{BadCut, BadWidth, ShareFull, NoMemory, CountFull, WriteFault}
use Rattle.srm_program.specs.Reports.{columns_shown, rows_shown, report_of, failures_after_run, TellsReport}
use Rattle.srm_program.specs.Replications.{Series, rows_of_seed, replicated_rows, replications_of}
use Rattle.srm_program.specs.Replications.{EndsOfSeed, EndInTurn, MeetsFullOfSeed, TakesRuns}
use Rattle.srm_program.specs.Replications.{PutsNext, MakesLines, TellsReplications}

-- ---- each row is a line

pub lines_joined : (xs ys : List (List (List ℕ))) → lines_of (xs ++ ys) ≡ lines_of xs ++ lines_of ys
unfolding lines_of
lines_joined xs ys = flat_map-append (row_text default_writer) xs ys

mapped_lines : {A : Type 0} (f : A → List (List ℕ)) → ((x : A) → IsLine (f x)) → (xs : List A) → AreLines (map f xs)
mapped_lines f h [] = tt
mapped_lines f h (x ∷ xs) = (h x, mapped_lines f h xs)

more_lines : (xs ys : List (List (List ℕ))) → AreLines xs → AreLines ys → AreLines (xs ++ ys)
more_lines [] ys h k = k
more_lines (x ∷ xs) ys h k = (h.0, more_lines xs ys h.1 k)

one_member : (rows : List Row) (m : ℕ) (ks : List MemberSpec) → AreLines (member_rows rows m ks)
one_member rows m [] = tt
one_member rows m (k ∷ ks) =
    let d = decimal_is_plain in
    let t = time_is_plain in (
      (d _, (role_is_plain _, (d _, (t _, (t _, (d _, (d _, (d _, (d _, (d _, (d _, (d _, (d _, tt))))))))))))),
      one_member rows (m + 1) ks,
    )

timers_rows_are : (r : Row) (i : Option Intervals) → AreLines (option_map_or (λ j. timers_fields r j ∷ []) i [])
timers_rows_are r None = tt
timers_rows_are r (Some i) =
    let d = decimal_is_plain in
    let t = time_is_plain in (
      (d _, (d _, (cause_is_plain _, (ref_is_plain _, (d _, (d _, (d _, (d _, (t _, (t _, (t _, (t _, tt)))))))))))),
      tt,
    )

all_timers : (rows : List Row) → AreLines (flat_map timers_rows rows)
all_timers [] = tt
all_timers (r ∷ rows) = more_lines (timers_rows r) (flat_map timers_rows rows) (timers_rows_are r r.adapted) (all_timers rows)

pub rows_are_lines : (show : Show) (p : PlainScenario) (rows : List Row) (totals : List ℕ)
    → AreLines (rows_shown show p rows totals)
rows_are_lines Trace p rows totals =
    let d = decimal_is_plain in
    mapped_lines _ (λ r. (d _, (d _, (cause_is_plain _, (ref_is_plain _, (told_is_plain _, (d _, (sent_is_plain _, tt)))))))) rows
rows_are_lines Members p rows totals = one_member rows 0 p.members
rows_are_lines Losses p rows totals =
    let d = decimal_is_plain in
    let t = time_is_plain in
    mapped_lines _ (λ k. (d _, (d _, (d _, (d _, (t _, (t _, (delay_is_plain (network_of p) _ _, tt)))))))) _
rows_are_lines Operations p rows totals =
    let d = decimal_is_plain in
    let t = time_is_plain in
    let l = last_is_plain in
    let w = delay_is_plain (network_of p) in
    mapped_lines _ (λ n. (d _, (d _, (d _, (d _, (d _, (d _, (t _, (t _, (d _, (d _, (l _, (w _ _, tt))))))))))))) _
rows_are_lines Links p rows totals =
    let d = decimal_is_plain in
    mapped_lines _ (λ l. (d _, (d _, (d _, (d _, (d _, (d _, tt))))))) _
rows_are_lines Timers p rows totals = all_timers rows
rows_are_lines Scopes p rows totals =
    let d = decimal_is_plain in
    let t = time_is_plain in
    let l = local_is_plain in
    mapped_lines _ (λ e. (
      d _,
      (
        d _,
        (
          cause_is_plain _,
          (
            name_is_plain _,
            (
              packet_is_plain _,
              (
                t _,
                (
                  l (λ k. k.requester) _,
                  (l (λ k. k.width) _, (d _, tt)),
                ),
              ),
            ),
          ),
        ),
      ),
    )) _

pub columns_are_line : (show : Show) → IsLine (columns_shown show)
columns_are_line Trace = (refl, (refl, (refl, (refl, (refl, (refl, (refl, tt)))))))
columns_are_line Members = (refl, (refl, (refl, (refl, (refl, (refl, (refl, (refl, (refl, (refl, (refl, (refl, (refl, tt)))))))))))))
columns_are_line Losses = (refl, (refl, (refl, (refl, (refl, (refl, (refl, tt)))))))
columns_are_line Operations = (refl, (refl, (refl, (refl, (refl, (refl, (refl, (refl, (refl, (refl, (refl, (refl, tt))))))))))))
columns_are_line Links = (refl, (refl, (refl, (refl, (refl, (refl, tt))))))
columns_are_line Timers = (refl, (refl, (refl, (refl, (refl, (refl, (refl, (refl, (refl, (refl, (refl, (refl, tt))))))))))))
columns_are_line Scopes = (refl, (refl, (refl, (refl, (refl, (refl, (refl, (refl, (refl, tt)))))))))

-- the line of the columns, that of the seed in front
pub seed_first : (show : Show) → row_text default_writer (codes "seed" ∷ columns_shown show)
    ≡ codes "seed," ++ row_text default_writer (columns_shown show)
unfolding fields_text is_blank
seed_first Trace = refl
seed_first Members = refl
seed_first Losses = refl
seed_first Operations = refl
seed_first Links = refl
seed_first Timers = refl
seed_first Scopes = refl

-- ---- a run more

module _ (show : Show) (p : PlainScenario) where
  replicated_more : (ws : List World) (w : World) (seed : ℕ) → replicated_rows show p seed (ws ++ w ∷ [])
      ≡ replicated_rows show p seed ws ++ rows_of_seed show p (seed + length ws) w
  replicated_more [] w seed =
      let here : seed ≡ seed + 0 = omega arith in
      append-nil (rows_of_seed show p seed w) ∙ ap (λ n. rows_of_seed show p n w) here
  replicated_more (v ∷ ws) w seed =
      let far : seed + 1 + length ws ≡ seed + length (v ∷ ws) = omega arith in
      ap (λ l. rows_of_seed show p seed v ++ l) (replicated_more ws w (seed + 1))
      ∙ sym (append_assoc (rows_of_seed show p seed v) (replicated_rows show p (seed + 1) ws) _)
      ∙ ap (λ n. replicated_rows show p seed (v ∷ ws) ++ rows_of_seed show p n w) far

  pub ends_more : (ws : List World) (w : World) (seed : ℕ) → EndInTurn p seed ws → EndsOfSeed p (seed + length ws) w
      → EndInTurn p seed (ws ++ w ∷ [])
  ends_more [] w seed h k = (let here : seed + 0 ≡ seed = omega arith in subst (λ n. EndsOfSeed p n w) here k, tt)
  ends_more (v ∷ ws) w seed h k =
      let far : seed + length (v ∷ ws) ≡ seed + 1 + length ws = omega arith in
      (h.0, ends_more ws w (seed + 1) h.1 (subst (λ n. EndsOfSeed p n w) far k))

module _ (a : Series) where
  -- the table of no run is the line of the columns
  pub no_run : (old new : Option (List ℕ)) → Appends old new (row_text default_writer (codes "seed" ∷ columns_shown a.show))
      → TakesRuns a [] old new
  unfolding table_lines lines_of
  no_run old new h = (tt, subst (λ t. Appends old new t) (sym (append-nil _)) h)

  pub table_grown : (ws : List World) (w : World) → replications_of a (ws ++ w ∷ [])
      ≡ replications_of a ws ++ lines_of (rows_of_seed a.show a.scenario (a.first + length ws) w)
  unfolding table_lines
  table_grown ws w =
      let header = row_text default_writer (codes "seed" ∷ columns_shown a.show) in
      let rows = replicated_rows a.show a.scenario a.first ws in
      ap (λ rs. header ++ lines_of rs) (replicated_more a.show a.scenario ws w a.first)
      ∙ ap (λ l. header ++ l) (lines_joined rows (rows_of_seed a.show a.scenario (a.first + length ws) w))
      ∙ sym (append_assoc header (lines_of rows) _)

  pub one_run_more : (ws : List World) (w : World) (old mid new : Option (List ℕ)) → TakesRuns a ws old mid
      → EndsOfSeed a.scenario (a.first + length ws) w
      → Appends mid new (lines_of (rows_of_seed a.show a.scenario (a.first + length ws) w))
      → TakesRuns a (ws ++ w ∷ []) old new
  one_run_more ws w old mid new h k grown = (
    ends_more a.show a.scenario ws w a.first h.0 k,
    subst (λ t. Appends old new t) (sym (table_grown ws w)) (Appends-trans old mid new _ _ h.1 grown),
  )

-- ---- what a run of one seed tells

pub whole_told : (T : Type 0) (v : T) (p : PlainScenario) (seed : ℕ) (show : Show)
    (old new : Option (List ℕ)) → TellsReport {T = T} p seed show old new (Ok v)
    → (w : World) × IsLast (setting_of p seed) w × Appends old new (report_of show p w)
whole_told T v p seed Trace old new h = h
whole_told T v p seed Members old new h = h
whole_told T v p seed Losses old new h = h
whole_told T v p seed Operations old new h = h
whole_told T v p seed Links old new h = h
whole_told T v p seed Timers old new h = h
whole_told T v p seed Scopes old new h = h

-- ---- runs under way

pub range_more : (a n b : ℕ) → b ≡ a + n → range_with_len a n ++ b ∷ [] ≡ range_with_len a (n + 1)
range_more a zero b e = ap (λ k. k ∷ []) (let h : b ≡ a = omega (arith, e) in h)
range_more a (suc n) b e =
    let more : suc (n + 1) ≡ suc n + 1 = omega arith in
    ap (λ l. a ∷ l) (range_more (a + 1) n b (omega (arith, e))) ∙ ap (range_with_len a) more

pub range_joined : (a n b m k : ℕ) → b ≡ a + n → k ≡ n + m → range_with_len a n ++ range_with_len b m ≡ range_with_len a k
range_joined a zero b m k e f =
    let h : b ≡ a = omega (arith, e) in let g : m ≡ k = omega (arith, f) in λ i. range_with_len (h i) (g i)
range_joined a (suc n) b m zero e f = absurd (omega (arith, f))
range_joined a (suc n) b m (suc k) e f = ap (λ l. a ∷ l) (range_joined (a + 1) n b m k (omega (arith, e)) (omega (arith, f)))

pub range_first : (a n x : ℕ) (xs : List ℕ) → range_with_len a n ≡ x ∷ xs → (x ≡ a) × (0 < n) × (xs ≡ range_with_len (a + 1) (n - 1))
range_first a zero x xs e = absurd (cc e)
range_first a (suc n) x xs e =
    let same : range_with_len (a + 1) n ≡ xs = cc e in
    let less : n ≡ suc n - 1 = omega arith in
    (cc e, omega arith, sym same ∙ ap (range_with_len (a + 1)) less)

-- ---- what was written so far

module _ (a : Series) where
  -- the table of the runs up to these worlds was taken, and its bytes were counted
  pub record HasRuns (ws : List World) (old new : Option (List ℕ)) (n : ℕ) : Type 0 where
    pub taken : TakesRuns a ws old new
    pub counted : GrewBy 0 (length (replications_of a ws)) n

  none_is : replications_of a [] ≡ row_text default_writer (codes "seed" ∷ columns_shown a.show)
  unfolding table_lines lines_of
  none_is = append-nil _

  pub header_put : (T : Type 0) (v : T) (old new : Option (List ℕ)) (m : ℕ) (text : List ℕ)
      → text ≡ row_text default_writer (codes "seed" ∷ columns_shown a.show) → PutsNext old 0 text (Ok v) new m → HasRuns [] old new m
  header_put T v old new m text is put = record {
    taken = no_run a old new (subst (Appends old new) is put.0);
    counted = subst (λ t. GrewBy 0 (length t) m) (is ∙ sym none_is) put.1;
  }

  pub header_failed : (T U : Type 0) (old new : Option (List ℕ)) (m : ℕ) (text : List ℕ) (f : LabFault)
      → text ≡ row_text default_writer (codes "seed" ∷ columns_shown a.show) → PutsNext {T = T} old 0 text (Err f) new m
      → TellsReplications {T = U} a old new (Err f)
  header_failed T U old new m text (WriteFault n) is put =
      ([], omega arith, (tt, (put.0, put.1, none_is ∙ sym is ∙ put.2, put.3, put.4, put.5)))
  header_failed T U old new m text BadCut is put = absurd put
  header_failed T U old new m text BadWidth is put = absurd put
  header_failed T U old new m text ShareFull is put = absurd put
  header_failed T U old new m text NoMemory is put = absurd put
  header_failed T U old new m text CountFull is put = absurd put

  module _ (ws : List World) (old mid : Option (List ℕ)) (n : ℕ) (has : HasRuns ws old mid n) (seed : ℕ)
      (at : length ws ≡ seed - a.first) (from : a.first ≤ seed) (before : seed - a.first < a.count) where
    here : seed ≡ a.first + length ws
    here = omega (arith, at)

    grown : (w : World) (text : List ℕ) → text ≡ lines_of (rows_of_seed a.show a.scenario seed w)
        → replications_of a (ws ++ w ∷ []) ≡ replications_of a ws ++ text
    grown w text is = table_grown a ws w ∙ ap (λ l. replications_of a ws ++ l)
        (ap (λ k. lines_of (rows_of_seed a.show a.scenario k w)) (sym here) ∙ sym is)

    pub run_put : (T : Type 0) (v : T) (lines : Vec ℕ) (new : Option (List ℕ)) (m : ℕ)
        → MakesLines a.scenario a.show seed (Ok lines) → PutsNext mid n lines.items (Ok v) new m
        → (vs : List World) × (length vs ≡ seed + 1 - a.first) × HasRuns vs old new m
    run_put T v lines new m made put = (
      ws ++ made.0 ∷ [],
      omega (arith, length-append ws (made.0 ∷ []), at),
      record {
        taken = one_run_more a ws made.0 old mid new has.taken (subst (λ k. EndsOfSeed a.scenario k made.0) here made.1)
            (subst (Appends mid new) (made.2 ∙ ap (λ k. lines_of (rows_of_seed a.show a.scenario k made.0)) here) put.0);
        counted = subst (λ k. GrewBy 0 k m)
            (sym (ap length (grown made.0 lines.items made.2) ∙ length-append (replications_of a ws) lines.items))
            (count_more 0 (length (replications_of a ws)) n (length lines.items) m has.counted put.1);
      },
    )

    pub run_failed : (T U : Type 0) (lines : Vec ℕ) (new : Option (List ℕ)) (m : ℕ) (f : LabFault)
        → MakesLines a.scenario a.show seed (Ok lines) → PutsNext {T = T} mid n lines.items (Err f) new m
        → TellsReplications {T = U} a old new (Err f)
    run_failed T U lines new m (WriteFault k) made put =
        let all = replications_of a ws in (
          ws ++ made.0 ∷ [],
          omega (arith, length-append ws (made.0 ∷ []), at, before),
          (
            ends_more a.show a.scenario ws made.0 a.first has.taken.0
                (subst (λ k. EndsOfSeed a.scenario k made.0) here made.1),
            (
              all ++ put.0,
              put.1,
              grown made.0 lines.items made.2 ∙ ap (λ l. all ++ l) put.2 ∙ sym (append_assoc all put.0 put.1),
              put.3,
              Appends-trans old mid new all put.0 has.taken.1 put.4,
              subst (λ j. GrewBy 0 j k) (sym (length-append all put.0)) (count_more 0 (length all) n (length put.0) k has.counted put.5),
            ),
          ),
        )
    run_failed T U lines new m BadCut made put = absurd put
    run_failed T U lines new m BadWidth made put = absurd put
    run_failed T U lines new m ShareFull made put = absurd put
    run_failed T U lines new m NoMemory made put = absurd put
    run_failed T U lines new m CountFull made put = absurd put

    pub run_refused : (U : Type 0) (f : LabFault) → MakesLines a.scenario a.show seed (Err f)
        → TellsReplications {T = U} a old mid (Err f)
    run_refused U CountFull made =
        (ws, omega (arith, at, before), has.taken, subst (λ k. MeetsFullOfSeed a.scenario k) here made)
    run_refused U NoMemory made = inr (ws, omega (arith, at, before), has.taken)
    run_refused U BadCut made = absurd made
    run_refused U BadWidth made = absurd made
    run_refused U ShareFull made = absurd made
    run_refused U (WriteFault n) made = absurd made

-- the run of a seed is refused for no reason of the outlet's
pub not_written : (T : Type 0) (p : PlainScenario) (show : Show) (seed : ℕ) (f : LabFault) (n m : ℕ)
    → MakesLines p show seed (Err f) → m ≡ n → m ≡ failures_after_run {T = T} (Err f) n
not_written T p show seed CountFull n m made e = e
not_written T p show seed NoMemory n m made e = e
not_written T p show seed BadCut n m made e = absurd made
not_written T p show seed BadWidth n m made e = absurd made
not_written T p show seed ShareFull n m made e = absurd made
not_written T p show seed (WriteFault k) n m made e = absurd made
