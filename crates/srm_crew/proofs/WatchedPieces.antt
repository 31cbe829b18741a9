-- Watched jobs that were advanced in pieces, and what a crew tells of them.
use Rattle.std.proofs.Common.{◌≡◌, ◌<◌, ◌+◌, ◌*◌, ◌^◌, ◌∙◌, ℕ, zero, suc, List, [], ◌∷◌, ◌++◌, map, length, get_or, slice_index, All}
use Rattle.std.proofs.Common.{IfOk, Result, Ok, Err, refl, sym, ap, subst, arith}
use Rattle.std.proofs.lemmas.List.{map-append}
use Rattle.std.proofs.lemmas.List.Elements.{All-nil, All-cons, All-head, All-tail}
use Rattle.std.specs.List.{AllZip}
use Rattle.std.specs.Global.{Vec}
use Rattle.srm_net.specs.Network.{Network}
use Rattle.srm_scenario.specs.Plain.{PlainScenario}
use Rattle.srm_member.specs.Record.{Record}
use Rattle.srm_member.specs.declared.row.Row.{Row}
use Rattle.srm_ledger.specs.Seats.{SeatView}
use Rattle.srm_cell.specs.declared.job.Done as job
use Rattle.srm_cell.specs.declared.fault.CellFault.{CellFault}
use Rattle.srm_cell.specs.declared.fault.CellFault.TheVariants as cell
use Rattle.srm_cell.specs.Cells.{StepOutcome, Full, Spent, Stepped}
use Rattle.srm_cell.specs.Setting.{traffic_of}
use Rattle.srm_cell.specs.Jobs.{IsDone, MayAdvance, plain_job}
use Rattle.srm_interfaces.specs.declared.fault.CrewFault.{CrewFault}
use Rattle.srm_interfaces.specs.declared.fault.CrewFault.TheVariants as crew
use Rattle.srm_interfaces.specs.declared.watched.WatchedJob.{WatchedJob}
use Rattle.srm_interfaces.specs.declared.watched.WatchedDone.{WatchedDone}
use Rattle.srm_interfaces.specs.Crews.{AnyEnds, AreDone, Maps, counted_in, plain_jobs, rows_of, sum_at}
use Rattle.srm_interfaces.specs.Watches.{AdvanceWatched, IsSoundJob, MapsWatched, WatchEach, job_in, jobs_in}
use Rattle.srm_interfaces.proofs.InPieces.{all_each, all_in}
use Rattle.srm_interfaces.proofs.Sums.{all_long, rows_of_all, sum_is}
use Rattle.srm_net.proofs.Basics.{zip_append}
use Rattle.srm_crew.specs.Shared.{sum_of, Settles}
use Rattle.srm_crew.specs.Pieces.{PutTogether}
use Rattle.srm_crew.specs.Watched.{MayWatch}
use Rattle.srm_crew.proofs.JobsShared.{as_refused}
use Rattle.srm_crew.proofs.JobPieces.{any_first, any_last}

module _ {M K : Type 0} (f : M → Record) (k : PlainScenario) (net : Network) where
  -- ---- pieces of jobs that may be watched

  may_each : (js : List (WatchedJob M K)) → All (λ j. MayAdvance f (length net.hosts) j) (jobs_in js)
      → All (λ j. MayAdvance f (length net.hosts) (job_in j)) js
  may_each [] h = All-nil (λ j. MayAdvance f (length net.hosts) (job_in j))
  may_each (j ∷ js) h =
      All-cons (λ j. MayAdvance f (length net.hosts) (job_in j)) j js
      (All-head (λ j. MayAdvance f (length net.hosts) j) (job_in j) (jobs_in js) h)
      (may_each js (All-tail (λ j. MayAdvance f (length net.hosts) j) (job_in j) (jobs_in js) h))

  may_jobs : (js : List (WatchedJob M K)) → All (λ j. MayAdvance f (length net.hosts) (job_in j)) js
      → All (λ j. MayAdvance f (length net.hosts) j) (jobs_in js)
  may_jobs [] h = All-nil (λ j. MayAdvance f (length net.hosts) j)
  may_jobs (j ∷ js) h =
      All-cons (λ j. MayAdvance f (length net.hosts) j) (job_in j) (jobs_in js)
      (All-head (λ j. MayAdvance f (length net.hosts) (job_in j)) j js h)
      (may_jobs js (All-tail (λ j. MayAdvance f (length net.hosts) (job_in j)) j js h))

  each_both : (pieces : List (Vec (WatchedJob M K)))
      → All (λ (js : Vec (WatchedJob M K)). All (λ j. MayAdvance f (length net.hosts) (job_in j)) js.items) pieces
      → All (λ (js : Vec (WatchedJob M K)). All (IsSoundJob f) js.items) pieces
      → All (λ (js : Vec (WatchedJob M K)). MayWatch f net js.items) pieces
  each_both [] h g = All-nil (λ (js : Vec (WatchedJob M K)). MayWatch f net js.items)
  each_both (js ∷ pieces) h g =
      All-cons (λ (js : Vec (WatchedJob M K)). MayWatch f net js.items) js pieces (
        may_jobs js.items (All-head (λ (x : Vec (WatchedJob M K)). All (λ j. MayAdvance f (length net.hosts) (job_in j)) x.items)
            js pieces h),
        All-head (λ (x : Vec (WatchedJob M K)). All (IsSoundJob f) x.items) js pieces g,
      )
      (each_both pieces
      (All-tail (λ (x : Vec (WatchedJob M K)). All (λ j. MayAdvance f (length net.hosts) (job_in j)) x.items) js pieces h)
      (All-tail (λ (x : Vec (WatchedJob M K)). All (IsSoundJob f) x.items) js pieces g))

  -- jobs that may be watched may be watched in pieces
  pub watch_pieces : (pieces : List (Vec (WatchedJob M K))) (js : List (WatchedJob M K)) → all_in pieces ≡ js → MayWatch f net js
      → All (λ (js : Vec (WatchedJob M K)). MayWatch f net js.items) pieces
  watch_pieces pieces js is h =
      let own : MayWatch f net (all_in pieces) = subst (λ l. MayWatch f net l) (sym is) h in
      each_both pieces
      (all_each (λ j. MayAdvance f (length net.hosts) (job_in j)) pieces (may_each (all_in pieces) own.0))
      (all_each (IsSoundJob f) pieces own.1)

  -- ---- what is left of them

  module _ (takes : List K → List (List Row) → List K → Type 0) where
    watch_append : (xs : List (WatchedJob M K)) (ds : List (job.Done M)) (es : List (WatchedDone M K)) (ys : List (WatchedJob M K))
        (dt : List (job.Done M)) (et : List (WatchedDone M K)) → WatchEach takes k net xs ds es → WatchEach takes k net ys dt et
        → WatchEach takes k net (xs ++ ys) (ds ++ dt) (es ++ et)
    watch_append [] [] [] ys dt et h g = g
    watch_append [] [] (e ∷ es) ys dt et h g = absurd h
    watch_append [] (d ∷ ds) es ys dt et h g = absurd h
    watch_append (x ∷ xs) [] es ys dt et h g = absurd h
    watch_append (x ∷ xs) (d ∷ ds) [] ys dt et h g = absurd h
    watch_append (x ∷ xs) (d ∷ ds) (e ∷ es) ys dt et h g = (h.0, watch_append xs ds es ys dt et h.1 g)

    -- what each piece gave
    abbrev pub GaveWatched : List (Vec (WatchedJob M K)) → List (Result (Vec (WatchedDone M K)) CellFault) → Type 0
    GaveWatched pieces rs = AllZip (λ (js : Vec (WatchedJob M K)) r. AdvanceWatched f takes k net js.items r) pieces rs

    in_both : (xs ys : List (WatchedJob M K)) → plain_jobs f (jobs_in xs) ++ plain_jobs f (jobs_in ys) ≡ plain_jobs f (jobs_in (xs ++ ys))
    in_both xs ys = sym (map-append (plain_job f) (jobs_in xs) (jobs_in ys)) ∙ ap (plain_jobs f) (sym (map-append job_in xs ys))

    both_done : (xs ys : List (WatchedJob M K)) (ds dt : List (job.Done M)) → AreDone f k net (jobs_in xs) ds
        → AreDone f k net (jobs_in ys) dt → AreDone f k net (jobs_in (xs ++ ys)) (ds ++ dt)
    both_done xs ys ds dt h g = subst (λ l. AreDone f k net l (ds ++ dt)) (sym (map-append job_in xs ys))
        (zip_append (λ j d. IsDone f (traffic_of k net) j d) (jobs_in xs) ds (jobs_in ys) dt h g)

    all_left : (pieces : List (Vec (WatchedJob M K))) (es : List (Vec (WatchedDone M K))) → GaveWatched pieces (map Ok es)
        → (ds : List (job.Done M)) × AreDone f k net (jobs_in (all_in pieces)) ds
        × WatchEach takes k net (all_in pieces) ds (all_in es)
    all_left [] [] z = ([], tt, tt)
    all_left [] (e ∷ es) z = absurd z
    all_left (j ∷ js) [] z = absurd z
    all_left (j ∷ js) (e ∷ es) z =
        let more = all_left js es z.1 in (
          z.0.0 ++ more.0,
          both_done j.items (all_in js) z.0.0 more.0 z.0.1 more.1,
          watch_append j.items z.0.0 e.items (all_in js) more.0 (all_in es) z.0.2 more.2,
        )

    any_refused : (o : StepOutcome Stepped) (e : CellFault)
        → ((js : List (WatchedJob M K)) → AdvanceWatched f takes k net js (Err e) → AnyEnds o (plain_jobs f (jobs_in js)))
        → (pieces : List (Vec (WatchedJob M K))) (rs : List (Result (Vec (WatchedDone M K)) CellFault))
        → GaveWatched pieces rs → (i : ℕ) → i < length rs
        → get_or rs i (Err e) ≡ Err e → AnyEnds o (plain_jobs f (jobs_in (all_in pieces)))
    any_refused o e tells pieces [] z i lt at = absurd (omega arith)
    any_refused o e tells [] (r ∷ rs) z i lt at = absurd z
    any_refused o e tells (j ∷ js) (r ∷ rs) z zero lt at =
        subst (AnyEnds o) (in_both j.items (all_in js))
        (any_first o (plain_jobs f (jobs_in j.items)) (plain_jobs f (jobs_in (all_in js)))
        (tells j.items (subst (AdvanceWatched f takes k net j.items) at z.0)))
    any_refused o e tells (j ∷ js) (r ∷ rs) z (suc i) lt at =
        subst (AnyEnds o) (in_both j.items (all_in js))
        (any_last o (plain_jobs f (jobs_in j.items)) (plain_jobs f (jobs_in (all_in js)))
        (any_refused o e tells js rs z.1 i (omega arith) at))

    -- watched jobs whose pieces were advanced, and then put together, were advanced
    pub pieces_watched : (pieces : List (Vec (WatchedJob M K))) (rs : List (Result (Vec (WatchedDone M K)) CellFault))
        (r : Result (Vec (WatchedDone M K)) CellFault)
        → GaveWatched pieces rs → PutTogether rs r → AdvanceWatched f takes k net (all_in pieces) r
    pieces_watched pieces rs (Ok v) z p =
        subst (λ l. (ds : List (job.Done M)) × AreDone f k net (jobs_in (all_in pieces)) ds
        × WatchEach takes k net (all_in pieces) ds l) (sym p.2) (all_left pieces p.0 (subst (GaveWatched pieces) p.1 z))
    pieces_watched pieces rs (Err cell.NoMemory) z p = tt
    pieces_watched pieces rs (Err cell.Spent) z p = any_refused Spent cell.Spent (λ js a. a) pieces rs z p.0 p.1 p.2
    pieces_watched pieces rs (Err cell.CountFull) z p = any_refused Full cell.CountFull (λ js a. a) pieces rs z p.0 p.1 p.2

    -- ---- their crossings

    left_sum : (w : ℕ) (js : List (WatchedJob M K)) (ds : List (job.Done M)) (es : List (WatchedDone M K)) → WatchEach takes k net js ds es
        → sum_of (λ (e : WatchedDone M K). e.crossings) w es ≡ sum_at w ds
    left_sum w [] [] [] h = refl
    left_sum w [] [] (e ∷ es) h = absurd h
    left_sum w [] (d ∷ ds) es h = absurd h
    left_sum w (j ∷ js) [] es h = absurd h
    left_sum w (j ∷ js) (d ∷ ds) [] h = absurd h
    left_sum w (j ∷ js) (d ∷ ds) (e ∷ es) h =
        let one : counted_in e.crossings w ≡ counted_in d.crossings w = ap (λ ns. counted_in ns w) h.0.crossings in
        let more = left_sum w js ds es h.1 in omega (arith, one, more)

    left_long : (n : ℕ) (js : List (WatchedJob M K)) (ds : List (job.Done M)) (es : List (WatchedDone M K)) → WatchEach takes k net js ds es
        → All (λ (d : job.Done M). length d.crossings ≡ 5 * n) ds → All (λ (e : WatchedDone M K). length e.crossings ≡ 5 * n) es
    left_long n [] [] [] h a = All-nil (λ (e : WatchedDone M K). length e.crossings ≡ 5 * n)
    left_long n [] [] (e ∷ es) h a = absurd h
    left_long n [] (d ∷ ds) es h a = absurd h
    left_long n (j ∷ js) [] es h a = absurd h
    left_long n (j ∷ js) (d ∷ ds) [] h a = absurd h
    left_long n (j ∷ js) (d ∷ ds) (e ∷ es) h a =
        All-cons (λ (e : WatchedDone M K). length e.crossings ≡ 5 * n) e es
        (ap length h.0.crossings ∙ All-head (λ (d : job.Done M). length d.crossings ≡ 5 * n) d ds a)
        (left_long n js ds es h.1 (All-tail (λ (d : job.Done M). length d.crossings ≡ 5 * n) d ds a))

    -- all that is left has five numbers for each link
    pub settled_long : (js : List (WatchedJob M K)) (links : ℕ) (r : Result (Vec (WatchedDone M K)) CellFault)
        → length net.links ≡ links → AdvanceWatched f takes k net js r
        → IfOk r (λ all. All (λ (e : WatchedDone M K). length e.crossings ≡ 5 * links) all.items)
    settled_long js links (Err e) is a = tt
    settled_long js links (Ok v) is a = left_long links js a.0 v.items a.2 (all_long f k net links (jobs_in js) a.0 is a.1)

    -- ---- what a crew tells

    -- adding the crossings of all that is left makes of it what a crew tells
    pub maps_settled : (seat : SeatView) (js : List (WatchedJob M K)) (adv : Result (Vec (WatchedDone M K)) CellFault)
        (r : Result (Vec (WatchedDone M K) × SeatView) CrewFault)
        → AdvanceWatched f takes k net js adv → Settles (λ (e : WatchedDone M K). e.crossings) seat adv r
        → MapsWatched f takes k net seat js r
    maps_settled seat js (Ok all) (Ok r) a t =
        let same = λ (w : ℕ). left_sum w js a.0 all.items a.2 ∙ sum_is f k net (jobs_in js) a.0 a.1 w in (
          a.0,
          a.1,
          record {
            ledger = t.1.ledger;
            weight = t.1.weight;
            shares = λ w. t.1.shares w ∙ ap (λ n. slice_index seat.shares w + n) (same w);
            seen = t.1.seen;
          },
          subst (λ (u : Vec (WatchedDone M K)). WatchEach takes k net js a.0 u.items) (sym t.0) a.2,
        )
    maps_settled seat js (Ok all) (Err crew.ShareFull) a t = (
      rows_of a.0,
      rows_of_all f k net (jobs_in js) a.0 a.1,
      (
        t.0,
        subst (λ n. 2 ^ 47 < slice_index seat.shares t.0 + n)
            (left_sum t.0 js a.0 all.items a.2 ∙ sum_is f k net (jobs_in js) a.0 a.1 t.0) t.1,
      ),
    )
    maps_settled seat js (Ok all) (Err crew.NoMemory) a t = absurd t
    maps_settled seat js (Ok all) (Err crew.Spent) a t = absurd t
    maps_settled seat js (Ok all) (Err crew.CountFull) a t = absurd t
    maps_settled seat js (Err e) (Ok r) a t = absurd t
    maps_settled seat js (Err e) (Err g) a t =
        subst (λ (x : CrewFault). Maps f k net seat (jobs_in js) (Err x)) (sym t) (as_refused f k net seat (jobs_in js) e a)

-- what is told of one scenario and network is told of the same under other names
module _ {M K : Type 0} (f : M → Record) where
  pub watched_as : (takes : List K → List (List Row) → List K → Type 0) (own given : PlainScenario) (own_net net : Network)
      (js : List (WatchedJob M K)) (r : Result (Vec (WatchedDone M K)) CellFault) → own ≡ given → own_net ≡ net
      → AdvanceWatched f takes own own_net js r → AdvanceWatched f takes given net js r
  watched_as takes own given own_net net js r p q a =
      subst (λ k. AdvanceWatched f takes k net js r) p (subst (λ n. AdvanceWatched f takes own n js r) q a)
