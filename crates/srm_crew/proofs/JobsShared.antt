-- What workers tell of jobs, as a crew tells it.
use Rattle.std.proofs.Common.{◌≡◌, ◌<◌, ◌≤◌, ◌^◌, ℕ, zero, suc, ◌+◌, ◌*◌, List, [], ◌∷◌, ◌++◌, length, slice_get, slice_index, Some, Result}
use Rattle.std.proofs.Common.{Ok, Err, IfOk, All, refl, sym, ap, ◌∙◌, subst, inl, inr, ⊎_elim, arith}
use Rattle.std.specs.Global.{Vec}
use Rattle.srm_net.specs.Network.{Network}
use Rattle.srm_scenario.specs.Plain.{PlainScenario}
use Rattle.srm_member.specs.declared.row.Row.{Row}
use Rattle.srm_member.specs.Record.{Record}
use Rattle.srm_ledger.specs.Seats.{SeatView}
use Rattle.srm_cell.specs.declared.job.Job.{Job}
use Rattle.srm_cell.specs.declared.job.Done as job
use Rattle.srm_cell.specs.declared.fault.CellFault.{CellFault}
use Rattle.srm_cell.specs.declared.fault.CellFault.TheVariants as cell
use Rattle.srm_cell.specs.Setting.{traffic_of}
use Rattle.srm_cell.specs.Crossings.{joined, crossings}
use Rattle.srm_cell.specs.Jobs.{TellsFault, FirstEnds, Advances, own_cells}
use Rattle.srm_cell.specs.Cells.{StepOutcome, Stepped, Spent, Full}
use Rattle.srm_cell.proofs.CrossingLemmas.{crossings_add}
use Rattle.srm_interfaces.specs.declared.fault.CrewFault.{CrewFault}
use Rattle.srm_interfaces.specs.declared.fault.CrewFault.TheVariants as fault
use Rattle.srm_interfaces.specs.Faults.{crew_fault_of}
use Rattle.srm_crew.specs.Indices.{times}
use Rattle.srm_interfaces.specs.Crews.{AdvanceEach, AnyEnds, AreDone, AreRowsOfSome, HasGrown, Maps}
use Rattle.srm_interfaces.specs.Crews.{plain_jobs, rows_of, sum_at, counted_in}
use Rattle.srm_crew.specs.Shared.{HoldsAt, sum_of, ComeOf, Settles, TellsAll}
use Rattle.srm_crew.proofs.Peeling.{lower, lower_times, peel}
use Rattle.srm_interfaces.proofs.Sums.{crossings_long, none_crossed, word_of_added, rows_are, rows_of_all, sum_is, all_long}

module _ {M : Type 0} where
  abbrev numbers : job.Done M → List ℕ
  numbers d = d.crossings

  pub sum_of_is : (k : ℕ) (ds : List (job.Done M)) → sum_of numbers k ds ≡ sum_at k ds
  sum_of_is k [] = refl
  sum_of_is k (d ∷ ds) = ap (λ n. counted_in d.crossings k + n) (sum_of_is k ds)

  module _ (f : M → Record) (k : PlainScenario) (net : Network) where
    -- rows of jobs that are done, each once at most, and their crossings
    some_rows : (js : List (Job M)) (indices : List ℕ) (ds : List (job.Done M))
        → ((p : ℕ) → times p indices ≤ 1) → ComeOf (λ j r. Advances f k net j r) js indices ds
        → (rows : List Row) × AreRowsOfSome (plain_jobs f js) rows
        × ((w : ℕ) → sum_of numbers w ds ≡ counted_in (crossings (traffic_of k net) rows) w)
    some_rows [] [] [] once z = ([], refl, λ w. sym (none_crossed (traffic_of k net) w))
    some_rows [] [] (d ∷ ds) once z = absurd z
    some_rows [] (p ∷ indices) [] once z = absurd z
    some_rows [] (p ∷ indices) (d ∷ ds) once z = absurd (nothing_there p z.0.0 z.0.1)
      where
        nothing_there : (p : ℕ) (j : Job M) → slice_get [] p ≡ Some j → ⊥
        nothing_there p j e = cc
    some_rows (j ∷ js) indices ds once z =
        let t = traffic_of k net in
        let r = peel (λ x d. Advances f k net x (Ok d)) numbers j js indices ds once z in
        let more = some_rows js (lower indices) r.results
        (λ q. let e = lower_times q indices in let o = once (suc q) in omega (arith, e, o)) r.rest in
        ⊎_elim
        (λ (n : (times 0 indices ≡ 0) × ((w : ℕ) → sum_of numbers w ds ≡ sum_of numbers w r.results)).
        (more.0, inl more.1, λ w. n.1 w ∙ more.2 w))
        (λ (n : (times 0 indices ≡ 1) × (d : job.Done M) × Advances f k net j (Ok d)
        × ((w : ℕ) → sum_of numbers w ds ≡ counted_in (numbers d) w + sum_of numbers w r.results)).
        let own = joined n.1.rows.items in (
          own ++ more.0,
          inr (own, more.0, rows_are f j.till j.cells.items n.1.rows.items n.1.cells.items n.2.runs, refl, more.1),
          λ w.
              let one : counted_in n.1.crossings w ≡ counted_in (crossings t own) w = ap (λ ns. counted_in ns w) n.2.crossings_are in
              let both = ap (λ ns. counted_in ns w) (crossings_add t own more.0)
              ∙ word_of_added (crossings t own) (crossings t more.0) (crossings_long t own ∙ sym (crossings_long t more.0)) w in
              let a = n.3 w in let b = more.2 w in omega (arith, one, both, a, b),
        ))
        r.first

    one_told : (js : List (Job M)) (e : CellFault) (o : StepOutcome Stepped)
        → ((j : Job M) → TellsFault j.till (own_cells f j.cells.items) e → FirstEnds o j.till (own_cells f j.cells.items))
        → (index : ℕ) → HoldsAt (λ j. Advances f k net j (Err e)) js index → AnyEnds o (plain_jobs f js)
    one_told [] e o so index z = absurd (nothing_there index z.0 z.1)
      where
        nothing_there : (p : ℕ) (j : Job M) → slice_get [] p ≡ Some j → ⊥
        nothing_there p j e = cc
    one_told (j ∷ js) e o so zero z =
        let same : z.0 ≡ j = cc in inl (so j (subst (λ x. Advances f k net x (Err e)) same z.2))
    one_told (j ∷ js) e o so (suc index) z = inr (one_told js e o so index z)

    pub shared_maps : (seat : SeatView) (js : List (Job M)) (r : Result (Vec (job.Done M) × SeatView) CrewFault)
        → TellsAll (λ j x. Advances f k net j x) numbers js seat r → Maps f k net seat js r
    shared_maps seat js (Ok v) t = (
      t.0,
      record {
        ledger = t.1.ledger;
        weight = t.1.weight;
        shares = λ w. t.1.shares w ∙ ap (λ n. slice_index seat.shares w + n)
            (sum_of_is w v.0.items ∙ sum_is f k net js v.0.items t.0 w);
        seen = t.1.seen;
      },
    )
    shared_maps seat js (Err fault.NoMemory) s = tt
    shared_maps seat js (Err fault.Spent) s = one_told js cell.Spent Spent (λ j t. t) s.0 s.1
    shared_maps seat js (Err fault.CountFull) s = one_told js cell.CountFull Full (λ j t. t) s.0 s.1
    shared_maps seat js (Err fault.ShareFull) s =
        let rows = some_rows js s.0 s.1 s.2.0 s.3 in
        (rows.0, rows.1, (s.4.0, subst (λ n. 2 ^ 47 < slice_index seat.shares s.4.0 + n) (rows.2 s.4.0) s.4.1))

    -- what refuses cells refuses their crew
    pub as_refused : (seat : SeatView) (js : List (Job M)) (e : CellFault) → AdvanceEach f k net js (Err e)
        → Maps f k net seat js (Err (crew_fault_of e))
    as_refused seat js cell.NoMemory a = tt
    as_refused seat js cell.Spent a = a
    as_refused seat js cell.CountFull a = a

    -- adding the crossings of all that is done makes of it what a crew tells
    pub jobs_settled : (seat : SeatView) (js : List (Job M)) (adv : Result (Vec (job.Done M)) CellFault)
        (r : Result (Vec (job.Done M) × SeatView) CrewFault) → AdvanceEach f k net js adv → Settles numbers seat adv r
        → Maps f k net seat js r
    jobs_settled seat js (Ok all) (Ok r) a t = shared_maps seat js (Ok r)
        (subst (λ (v : Vec (job.Done M)). AreDone f k net js v.items × HasGrown (λ w. sum_of numbers w v.items) seat r.1) (sym t.0)
        (a, t.1))
    jobs_settled seat js (Ok all) (Err fault.ShareFull) a t = (
      rows_of all.items,
      rows_of_all f k net js all.items a,
      (
        t.0,
        subst (λ n. 2 ^ 47 < slice_index seat.shares t.0 + n) (sum_of_is t.0 all.items ∙ sum_is f k net js all.items a t.0) t.1,
      ),
    )
    jobs_settled seat js (Ok all) (Err fault.NoMemory) a t = absurd t
    jobs_settled seat js (Ok all) (Err fault.Spent) a t = absurd t
    jobs_settled seat js (Ok all) (Err fault.CountFull) a t = absurd t
    jobs_settled seat js (Err e) (Ok r) a t = absurd t
    jobs_settled seat js (Err e) (Err g) a t = subst (λ (x : CrewFault). Maps f k net seat js (Err x)) (sym t) (as_refused seat js e a)

    -- a job that is done has five numbers for each link
    pub done_long : (links : ℕ) (j : Job M) (d : job.Done M) → (traffic_of k net).links ≡ links → Advances f k net j (Ok d)
        → length d.crossings ≡ 5 * links
    done_long links j d e a = ap length a.crossings_are ∙ crossings_long (traffic_of k net) (joined d.rows.items) ∙ ap (λ l. 5 * l) e

    pub each_long : (links : ℕ) (js : List (Job M)) (r : Result (Vec (job.Done M)) CellFault) → (traffic_of k net).links ≡ links
        → AdvanceEach f k net js r → IfOk r (λ all. All (λ (d : job.Done M). length d.crossings ≡ 5 * links) all.items)
    each_long links js (Ok v) e a = all_long f k net links js v.items e a
    each_long links js (Err x) e a = tt
