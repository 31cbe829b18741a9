-- Jobs as crews may be handed them.
use Rattle.std.proofs.Common.{◌≡◌, ℕ, zero, suc, ◌+◌, ◌<◌, ◌≤◌, List, [], ◌∷◌, ◌++◌, length, refl, sym, ap, ◌∙◌, subst, arith}
use Rattle.std.proofs.Common.{add-zero, zero-add, add-one, All, length-append, map}
use Rattle.std.specs.List.{AllZip, range_with_len}
use Rattle.std.proofs.lemmas.List.{length-map, map-append}
use Rattle.std.proofs.lemmas.List.Elements.{All-nil, All-cons, All-push}
use Rattle.srm_net.specs.Network.{Network}
use Rattle.srm_member.specs.Record.{Record, fixed_part}
use Rattle.srm_scenario.specs.declared.mark.Mark.{Mark}
use Rattle.srm_ledger.specs.Seats.{LedgerView, SeatView}
use Rattle.srm_cell.specs.declared.cell.Cell.{Cell}
use Rattle.srm_cell.specs.declared.job.Job.{Job}
use Rattle.srm_cell.specs.Cells.{OwnCell}
use Rattle.srm_cell.specs.Views.{IsNew, IsSoundCell, event_of}
use Rattle.srm_cell.proofs.Nexts.{none_due}
use Rattle.srm_cell.specs.Jobs.{MayAdvance}
use Rattle.srm_interfaces.specs.declared.watched.WatchedJob.{WatchedJob}
use Rattle.srm_interfaces.specs.Crews.{MayMap}
use Rattle.srm_interfaces.specs.Watches.{IsIdleTo, IsSoundJob, MayMapWatched, job_in, jobs_in}
use Rattle.srm_crew_tests.specs.Handed.{AreInPlace, AreKnown, IsWatchedAs}
use Rattle.srm_net.specs.Limits.{end_of_time}

range_more : (a n : ℕ) → range_with_len a (suc n) ≡ range_with_len a n ++ (a + n) ∷ []
range_more a zero = ap (λ k. k ∷ []) (sym (add-zero a))
range_more a (suc n) =
    let shift : a + 1 + n ≡ a + suc n = omega arith in
    ap (λ l. a ∷ l) (range_more (a + 1) n ∙ ap (λ k. range_with_len (a + 1) n ++ k ∷ []) shift)

module _ {M : Type 0} (f : M → Record) (n : ℕ) where
  -- ---- jobs

  pub none_handed : AreInPlace {M = M} f n []
  none_handed = record { jobs = All-nil (λ (j : Job M). MayAdvance f n j); places = refl; few = omega arith }

  pub one_more : (js : List (Job M)) (j : Job M) → AreInPlace f n js → j.place ≡ length js → length js < 1024 → MayAdvance f n j
      → AreInPlace f n (js ++ j ∷ [])
  one_more js j h at few may = record {
    jobs = All-push (λ (j : Job M). MayAdvance f n j) js j h.jobs may;
    places =
        map-append (λ (j : Job M). j.place) js (j ∷ []) ∙ ap (λ l. l ++ j.place ∷ []) h.places
        ∙ ap (λ k. range_with_len 0 (length js) ++ k ∷ []) (at ∙ sym (zero-add (length js)))
        ∙ sym (ap (λ k. range_with_len 0 k) (length-append js (j ∷ []) ∙ add-one (length js)) ∙ range_more 0 (length js));
    few = (let long = length-append js (j ∷ []) in omega arith);
  }

  -- ---- what is done

  pub may_go_on : (j : Job M) → AreKnown f n j.cells.items → j.till ≤ end_of_time → MayAdvance f n j
  may_go_on j known soon = record { sound = known.sound; till = soon; few = known.few; of_members = known.of_members }

  pub none_known : AreKnown {M = M} f n []
  none_known = record { sound = All-nil (IsSoundCell f); of_members = tt; few = omega arith }

  -- a new cell of a member, alone
  pub new_known : (r : Record) (script : List Mark) (sent : ℕ) (c : Cell M) (cs : List (Cell M)) → cs ≡ c ∷ [] → IsNew f r script sent c
      → (fixed_part r).member < n → AreKnown f n cs
  new_known r script sent c cs e new lt = subst (AreKnown f n) (sym e) (record {
    sound = All-cons (IsSoundCell f) c [] new.sound (All-nil (IsSoundCell f));
    of_members = (subst (λ (q : OwnCell). q.member < n) (sym new.is) lt, tt);
    few = omega arith;
  })

-- nothing is due before tick 0
idle_to_none : {M : Type 0} (f : M → Record) (cs : List (Cell M)) → All (IsIdleTo f 0) cs
idle_to_none f [] = All-nil (IsIdleTo f 0)
idle_to_none f (c ∷ cs) =
    All-cons (IsIdleTo f 0) c cs (none_due 0 (event_of f c) (λ u e. omega arith)) (idle_to_none f cs)

module _ {M K : Type 0} where
  jobs_are : (js : List (Job M)) (ws : List (WatchedJob M K)) → AllZip (λ j w. IsWatchedAs j w) js ws → jobs_in ws ≡ js
  jobs_are [] [] z = refl
  jobs_are [] (w ∷ ws) z = absurd z
  jobs_are (j ∷ js) [] z = absurd z
  jobs_are (j ∷ js) (w ∷ ws) z = λ i. z.0.0 i ∷ jobs_are js ws z.1 i

  are_sound : (f : M → Record) (js : List (Job M)) (ws : List (WatchedJob M K)) → AllZip (λ j w. IsWatchedAs j w) js ws
      → All (IsSoundJob f) ws
  are_sound f [] [] z = All-nil (IsSoundJob f)
  are_sound f [] (w ∷ ws) z = absurd z
  are_sound f (j ∷ js) [] z = absurd z
  are_sound f (j ∷ js) (w ∷ ws) z =
      All-cons (IsSoundJob f) w ws
      (record { kept = z.0.2; soon = subst (λ t. All (IsIdleTo f t) w.cells.items) (sym z.0.1) (idle_to_none f w.cells.items) })
      (are_sound f js ws z.1)

  placed : (ws : List (WatchedJob M K)) → map (λ (w : WatchedJob M K). w.place) ws ≡ map (λ (j : Job M). j.place) (jobs_in ws)
  placed [] = refl
  placed (w ∷ ws) = ap (λ l. w.place ∷ l) (placed ws)

  -- jobs that a crew may be handed it may be handed watched
  pub may_watch : (f : M → Record) (net : Network) (ledger : LedgerView) (seat : SeatView) (js : List (Job M)) (ws : List (WatchedJob M K))
      → AllZip (λ j w. IsWatchedAs j w) js ws → AreInPlace f (length net.hosts) js → ledger.links ≡ length net.links
      → seat.ledger ≡ ledger.name → MayMapWatched f net ledger seat ws
  may_watch f net ledger seat js ws z h links name =
      let is = jobs_are js ws z in
      let long : length ws ≡ length js = sym (length-map ws job_in) ∙ ap (λ (l : List (Job M)). length l) is in record {
        may = subst (MayMap f net ledger seat) (sym is) (record { jobs = h.jobs; many = h.few; links = links; of_ledger = name });
        sound = are_sound f js ws z;
        places = placed ws ∙ ap (map (λ (j : Job M). j.place)) is ∙ h.places ∙ ap (λ n. range_with_len 0 n) (sym long);
      }
