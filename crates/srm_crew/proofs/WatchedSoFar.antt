-- Watched jobs advanced one after the other: what is so after the first of them.
use Rattle.std.proofs.Common.{◌≡◌, List, [], ◌∷◌, ◌++◌, refl, sym, ap, ◌∙◌, subst, append_assoc, append-nil, Ok, Err}
use Rattle.std.proofs.lemmas.List.{map-append}
use Rattle.srm_net.specs.Network.{Network}
use Rattle.srm_scenario.specs.Plain.{PlainScenario}
use Rattle.srm_member.specs.Record.{Record}
use Rattle.srm_member.specs.declared.row.Row.{Row}
use Rattle.srm_cell.specs.declared.job.Done as job
use Rattle.srm_cell.specs.declared.fault.CellFault.{CellFault}
use Rattle.srm_cell.specs.declared.fault.CellFault.TheVariants as fault
use Rattle.srm_cell.specs.Jobs.{Advances}
use Rattle.srm_interfaces.specs.declared.watched.WatchedJob.{WatchedJob}
use Rattle.srm_interfaces.specs.declared.watched.WatchedDone.{WatchedDone}
use Rattle.srm_interfaces.specs.Crews.{AdvanceEach, AreDone}
use Rattle.srm_interfaces.specs.Watches.{WatchEach, Watches, job_in, jobs_in}
use Rattle.srm_crew.specs.Watched.{AdvanceOne}
use Rattle.srm_crew.proofs.JobsSoFar.{refused_left}

module _ {M K : Type 0} (f : M → Record) (takes : List K → List (List Row) → List K → Type 0) (k : PlainScenario) (net : Network) where
  watch_more : (js : List (WatchedJob M K)) (ds : List (job.Done M)) (es : List (WatchedDone M K)) (j : WatchedJob M K) (d : job.Done M)
      (e : WatchedDone M K) → WatchEach takes k net js ds es → Watches takes k net j.kept.items d e
      → WatchEach takes k net (js ++ j ∷ []) (ds ++ d ∷ []) (es ++ e ∷ [])
  watch_more [] [] [] j d e h g = (g, tt)
  watch_more [] [] (y ∷ es) j d e h g = absurd h
  watch_more [] (x ∷ ds) es j d e h g = absurd h
  watch_more (i ∷ js) [] es j d e h g = absurd h
  watch_more (i ∷ js) (x ∷ ds) [] j d e h g = absurd h
  watch_more (i ∷ js) (x ∷ ds) (y ∷ es) j d e h g = (h.0, watch_more js ds es j d e h.1 g)

  done_more : (js : List (WatchedJob M K)) (ds : List (job.Done M)) (j : WatchedJob M K) (d : job.Done M)
      → AreDone f k net (jobs_in js) ds → Advances f k net (job_in j) (Ok d) → AreDone f k net (jobs_in (js ++ j ∷ [])) (ds ++ d ∷ [])
  done_more [] [] j d h g = (g, tt)
  done_more [] (x ∷ ds) j d h g = absurd h
  done_more (i ∷ js) [] j d h g = absurd h
  done_more (i ∷ js) (x ∷ ds) j d h g = (h.0, done_more js ds j d h.1 g)

  -- the jobs so far are done, and what is left of them is all that there is; the others are left
  pub record WatchedSoFar (js : List (WatchedJob M K)) (all : List (WatchedDone M K)) (left : List (WatchedJob M K)) : Type 0 where
    pub front : List (WatchedJob M K)
    pub is : front ++ left ≡ js
    pub done : List (job.Done M)
    pub are : AreDone f k net (jobs_in front) done
    pub leaves : WatchEach takes k net front done all

  pub watched_none : (js : List (WatchedJob M K)) → WatchedSoFar js [] js
  watched_none js = record { front = []; is = refl; done = []; are = tt; leaves = tt }

  pub watched_more : (js : List (WatchedJob M K)) (all : List (WatchedDone M K)) (j : WatchedJob M K) (left : List (WatchedJob M K))
      (e : WatchedDone M K) → WatchedSoFar js all (j ∷ left) → AdvanceOne f takes k net j (Ok e)
      → WatchedSoFar js (all ++ e ∷ []) left
  watched_more js all j left e s one = record {
    front = s.front ++ j ∷ [];
    is = append_assoc s.front (j ∷ []) left ∙ s.is;
    done = s.done ++ one.0 ∷ [];
    are = done_more s.front s.done j one.0 s.are one.1;
    leaves = watch_more s.front s.done all j one.0 e s.leaves one.2;
  }

  pub watched_all : (js : List (WatchedJob M K)) (all : List (WatchedDone M K)) (left : List (WatchedJob M K)) → WatchedSoFar js all left
      → left ≡ [] → (ds : List (job.Done M)) × AreDone f k net (jobs_in js) ds × WatchEach takes k net js ds all
  watched_all js all left s none =
      let whole : s.front ≡ js = sym (append-nil s.front) ∙ ap (λ l. s.front ++ l) (sym none) ∙ s.is in (
        s.done,
        subst (λ l. AreDone f k net (jobs_in l) s.done) whole s.are,
        subst (λ l. WatchEach takes k net l s.done all) whole s.leaves,
      )

  pub watched_fault : (js : List (WatchedJob M K)) (all : List (WatchedDone M K)) (j : WatchedJob M K) (left : List (WatchedJob M K))
      (e : CellFault) → WatchedSoFar js all (j ∷ left) → AdvanceOne f takes k net j (Err e) → AdvanceEach f k net (jobs_in js) (Err e)
  watched_fault js all j left fault.NoMemory s one = tt
  watched_fault js all j left fault.Spent s one = refused_left f k net (jobs_in s.front) (jobs_in left) (jobs_in js) (job_in j) fault.Spent
      (sym (map-append job_in s.front (j ∷ left)) ∙ ap jobs_in s.is) one
  watched_fault js all j left fault.CountFull s one = refused_left f k net (jobs_in s.front) (jobs_in left) (jobs_in js) (job_in j)
      fault.CountFull (sym (map-append job_in s.front (j ∷ left)) ∙ ap jobs_in s.is) one
