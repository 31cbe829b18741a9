-- What is left of what a crew that keeps rows did.
use Rattle.std.proofs.Common.{◌≡◌, ◌⊎◌, inl, inr, List, [], ◌∷◌, ◌++◌, All, sym, subst, length, append_assoc, append-nil}
use Rattle.std.proofs.lemmas.List.Elements.{All-head, All-tail}
use Rattle.srm_net.specs.Network.{Network}
use Rattle.srm_scenario.specs.Plain.{PlainScenario}
use Rattle.srm_member.specs.Record.{Record}
use Rattle.srm_member.specs.declared.row.Row.{Row}
use Rattle.srm_cell.specs.declared.job.Done as job
use Rattle.srm_cell.specs.Jobs.{MayAdvance}
use Rattle.srm_cell.specs.Setting.{traffic_of}
use Rattle.srm_interfaces.specs.Crews.{AreDone}
use Rattle.srm_interfaces.specs.declared.watched.WatchedJob.{WatchedJob}
use Rattle.srm_interfaces.specs.declared.watched.WatchedDone.{WatchedDone}
use Rattle.srm_interfaces.specs.Watches.{IsSoundJob, WatchEach, Watches, job_in, jobs_in}
use Rattle.srm_interfaces.proofs.WatchLemmas.{as_many_kept, sent_below}
use Rattle.srm_engine.specs.ByRows.{LeftEach, MayLeave, kept_in}

module _ {M K : Type 0} (f : M → Record) (k : PlainScenario) (net : Network) where
  -- what is done of jobs that may be advanced may be left
  pub may_leave : (js : List (WatchedJob M K)) (ds : List (job.Done M)) → All (λ j. MayAdvance f (length k.members) j) (jobs_in js)
      → All (IsSoundJob f) js → AreDone f k net (jobs_in js) ds → MayLeave k (kept_in js) ds
  may_leave [] [] a h z = tt
  may_leave [] (d ∷ ds) a h z = absurd z
  may_leave (j ∷ js) [] a h z = absurd z
  may_leave (j ∷ js) (d ∷ ds) a h z = (
    as_many_kept f (length k.members) (traffic_of k net) j d (All-head (IsSoundJob f) j js h) z.0,
    sent_below f (length k.members) (traffic_of k net) j d
        (All-head (λ j. MayAdvance f (length k.members) j) (job_in j) (jobs_in js) a) z.0,
    may_leave js ds (All-tail (λ j. MayAdvance f (length k.members) j) (job_in j) (jobs_in js) a) (All-tail (IsSoundJob f) j js h) z.1,
  )

module _ {M K : Type 0} (takes : List K → List (List Row) → List K → Type 0) (k : PlainScenario) (net : Network) where
  pub left_of_jobs : (js : List (WatchedJob M K)) (ds : List (job.Done M)) (es : List (WatchedDone M K))
      → LeftEach takes k net (kept_in js) ds es → WatchEach takes k net js ds es
  left_of_jobs [] [] [] h = tt
  left_of_jobs [] [] (e ∷ es) h = absurd h
  left_of_jobs [] (d ∷ ds) es h = absurd h
  left_of_jobs (j ∷ js) [] es h = absurd h
  left_of_jobs (j ∷ js) (d ∷ ds) [] h = absurd h
  left_of_jobs (j ∷ js) (d ∷ ds) (e ∷ es) h = (h.0, left_of_jobs js ds es h.1)

  -- this is left so far, and the others may be left
  pub record LeftSoFar (olds : List (List K)) (ds : List (job.Done M)) (es : List (WatchedDone M K)) (others : List (List K))
      (rest : List (job.Done M)) : Type 0 where
    pub may : MayLeave k others rest
    pub left : (more : List (WatchedDone M K)) → LeftEach takes k net others rest more → LeftEach takes k net olds ds (es ++ more)

  pub left_none : (olds : List (List K)) (ds : List (job.Done M)) → MayLeave k olds ds → LeftSoFar olds ds [] olds ds
  left_none olds ds h = record { may = h; left = λ more l. l }

  pub next_may : (os : List (List K)) (rs : List (job.Done M)) (old : List K) (others : List (List K)) (d : job.Done M)
      (rest : List (job.Done M)) → os ≡ old ∷ others → rs ≡ d ∷ rest → MayLeave k os rs → MayLeave k (old ∷ others) (d ∷ rest)
  next_may os rs old others d rest e g h =
      subst (λ l. MayLeave k l (d ∷ rest)) e (subst (λ l. MayLeave k os l) g h)

  pub left_more : (olds : List (List K)) (ds : List (job.Done M)) (es : List (WatchedDone M K)) (os : List (List K))
      (rs : List (job.Done M)) (old : List K) (others : List (List K)) (d : job.Done M) (rest : List (job.Done M)) (e : WatchedDone M K)
      → os ≡ old ∷ others → rs ≡ d ∷ rest → LeftSoFar olds ds es os rs → Watches takes k net old d e
      → LeftSoFar olds ds (es ++ e ∷ []) others rest
  left_more olds ds es os rs old others d rest e is are so w =
      let s = subst (λ l. LeftSoFar olds ds es l (d ∷ rest)) is (subst (λ l. LeftSoFar olds ds es os l) are so) in
      record {
        may = s.may.2;
        left = λ more l. subst (λ xs. LeftEach takes k net olds ds xs) (sym (append_assoc es (e ∷ []) more)) (s.left (e ∷ more) (w, l));
      }

  over : (others : List (List K)) (rest : List (job.Done M)) → MayLeave k others rest → (others ≡ []) ⊎ (rest ≡ [])
      → LeftEach takes k net others rest []
  over [] [] h e = tt
  over [] (d ∷ rest) h e = absurd h
  over (old ∷ others) [] h e = absurd h
  over (old ∷ others) (d ∷ rest) h (inl e) = cc
  over (old ∷ others) (d ∷ rest) h (inr e) = cc

  pub left_all : (olds : List (List K)) (ds : List (job.Done M)) (es : List (WatchedDone M K)) (others : List (List K))
      (rest : List (job.Done M)) → LeftSoFar olds ds es others rest → (others ≡ []) ⊎ (rest ≡ []) → LeftEach takes k net olds ds es
  left_all olds ds es others rest s none =
      subst (λ xs. LeftEach takes k net olds ds xs) (append-nil es) (s.left [] (over others rest s.may none))
