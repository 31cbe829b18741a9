-- Watched jobs, and what is left of what is done of them.
use Rattle.std.proofs.Common.{◌≡◌, ◌∙◌, ◌++◌, ℕ, suc, List, [], ◌∷◌, All, length, map, refl, sym, ap, append_assoc}
use Rattle.std.proofs.Common.{length-append, add-one, arith, ◌+◌, ◌<◌, ◌≤◌, get_or, set, take, subst}
use Rattle.std.proofs.lemmas.List.{map-append, map-set, get_or-map, set-get_or, take_more_set}
use Rattle.std.proofs.lemmas.List.Elements.{All-nil, All-cons, All-append, filter_map-append}
use Rattle.std.specs.Global.{Vec}
use Rattle.srm_net.specs.Network.{Network}
use Rattle.srm_scenario.specs.Plain.{PlainScenario}
use Rattle.srm_member.specs.Record.{Record}
use Rattle.srm_member.specs.declared.row.Row.{Row}
use Rattle.srm_cell.specs.declared.cell.Cell.{Cell}
use Rattle.srm_cell.specs.declared.job.Job.{Job}
use Rattle.srm_cell.specs.declared.job.Done as job
use Rattle.srm_cell.specs.declared.sent.Sent.{Sent}
use Rattle.srm_cell.specs.Crossings.{joined, packets_of}
use Rattle.srm_cell.specs.Hearing.{IsSent, packets_in}
use Rattle.srm_cell.proofs.RowPackets.{joined-append}
use Rattle.srm_interfaces.specs.declared.watched.WatchedJob.{WatchedJob}
use Rattle.srm_interfaces.specs.declared.watched.WatchedDone.{WatchedDone}
use Rattle.srm_interfaces.specs.Watches.{IsSoundJob, KeepClosed, KeepEach, WatchEach, jobs_in}
use Rattle.srm_interfaces.specs.InTurn.{WereClosed}
use Rattle.srm_interfaces.proofs.GroupedLemmas.{all_in_push}
use Rattle.srm_engine.specs.Groups.{all_in, sizes, jobs_with, groups_of, lists_of}
use Rattle.srm_engine.specs.WatchedGroups.{watched_with, groups_in, kept_of, sent_of}
use Rattle.srm_engine.proofs.SoonGroups.{AreIdleTo}

-- ---- jobs

module _ {M K : Type 0} (soon : ℕ → ℕ) where
  -- where nothing is left that is kept, there is no more job
  pub no_more_jobs : (till place : ℕ) (gs : List (Vec (Cell M))) (ks : List (Vec K)) → ks ≡ [] → watched_with soon till place gs ks ≡ []
  no_more_jobs till place [] ks e = refl
  no_more_jobs till place (g ∷ gs) [] e = refl
  no_more_jobs till place (g ∷ gs) (k ∷ ks) e = cc

  -- one job more
  pub watched_push : (till : ℕ) (js new : List (WatchedJob M K)) (n : ℕ) (g : Vec (Cell M)) (k : Vec K) (gs : List (Vec (Cell M)))
      (ks : List (Vec K)) → n ≡ length js → new ≡ js ++ record { place = n; till = till; soon = soon n; cells = g; kept = k } ∷ []
      → new ++ watched_with soon till (length new) gs ks ≡ js ++ watched_with soon till (length js) (g ∷ gs) (k ∷ ks)
  watched_push till js new n g k gs ks e h =
      let j : WatchedJob M K = record { place = n; till = till; soon = soon n; cells = g; kept = k } in
      let more : List (WatchedJob M K) = watched_with soon till (suc (length js)) gs ks in
      let many : length new ≡ suc (length js) = ap length h ∙ length-append js (j ∷ []) ∙ add-one (length js) in
      ap (λ m. new ++ watched_with soon till m gs ks) many ∙ ap (λ l. l ++ more) h ∙ append_assoc js (j ∷ []) more
      ∙ ap (λ m. js ++ record { place = m; till = till; soon = soon m; cells = g; kept = k } ∷ more) e

  -- the jobs without what is kept
  pub their_jobs : (till place : ℕ) (gs : List (Vec (Cell M))) (ks : List (Vec K)) → sizes ks ≡ sizes gs
      → jobs_in (watched_with soon till place gs ks) ≡ jobs_with till place gs
  their_jobs till place [] ks e = refl
  their_jobs till place (g ∷ gs) [] e = cc
  their_jobs till place (g ∷ gs) (k ∷ ks) e =
      let j : Job M = record { place = place; till = till; cells = g } in
      let same : sizes ks ≡ sizes gs = cc in
      ap (λ l. j ∷ l) (their_jobs till (suc place) gs ks same)

  -- what is kept of the cells of each
  pub kept_there : (till place : ℕ) (gs : List (Vec (Cell M))) (ks : List (Vec K)) → sizes ks ≡ sizes gs
      → map (λ (j : WatchedJob M K). j.kept) (watched_with soon till place gs ks) ≡ ks
  kept_there till place [] [] e = refl
  kept_there till place [] (k ∷ ks) e = cc
  kept_there till place (g ∷ gs) [] e = cc
  kept_there till place (g ∷ gs) (k ∷ ks) e =
      let same : sizes ks ≡ sizes gs = cc in
      ap (λ l. k ∷ l) (kept_there till (suc place) gs ks same)

  -- the jobs are sound where nothing is due in the cells of each before that
  pub are_sound : (f : M → Record) (till place : ℕ) (gs : List (Vec (Cell M))) (ks : List (Vec K)) → sizes ks ≡ sizes gs
      → AreIdleTo f soon place gs → All (IsSoundJob f) (watched_with soon till place gs ks)
  are_sound f till place [] ks e h = All-nil (IsSoundJob f)
  are_sound f till place (g ∷ gs) [] e h = All-nil (IsSoundJob f)
  are_sound f till place (g ∷ gs) (k ∷ ks) e h =
      let j : WatchedJob M K = record { place = place; till = till; soon = soon place; cells = g; kept = k } in
      let long : length k.items ≡ length g.items = cc in
      let same : sizes ks ≡ sizes gs = cc in
      All-cons (IsSoundJob f) j (watched_with soon till (suc place) gs ks) (record { kept = long; soon = h.0 })
      (are_sound f till (suc place) gs ks same h.1)

  few_jobs : (till place : ℕ) (gs : List (Vec (Cell M))) (ks : List (Vec K)) → length (watched_with soon till place gs ks) ≤ length gs
  few_jobs till place [] ks = omega arith
  few_jobs till place (g ∷ gs) [] = omega arith
  few_jobs till place (g ∷ gs) (k ∷ ks) = let few = few_jobs till (suc place) gs ks in omega (arith, few)

  -- where one more job is to come there is a group at its place
  pub group_there : (till : ℕ) (js : List (WatchedJob M K)) (gs all : List (Vec (Cell M))) (ks kept : List (Vec K)) (g : Vec (Cell M))
      (k : Vec K) (more : List (Vec (Cell M))) (others : List (Vec K)) → gs ≡ g ∷ more → ks ≡ k ∷ others
      → js ++ watched_with soon till (length js) gs ks ≡ watched_with soon till 0 all kept → length js < length all
  group_there till js gs all ks kept g k more others first second is =
      let n = length js in
      let left : List (WatchedJob M K) = watched_with soon till n gs ks in
      let some : length left ≡ suc (length (watched_with soon till (suc n) more others)) =
      λ i. length (watched_with soon till n (first i) (second i)) in
      let both : length js + length left ≡ length (watched_with soon till 0 all kept) = sym (length-append js left) ∙ ap length is in
      let few = few_jobs till 0 all kept in
      omega (arith, some, both, few)

module _ {M K : Type 0} where
  pub places_in : (js : List (WatchedJob M K)) → map (λ (j : Job M). j.place) (jobs_in js) ≡ map (λ (j : WatchedJob M K). j.place) js
  places_in [] = refl
  places_in (j ∷ js) = ap (λ l. j.place ∷ l) (places_in js)

-- ---- what is kept

-- where one of a group is written back, and is so, those so far are
pub one_done : {K : Type 0} (P : K → Type 0) (group : List K) (i : ℕ) (own : K) → i < length group → All P (take i group) → P own
    → All P (take (i + 1) (set group i own))
one_done P group i own lt before is =
    subst (All P) (sym (take_more_set group i own lt)) (All-append P (take i group) (own ∷ []) before (All-cons P own [] is (All-nil P)))

-- where a group is written back with as many as before, the groups are as large as they were
pub as_large : {K : Type 0} (gs : List (Vec K)) (i : ℕ) (v : Vec K) → i < length gs → length v.items ≡ length (get_or gs i v).items
    → sizes (set gs i v) ≡ sizes gs
as_large {K} gs i v lt long =
    map-set (λ (g : Vec K). length g.items) gs i v
    ∙ ap (set (sizes gs) i) (long ∙ sym (get_or-map (λ (g : Vec K). length g.items) gs i v 0 lt))
    ∙ set-get_or (sizes gs) i 0

-- and where all of them are so, the groups so far are
pub group_done : {K : Type 0} (P : K → Type 0) (gs : List (Vec K)) (i : ℕ) (v : Vec K) → i < length gs
    → length v.items ≡ length (get_or gs i v).items → All P (all_in (take i gs)) → All P v.items
    → (sizes (set gs i v) ≡ sizes gs) × All P (all_in (take (i + 1) (set gs i v)))
group_done {K} P gs i v lt long before own = (
  as_large gs i v lt long,
  subst (All P) (sym (ap all_in (take_more_set gs i v lt) ∙ all_in_push (take i gs) v))
      (All-append P (all_in (take i gs)) v.items before own),
)

module _ {K : Type 0} (keeps : K → List Row → Type 0) where
  keep_append : (old more : List K) (ls ms : List (List Row)) (new later : List K) → KeepEach keeps old ls new
      → KeepEach keeps more ms later → KeepEach keeps (old ++ more) (ls ++ ms) (new ++ later)
  keep_append [] more [] ms [] later h g = g
  keep_append [] more [] ms (b ∷ new) later h g = absurd h
  keep_append [] more (l ∷ ls) ms new later h g = absurd h
  keep_append (a ∷ old) more [] ms new later h g = absurd h
  keep_append (a ∷ old) more (l ∷ ls) ms [] later h g = absurd h
  keep_append (a ∷ old) more (l ∷ ls) ms (b ∷ new) later h g = (h.0, keep_append old more ls ms new later h.1 g)

  keep_long : (old : List K) (ls : List (List Row)) (new : List K) → KeepEach keeps old ls new → length new ≡ length old
  keep_long [] [] [] h = refl
  keep_long [] [] (b ∷ new) h = absurd h
  keep_long [] (l ∷ ls) new h = absurd h
  keep_long (a ∷ old) [] new h = absurd h
  keep_long (a ∷ old) (l ∷ ls) [] h = absurd h
  keep_long (a ∷ old) (l ∷ ls) (b ∷ new) h = ap suc (keep_long old ls new h.1)

-- ---- what is done

module _ {M K : Type 0} (takes : List K → List (List Row) → List K → Type 0) (k : PlainScenario) (net : Network) where
  pub groups_left : (js : List (WatchedJob M K)) (ds : List (job.Done M)) (es : List (WatchedDone M K))
      → WatchEach takes k net js ds es → groups_in es ≡ groups_of ds
  groups_left [] [] [] h = refl
  groups_left [] [] (e ∷ es) h = absurd h
  groups_left [] (d ∷ ds) es h = absurd h
  groups_left (j ∷ js) [] es h = absurd h
  groups_left (j ∷ js) (d ∷ ds) [] h = absurd h
  groups_left (j ∷ js) (d ∷ ds) (e ∷ es) h = ap (λ c. c ∷ groups_in es) h.0.cells
      ∙ ap (λ l. d.cells ∷ l) (groups_left js ds es h.1)

  pub all_sent : (js : List (WatchedJob M K)) (ds : List (job.Done M)) (es : List (WatchedDone M K))
      → WatchEach takes k net js ds es → All (λ x. IsSent k net x) (all_in (sent_of es))
  all_sent [] [] [] h = All-nil (λ x. IsSent k net x)
  all_sent [] [] (e ∷ es) h = absurd h
  all_sent [] (d ∷ ds) es h = absurd h
  all_sent (j ∷ js) [] es h = absurd h
  all_sent (j ∷ js) (d ∷ ds) [] h = absurd h
  all_sent (j ∷ js) (d ∷ ds) (e ∷ es) h =
      All-append (λ x. IsSent k net x) e.sent.items (all_in (sent_of es)) h.0.sent (all_sent js ds es h.1)

  -- what was sent are the packets of all rows
  pub all_packets : (js : List (WatchedJob M K)) (ds : List (job.Done M)) (es : List (WatchedDone M K))
      → WatchEach takes k net js ds es → packets_of (joined (lists_of ds)) ≡ packets_in (all_in (sent_of es))
  all_packets [] [] [] h = refl
  all_packets [] [] (e ∷ es) h = absurd h
  all_packets [] (d ∷ ds) es h = absurd h
  all_packets (j ∷ js) [] es h = absurd h
  all_packets (j ∷ js) (d ∷ ds) [] h = absurd h
  all_packets (j ∷ js) (d ∷ ds) (e ∷ es) h =
      ap packets_of (joined-append d.rows.items (lists_of ds))
      ∙ filter_map-append (λ (r : Row). r.sent) (joined d.rows.items) (joined (lists_of ds))
      ∙ ap (λ l. l ++ packets_of (joined (lists_of ds))) (sym h.0.packets)
      ∙ ap (λ l. packets_in e.sent.items ++ l) (all_packets js ds es h.1)
      ∙ sym (map-append (λ (x : Sent). x.packet) e.sent.items (all_in (sent_of es)))

module _ {M K : Type 0} (keeps : K → List Row → Type 0) (closes : List K → List K → Type 0) (k : PlainScenario) (net : Network) where
  -- of all cells was kept what was before, and the rows of each, and that was closed
  pub all_kept : (js : List (WatchedJob M K)) (ds : List (job.Done M)) (es : List (WatchedDone M K))
      → WatchEach (KeepClosed keeps closes) k net js ds es
      → WereClosed closes (KeepEach keeps (all_in (map (λ (j : WatchedJob M K). j.kept) js)) (lists_of ds)) (kept_of es)
  all_kept [] [] [] h = record { full = []; closed = tt; so = tt }
  all_kept [] [] (e ∷ es) h = absurd h
  all_kept [] (d ∷ ds) es h = absurd h
  all_kept (j ∷ js) [] es h = absurd h
  all_kept (j ∷ js) (d ∷ ds) [] h = absurd h
  all_kept (j ∷ js) (d ∷ ds) (e ∷ es) h =
      let own = h.0.kept in
      let more = all_kept js ds es h.1 in record {
        full = own.full ∷ more.full;
        closed = (own.closed, more.closed);
        so = keep_append keeps j.kept.items (all_in (map (λ (j : WatchedJob M K). j.kept) js)) d.rows.items (lists_of ds) own.full
            (joined more.full) own.kept more.so;
      }

  pub as_many_left : (js : List (WatchedJob M K)) (ds : List (job.Done M)) (es : List (WatchedDone M K))
      → WatchEach (KeepClosed keeps closes) k net js ds es
      → sizes (kept_of es) ≡ sizes (map (λ (j : WatchedJob M K). j.kept) js)
  as_many_left [] [] [] h = refl
  as_many_left [] [] (e ∷ es) h = absurd h
  as_many_left [] (d ∷ ds) es h = absurd h
  as_many_left (j ∷ js) [] es h = absurd h
  as_many_left (j ∷ js) (d ∷ ds) [] h = absurd h
  as_many_left (j ∷ js) (d ∷ ds) (e ∷ es) h =
      let own = h.0.kept in
      ap (λ n. n ∷ sizes (kept_of es)) (own.closed.0 ∙ keep_long keeps j.kept.items d.rows.items own.full own.kept)
      ∙ ap (λ l. length j.kept.items ∷ l) (as_many_left js ds es h.1)
