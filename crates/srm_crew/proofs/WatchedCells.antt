-- The cells of a watched job, run one after the other: what is so after the first of them.
use Rattle.std.proofs.Common.{◌≡◌, ◌∙◌, ◌<◌, ◌≤◌, ◌+◌, ◌^◌, ℕ, List, [], ◌∷◌, ◌++◌, All, length, map, take, drop, refl, sym, ap, subst}
use Rattle.std.proofs.Common.{◌≢◌, arith, append-nil, append_assoc, length-append, Option, Some, None, Result, Ok, Err, false, true≢false}
use Rattle.std.specs.Option.{is_some}
use Rattle.std.specs.Result.{is_err, IfOk}
use Rattle.std.proofs.Math.Seq.{take-length}
use Rattle.std.proofs.Math.ListN.{drop_of_length-le}
use Rattle.std.proofs.lemmas.List.{length-map, with_items_is}
use Rattle.std.proofs.lemmas.List.Elements.{All-nil, All-cons, All-head, All-tail, filter_map-append}
use Rattle.std.specs.Global.{Vec}
use Rattle.std.specs.Vec.{with_items}
use Rattle.std.specs.Vec.Covariant.{in_vec}
use Rattle.srm_net.specs.Limits.{end_of_time}
use Rattle.srm_net.specs.Network.{Network}
use Rattle.srm_scenario.specs.Plain.{PlainScenario}
use Rattle.srm_member.specs.Record.{Record}
use Rattle.srm_member.specs.declared.row.Row.{Row}
use Rattle.srm_ledger.specs.Counts.{nothing_at}
use Rattle.srm_cell.specs.declared.cell.Cell.{Cell}
use Rattle.srm_cell.specs.declared.sent.Sent.{Sent}
use Rattle.srm_cell.specs.declared.fault.CellFault.{CellFault}
use Rattle.srm_cell.specs.declared.fault.CellFault.TheVariants as fault
use Rattle.srm_cell.specs.Cells.{Event, before, time_of}
use Rattle.srm_cell.specs.Crossings.{crossings, joined, packets_of}
use Rattle.srm_cell.specs.Hearing.{IsSent, packets_in}
use Rattle.srm_cell.specs.Jobs.{Advances, AreMembers, AreSound, MayAdvance, RanAlone, RanEach, Runs, TellsFault, TellsRun, own_cells}
use Rattle.srm_cell.specs.Setting.{traffic_of}
use Rattle.srm_cell.specs.Totalled.{IsSentBelow, numbers_of}
use Rattle.srm_cell.specs.Views.{IsSoundCell, event_of, plain_cell}
use Rattle.srm_cell.proofs.Nexts.{idle_step, none_due}
use Rattle.srm_cell.proofs.OwnRunLemmas.{after_none, end_now, rows_none}
use Rattle.srm_cell.proofs.RowPackets.{joined-append, nothing_counted, numbers_are}
use Rattle.srm_cell.proofs.SentRows.{rows_below, rows_few}
use Rattle.srm_cell.proofs.SoFar.{fault_after, ran_more}
use Rattle.srm_interfaces.specs.declared.watched.WatchedJob.{WatchedJob}
use Rattle.srm_interfaces.specs.declared.watched.WatchedDone.{WatchedDone}
use Rattle.srm_interfaces.specs.Watches.{IsClosed, IsIdleTo, IsSoundJob, KeepClosed, KeepEach, job_in}
use Rattle.srm_interfaces.proofs.WatchLemmas.{keep_one_more}
use Rattle.srm_crew.specs.Watched.{AdvanceOne, IsOfMember}

-- what is so where a call was not refused is so
pub if_ok : {A E : Type 0} (r : Result A E) (P : Type 0) → is_err r ≡ false → IfOk r (λ _. P) → P
if_ok (Ok x) P e h = h
if_ok (Err x) P e h = absurd (true≢false e)

-- ---- whose the rows are

module _ {M : Type 0} (f : M → Record) (members : ℕ) where
  pub are_of_members : (cs : List (Cell M)) → AreSound f cs → AreMembers members (own_cells f cs) → All (IsOfMember f members) cs
  are_of_members [] h a = All-nil (IsOfMember f members)
  are_of_members (c ∷ cs) h a =
      All-cons (IsOfMember f members) c cs (All-head (IsSoundCell f) c cs h, a.0) (are_of_members cs (All-tail (IsSoundCell f) c cs h) a.1)

  pub sent_below : (till : ℕ) (c after : Cell M) (rows : List Row) → till ≤ end_of_time → IsOfMember f members c
      → Runs f till c (Ok rows) after → All (λ r. IsSentBelow members r.sent) rows
  sent_below till c after rows le o run =
      All-head (λ (rs : List Row). All (λ r. IsSentBelow members r.sent) rs) rows []
      (rows_below f till members (c ∷ []) (rows ∷ []) (after ∷ []) le (o.1, tt) (run o.0, tt))

-- ---- where nothing is due

none_of : {A : Type 0} (o : Option A) → is_some o ≡ false → o ≡ None
none_of None h = refl
none_of (Some x) h = absurd (true≢false h)

pub runs_idle : {M : Type 0} (f : M → Record) (till : ℕ) (c : Cell M)
    → (IsSoundCell f c → is_some (before till (event_of f c)) ≡ false) → Runs f till c (Ok []) c
runs_idle f till c h is =
    let m = c.number in
    let p = plain_cell f c in
    record {
      run = record {
        steps = 0;
        ends = end_now till m p ∙ idle_step till m p (none_of (before till (event_of f c)) (h is));
        rows_are = sym (rows_none till m p);
        leaves = sym (after_none till m p);
      };
      on = (is, refl);
    }

-- what is not due before a tick is not due before an earlier one
before_earlier : (till tick : ℕ) (o : Option Event) → till ≤ tick → before tick o ≡ None → before till o ≡ None
before_earlier till tick o le h = none_due till o (λ u e. late o u e h)
  where
    late : (o : Option Event) (u : ℕ) → time_of o ≡ Some u → before tick o ≡ None → till ≤ u
    late o u e h = grind arith

module _ {M K : Type 0} (f : M → Record) (keeps : K → List Row → Type 0) (till tick : ℕ) (le : till ≤ tick) where
  abbrev no_rows : List (Cell M) → List (List Row)
  no_rows cs = map (λ (c : Cell M). []) cs

  -- where nothing is due before a tick, cells run to an earlier one without rows
  ran_idle : (cs : List (Cell M)) → AreSound f cs → All (IsIdleTo f tick) cs → RanEach f till cs (no_rows cs) cs
  ran_idle [] s h = tt
  ran_idle (c ∷ cs) s h =
      let idle = before_earlier till tick (event_of f c) le (All-head (IsIdleTo f tick) c cs h) in (
        runs_idle f till c (λ is. ap is_some idle) (All-head (IsSoundCell f) c cs s),
        ran_idle cs (All-tail (IsSoundCell f) c cs s) (All-tail (IsIdleTo f tick) c cs h),
      )

  kept_idle : (cs : List (Cell M)) (ks : List K) → length ks ≡ length cs → KeepEach keeps ks (no_rows cs) ks
  kept_idle [] [] e = tt
  kept_idle [] (k ∷ ks) e = absurd (omega arith)
  kept_idle (c ∷ cs) [] e = absurd (omega arith)
  kept_idle (c ∷ cs) (k ∷ ks) e = (λ before h. subst (keeps k) (sym (append-nil before)) h, kept_idle cs ks (omega arith))

  joined_none : (cs : List (Cell M)) → joined (no_rows cs) ≡ []
  joined_none [] = refl
  joined_none (c ∷ cs) = joined_none cs

-- ---- what is so after the first of the cells

module _ {M K : Type 0} (f : M → Record) (keeps : K → List Row → Type 0) (k : PlainScenario) (net : Network)
    (j : WatchedJob M K) where
  -- these cells have run, and those are left; the watch, which kept the old, keeps the new, and these were sent
  pub record CellsSoFar (cells left : List (Cell M)) (old new : List K) (sent : List Sent) : Type 0 where
    pub rows : List (List Row)
    pub many : length rows ≡ length cells
    pub first : List (Cell M)
    pub is : first ++ left ≡ j.cells.items
    pub runs : RanEach f j.till first rows cells
    pub kept : KeepEach keeps old rows new
    pub packets : packets_in sent ≡ packets_of (joined rows)

  pub cells_none : CellsSoFar [] j.cells.items [] [] []
  cells_none = record { rows = []; many = refl; first = []; is = refl; runs = tt; kept = tt; packets = refl }

  pub cells_more : (cells left : List (Cell M)) (old new : List K) (sent all : List Sent) (c after : Cell M) (rows : List Row)
      (a b : K) → CellsSoFar cells (c ∷ left) old new sent → RanAlone f j.till c rows after
      → ((before : List Row) → keeps a before → keeps b (before ++ rows))
      → packets_in all ≡ packets_in sent ++ packets_of rows
      → CellsSoFar (cells ++ after ∷ []) left (old ++ a ∷ []) (new ++ b ∷ []) all
  cells_more cells left old new sent all c after rows a b s run kept packets = record {
    rows = s.rows ++ rows ∷ [];
    many = length-append s.rows (rows ∷ []) ∙ ap (λ n. n + 1) s.many ∙ sym (length-append cells (after ∷ []));
    first = s.first ++ c ∷ [];
    is = append_assoc s.first (c ∷ []) left ∙ s.is;
    runs = ran_more f j.till s.first s.rows cells c rows after s.runs run;
    kept = keep_one_more keeps old s.rows new a rows b s.kept kept;
    packets = packets ∙ ap (λ l. l ++ packets_of rows) s.packets
        ∙ sym (ap packets_of (joined-append s.rows (rows ∷ [])) ∙ ap (λ l. packets_of (joined s.rows ++ l)) (append-nil rows)
        ∙ filter_map-append (λ (r : Row). r.sent) (joined s.rows) rows);
  }

  -- where nothing is due in any of them all have run
  cells_idle : MayAdvance f (length net.hosts) (job_in j) → IsSoundJob f j → j.till ≤ j.soon
      → CellsSoFar j.cells.items [] j.kept.items j.kept.items []
  cells_idle may sound le =
      let cs = j.cells.items in record {
        rows = no_rows f keeps j.till j.soon le cs;
        many = length-map cs (λ (c : Cell M). []);
        first = cs;
        is = append-nil cs;
        runs = ran_idle f keeps j.till j.soon le cs may.sound sound.soon;
        kept = kept_idle f keeps j.till j.soon le cs j.kept.items sound.kept;
        packets = ap packets_of (sym (joined_none f keeps j.till j.soon le cs));
      }

  stops : (cells left : List (Cell M)) (old new : List K) (sent : List Sent) (c after : Cell M) (e : CellFault)
      → CellsSoFar cells (c ∷ left) old new sent → TellsRun f j.till c (Err e) after → Advances f k net (job_in j) (Err e)
  stops cells left old new sent c after e s run = subst (λ cs. TellsFault j.till (own_cells f cs) e) s.is
      (fault_after f j.till s.first s.rows cells c after left e s.runs run)

  pub cells_fault : (takes : List K → List (List Row) → List K → Type 0) (cells left : List (Cell M))
      (old new : List K) (sent : List Sent) (c after : Cell M) (e : CellFault)
      → CellsSoFar cells (c ∷ left) old new sent → (e ≢ fault.NoMemory → TellsRun f j.till c (Err e) after)
      → AdvanceOne f takes k net j (Err e)
  cells_fault takes cells left old new sent c after fault.NoMemory s run = tt
  cells_fault takes cells left old new sent c after fault.Spent s run =
      stops cells left old new sent c after fault.Spent s (run (λ e. cc))
  cells_fault takes cells left old new sent c after fault.CountFull s run =
      stops cells left old new sent c after fault.CountFull s (run (λ e. cc))

  -- ---- what is so after all

  pub cells_past : (n : ℕ) (cells : List (Cell M)) (old new : List K) (sent : List Sent) → n ≡ length cells
      → length cells ≡ length old → length new ≡ length old
      → CellsSoFar (take n cells) (drop n cells) (take n old) (take n new) sent
      → CellsSoFar cells [] old new sent
  cells_past n cells old new sent all before after s =
      let a : take n cells ≡ cells = ap (λ m. take m cells) all ∙ take-length cells in
      let b : drop n cells ≡ [] = drop_of_length-le cells (omega arith) in
      let p : take n old ≡ old = ap (λ m. take m old) (all ∙ before) ∙ take-length old in
      let q : take n new ≡ new = ap (λ m. take m new) (all ∙ before ∙ sym after) ∙ take-length new in
      subst (λ xs. CellsSoFar cells [] old xs sent) q
      (subst (λ xs. CellsSoFar cells [] xs (take n new) sent) p
      (subst (λ xs. CellsSoFar cells xs (take n old) (take n new) sent) b
      (subst (λ xs. CellsSoFar xs (drop n cells) (take n old) (take n new) sent) a s)))

  ran_all : (cells : List (Cell M)) (old new : List K) (sent : List Sent) (s : CellsSoFar cells [] old new sent)
      → RanEach f j.till j.cells.items s.rows cells
  ran_all cells old new sent s = subst (λ cs. RanEach f j.till cs s.rows cells) (sym (append-nil s.first) ∙ s.is) s.runs

  pub few_sent : (members : ℕ) (cells : List (Cell M)) (old new : List K) (sent : List Sent) → MayAdvance f members (job_in j)
      → CellsSoFar cells [] old new sent → length sent + 2 < 2 ^ 64
  few_sent members cells old new sent may s =
      let few = rows_few f j.till j.cells.items s.rows cells (ran_all cells old new sent s) in
      let same : length sent ≡ length (packets_of (joined s.rows)) =
      sym (length-map sent (λ (x : Sent). x.packet)) ∙ ap length s.packets in
      let most = may.few in
      omega (arith, few, same, most)

  -- the rows are gone; that they were is enough
  pub cells_all : (closes : List K → List K → Type 0) (full : List K) (e : WatchedDone M K) → e.place ≡ j.place
      → CellsSoFar e.cells.items [] j.kept.items full e.sent.items → IsClosed closes full e.kept.items
      → All (λ x. IsSent k net x) e.sent.items → e.crossings ≡ numbers_of (traffic_of k net) (packets_in e.sent.items)
      → AdvanceOne f (KeepClosed keeps closes) k net j (Ok e)
  cells_all closes full e place s closed sent counted =
      let t = traffic_of k net in
      let none : Vec (List Row) = in_vec (λ (c : Cell M). []) e.cells in
      let were : Vec (List Row) = with_items none s.rows in
      let are : s.rows ≡ were.items = sym (with_items_is none s.rows (s.many ∙ sym e.cells.ok.0)) in (
        record { place = j.place; cells = e.cells; rows = were; crossings = e.crossings },
        record {
          place = refl;
          runs = subst (λ rs. RanEach f j.till j.cells.items rs e.cells.items) are
              (ran_all e.cells.items j.kept.items full e.sent.items s);
          crossings_are = counted ∙ ap (numbers_of t) s.packets ∙ numbers_are t (joined s.rows)
              ∙ ap (λ rs. crossings t (joined rs)) are;
        },
        record {
          place = place;
          cells = refl;
          kept = record {
            full = full;
            kept = subst (λ rs. KeepEach keeps j.kept.items rs full) are s.kept;
            closed = closed;
          };
          packets = s.packets ∙ ap (λ rs. packets_of (joined rs)) are;
          sent = sent;
          crossings = refl;
        },
      )

  pub idle_all : (closes : List K → List K → Type 0) (e : WatchedDone M K) → ((own : List K) → closes own own)
      → MayAdvance f (length net.hosts) (job_in j) → IsSoundJob f j → j.till ≤ j.soon → e.place ≡ j.place → e.cells ≡ j.cells
      → e.kept ≡ j.kept → e.sent.items ≡ [] → e.crossings ≡ nothing_at (length net.links)
      → AdvanceOne f (KeepClosed keeps closes) k net j (Ok e)
  idle_all closes e stand may sound le place cells kept sent counted =
      let idle = cells_idle may sound le in
      cells_all closes j.kept.items e place
      (rw (cells, sent) idle)
      (rw kept (refl, stand j.kept.items))
      (rw sent (All-nil (λ x. IsSent k net x)))
      (counted ∙ nothing_counted (traffic_of k net) ∙ ap (λ (xs : List Sent). numbers_of (traffic_of k net) (packets_in xs)) (sym sent))
