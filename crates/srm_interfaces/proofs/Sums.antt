-- Crossings of all that is done.
use Rattle.std.proofs.Common.{◌≡◌, ℕ, zero, suc, ◌+◌, ◌*◌, List, [], ◌∷◌, length, slice_index, All}
use Rattle.std.proofs.Common.{refl, sym, ap, ◌∙◌, arith, inr}
use Rattle.std.specs.List.{flat_map, range_with_len}
use Rattle.std.proofs.lemmas.List.Elements.{All-nil, All-cons}
use Rattle.srm_net.specs.declared.packet.Packet.{Packet}
use Rattle.srm_member.specs.declared.row.Row.{Row}
use Rattle.srm_member.specs.Record.{Record}
use Rattle.srm_cell.specs.declared.cell.Cell.{Cell}
use Rattle.srm_cell.specs.declared.job.Done as job
use Rattle.srm_cell.specs.Setting.{Traffic}
use Rattle.srm_cell.specs.Crossings.{joined, crossings, crossings_at, packets_of, added_each}
use Rattle.srm_net.specs.Network.{Network}
use Rattle.srm_scenario.specs.Plain.{PlainScenario}
use Rattle.srm_cell.specs.declared.job.Job.{Job}
use Rattle.srm_cell.specs.Setting.{traffic_of}
use Rattle.srm_cell.specs.Views.{plain_cell}
use Rattle.srm_cell.specs.Jobs.{RanEach, own_cells}
use Rattle.srm_cell.proofs.CrossingLemmas.{crossings_add}
use Rattle.srm_cell.proofs.RowPackets.{nothing_counted, numbers_are}
use Rattle.srm_interfaces.specs.Crews.{counted_in, sum_at, rows_of, plain_jobs, AreDone, AreRowsOf, AreRowsOfSome}
use Rattle.srm_ledger.proofs.Keeps.{replicate_zero}

-- ---- numbers

word_added : (xs ys : List ℕ) → length xs ≡ length ys → (k : ℕ) → slice_index (added_each xs ys) k ≡ slice_index xs k + slice_index ys k
word_added [] [] e k = omega arith
word_added [] (y ∷ ys) e k = absurd (omega arith)
word_added (x ∷ xs) [] e k = absurd (omega arith)
word_added (x ∷ xs) (y ∷ ys) e zero = refl
word_added (x ∷ xs) (y ∷ ys) e (suc k) = word_added xs ys (omega arith) k

pub word_of_added : (xs ys : List ℕ) → length xs ≡ length ys → (k : ℕ) → counted_in (added_each xs ys) k ≡ counted_in xs k + counted_in ys k
word_of_added xs ys e zero = omega arith
word_of_added xs ys e (suc k) = word_added xs ys e k

five_each : (s : Traffic) (ps : List Packet) (l n : ℕ) → length (flat_map (crossings_at s ps) (range_with_len l n)) ≡ 5 * n
five_each s ps l zero = refl
five_each s ps l (suc n) = let e = five_each s ps (l + 1) n in omega (arith, e)

pub crossings_long : (s : Traffic) (rows : List Row) → length (crossings s rows) ≡ 5 * s.links
unfolding crossings
crossings_long s rows = five_each s (packets_of rows) 0 s.links

pub none_crossed : (s : Traffic) (k : ℕ) → counted_in (crossings s []) k ≡ 0
none_crossed s zero = refl
none_crossed s (suc k) = ap (λ ns. slice_index ns k) (sym (nothing_counted s ∙ numbers_are s [])) ∙ replicate_zero (5 * s.links) k

-- ---- all that is done

module _ {M : Type 0} (f : M → Record) where
  pub all_long : (k : PlainScenario) (net : Network) (n : ℕ) (js : List (Job M)) (ds : List (job.Done M)) → (traffic_of k net).links ≡ n
      → AreDone f k net js ds → All (λ (d : job.Done M). length d.crossings ≡ 5 * n) ds
  all_long k net n [] [] e z = All-nil (λ (d : job.Done M). length d.crossings ≡ 5 * n)
  all_long k net n [] (d ∷ ds) e z = absurd z
  all_long k net n (j ∷ js) [] e z = absurd z
  all_long k net n (j ∷ js) (d ∷ ds) e z = All-cons (λ (d : job.Done M). length d.crossings ≡ 5 * n) d ds
      (ap length z.0.crossings_are ∙ crossings_long (traffic_of k net) (joined d.rows.items) ∙ ap (λ l. 5 * l) e)
      (all_long k net n js ds e z.1)

  pub sum_is : (k : PlainScenario) (net : Network) (js : List (Job M)) (ds : List (job.Done M))
      → AreDone f k net js ds → (w : ℕ) → sum_at w ds ≡ counted_in (crossings (traffic_of k net) (rows_of ds)) w
  sum_is k net [] [] z w = sym (none_crossed (traffic_of k net) w)
  sum_is k net [] (d ∷ ds) z w = absurd z
  sum_is k net (j ∷ js) [] z w = absurd z
  sum_is k net (j ∷ js) (d ∷ ds) z w =
      let s = traffic_of k net in
      let own = joined d.rows.items in
      let one : counted_in d.crossings w ≡ counted_in (crossings s own) w = ap (λ ns. counted_in ns w) z.0.crossings_are in
      let more = sum_is k net js ds z.1 w in
      let both = ap (λ ns. counted_in ns w) (crossings_add s own (rows_of ds))
      ∙ word_of_added (crossings s own) (crossings s (rows_of ds)) (crossings_long s own ∙ sym (crossings_long s (rows_of ds))) w in
      omega (arith, one, more, both)

  pub rows_are : (till : ℕ) (cs : List (Cell M)) (rows : List (List Row)) (ds : List (Cell M))
      → RanEach f till cs rows ds → AreRowsOf till (own_cells f cs) (joined rows)
  rows_are till [] [] [] h = refl
  rows_are till [] [] (d ∷ ds) h = absurd h
  rows_are till [] (r ∷ rs) ds h = absurd h
  rows_are till (c ∷ cs) [] ds h = absurd h
  rows_are till (c ∷ cs) (r ∷ rs) [] h = absurd h
  rows_are till (c ∷ cs) (r ∷ rs) (d ∷ ds) h = (r, joined rs, plain_cell f d, h.0.run, refl, rows_are till cs rs ds h.1)

  pub rows_of_all : (k : PlainScenario) (net : Network) (js : List (Job M)) (ds : List (job.Done M))
      → AreDone f k net js ds → AreRowsOfSome (plain_jobs f js) (rows_of ds)
  rows_of_all k net [] [] z = refl
  rows_of_all k net [] (d ∷ ds) z = absurd z
  rows_of_all k net (j ∷ js) [] z = absurd z
  rows_of_all k net (j ∷ js) (d ∷ ds) z = inr (
    joined d.rows.items,
    rows_of ds,
    rows_are j.till j.cells.items d.rows.items d.cells.items z.0.runs,
    refl,
    rows_of_all k net js ds z.1,
  )
