-- The rows of a window, and how their packets are heard.
use Rattle.std.proofs.Common.{◌≡◌, ℕ, zero, suc, ◌≤◌, ◌+◌, Bool, true, false, cond, List, [], ◌∷◌, ◌++◌, length, filter, refl, sym, ap, ◌∙◌}
use Rattle.std.proofs.Common.{subst, arith, Option, Some, None, option_map, slice_get, add-zero, nat_lt, lt-ltb, ◌==◌, Ordering, Less}
use Rattle.std.specs.List.{AllByRecursion}
use Rattle.std.specs.List.Sorted.{IsSorted}
use Rattle.std.proofs.lemmas.List.Elements.{All-from_recursion}
use Rattle.std.proofs.lemmas.Option.{same_Some}
use Rattle.srm_net.specs.Orders.{AllAfter, Ascends}
use Rattle.srm_net.specs.declared.packet.Packet.{Packet}
use Rattle.srm_member.specs.declared.row.Row.{Row}
use Rattle.srm_cell.specs.Setting.{Setting}
use Rattle.srm_cell.specs.Cells.{PlainCell, hear}
use Rattle.srm_cell.specs.OwnRuns.{hear_rows, told_to}
use Rattle.srm_model.specs.World.{row_cmp}
use Rattle.srm_member.specs.ByMember.{rows_of_member}
use Rattle.srm_model.specs.Hearing.{all_hear, heard_below}
use Rattle.srm_model.specs.Laws.{by_member, new_rows}
use Rattle.srm_model.specs.WindowRuns.{rows_in, each_hears}
use Rattle.srm_model.specs.WindowLaws.{OwnRowsAreSorted, PacketsAreHeardInTurn}
use Rattle.srm_model.proofs.OneWindow.{part_of, trace_grows}
use Rattle.srm_model.proofs.RunLemmas.{shifted}
use Rattle.srm_model.proofs.SortedRows.{ascends_sorted}
use Rattle.srm_model.proofs.StrictRuns.{keys_rise}

-- ---- own rows are in order

module _ {A : Type 0} (cmp : A → A → Ordering) where
  ascends_second : (xs ys : List A) → Ascends cmp (xs ++ ys) → Ascends cmp ys
  ascends_second [] ys h = h
  ascends_second (x ∷ xs) ys h = ascends_second xs ys h.1

  module _ (q : A → Bool) where
    after_cond : (x y : A) (ys : List A) (b : Bool) → cmp x y ≡ Less → AllAfter cmp x ys → AllAfter cmp x (cond b (y ∷ ys) ys)
    after_cond x y ys true e h = (e, h)
    after_cond x y ys false e h = h

    after_filter : (x : A) (ys : List A) → AllAfter cmp x ys → AllAfter cmp x (filter q ys)
    after_filter x [] h = tt
    after_filter x (y ∷ ys) h = after_cond x y (filter q ys) (q y) h.0 (after_filter x ys h.1)

    ascends_cond : (x : A) (xs : List A) (b : Bool) → AllAfter cmp x xs → Ascends cmp xs → Ascends cmp (cond b (x ∷ xs) xs)
    ascends_cond x xs true h g = (h, g)
    ascends_cond x xs false h g = g

    ascends_filter : (xs : List A) → Ascends cmp xs → Ascends cmp (filter q xs)
    ascends_filter [] h = tt
    ascends_filter (x ∷ xs) h = ascends_cond x (filter q xs) (q x) (after_filter x xs h.0) (ascends_filter xs h.1)

member_rows : (n i : ℕ) (rows : List Row) (j : ℕ) (l : List Row) → slice_get (by_member i n rows) j ≡ Some l
    → l ≡ rows_of_member (i + j) rows
member_rows zero i rows j l h = cc
member_rows (suc n) i rows zero l h = same_Some _ _ (sym h) ∙ ap (λ k. rows_of_member k rows) (sym (add-zero i))
member_rows (suc n) i rows (suc j) l h = member_rows n (suc i) rows j l h ∙ ap (λ k. rows_of_member k rows) (sym (shifted i j))

each_listed : {A : Type 0} (Q : A → Type 0) (xs : List A) → ((m : ℕ) (x : A) → slice_get xs m ≡ Some x → Q x) → AllByRecursion Q xs
each_listed Q [] h = tt
each_listed Q (x ∷ xs) h = (h 0 x refl, each_listed Q xs (λ m y g. h (suc m) y g))

pub own_rows_are_sorted : OwnRowsAreSorted
own_rows_are_sorted s w till fit reached within safe results runs =
    let part = part_of s w till fit reached within safe results runs in
    let p = part.1 in
    let new = new_rows w part.0 in
    let all : Ascends row_cmp (w.trace ++ new) = subst (Ascends row_cmp) (trace_grows s fit p.first.steps w part.0 p.first.comes)
    (keys_rise s part.0 fit p.reached) in
    let each : (m : ℕ) (l : List Row) → slice_get (rows_in results) m ≡ Some l → IsSorted row_cmp l = λ m l g.
    let is = member_rows s.traffic.members 0 new m l (ap (λ x. slice_get x m) (sym p.rows) ∙ g) in
    subst (IsSorted row_cmp) (sym is) (ascends_sorted (rows_of_member (0 + m) new)
    (ascends_filter row_cmp (λ q. q.key.member == 0 + m) new (ascends_second row_cmp w.trace new all))) in
    All-from_recursion (IsSorted row_cmp) (rows_in results) (each_listed (IsSorted row_cmp) (rows_in results) each)

-- ---- one packet after the other

module _ (s : Setting) where
  hears_nothing : (i : ℕ) (cs : List PlainCell) → each_hears s.traffic i [] cs ≡ cs
  hears_nothing i [] = refl
  hears_nothing i (c ∷ cs) = ap (λ l. c ∷ l) (hears_nothing (suc i) cs)

  hears_last : (m : ℕ) (rows : List Row) (r : Row) (c : PlainCell) → hear_rows s.traffic m (rows ++ r ∷ []) c
      ≡ told_to s.traffic r.sent m (hear_rows s.traffic m rows c)
  hears_last m [] r c = refl
  hears_last m (q ∷ rows) r c = hears_last m rows r (told_to s.traffic q.sent m c)

  pub length-each_hears : (i : ℕ) (rows : List Row) (cs : List PlainCell) → length (each_hears s.traffic i rows cs) ≡ length cs
  length-each_hears i rows [] = refl
  length-each_hears i rows (c ∷ cs) = ap suc (length-each_hears (suc i) rows cs)

  nothing_sent : (i : ℕ) (rows : List Row) (r : Row) (cs : List PlainCell) → r.sent ≡ None → each_hears s.traffic i (rows ++ r ∷ []) cs
      ≡ each_hears s.traffic i rows cs
  nothing_sent i rows r [] h = refl
  nothing_sent i rows r (c ∷ cs) h =
      let first : hear_rows s.traffic i (rows ++ r ∷ []) c ≡ hear_rows s.traffic i rows c = hears_last i rows r c
      ∙ ap (λ o. told_to s.traffic o i (hear_rows s.traffic i rows c)) h in
      let more = nothing_sent (suc i) rows r cs h in
      λ k. first k ∷ more k

  sent_last : (p : Packet) (k i : ℕ) (rows : List Row) (r : Row) (cs : List PlainCell) → i + length cs ≤ k → r.sent ≡ Some p
      → each_hears s.traffic i (rows ++ r ∷ []) cs ≡ heard_below s.traffic p k i (each_hears s.traffic i rows cs)
  sent_last p k i rows r [] le h = refl
  sent_last p k i rows r (c ∷ cs) le h =
      let below : nat_lt i k ≡ true = lt-ltb i k (omega arith) in
      let d = hear_rows s.traffic i rows c in
      let first : hear_rows s.traffic i (rows ++ r ∷ []) c ≡ cond (nat_lt i k) (hear s.traffic p i d) d = hears_last i rows r c
      ∙ ap (λ o. told_to s.traffic o i d) h ∙ sym (ap (λ b. cond b (hear s.traffic p i d) d) below) in
      let more = sent_last p k (suc i) rows r cs (omega arith) h in
      λ j. first j ∷ more j

  one_more : (rows : List Row) (r : Row) (cs : List PlainCell) (o : Option Packet) → r.sent ≡ o → each_hears s.traffic 0 (rows ++ r ∷ []) cs
      ≡ all_hear s.traffic o (each_hears s.traffic 0 rows cs)
  one_more rows r cs o h = grind (arith, nothing_sent, sent_last, length-each_hears)

  pub get_heard : (i j : ℕ) (rows : List Row) (cs : List PlainCell) → slice_get (each_hears s.traffic i rows cs) j
      ≡ option_map (hear_rows s.traffic (i + j) rows) (slice_get cs j)
  get_heard i j rows [] = refl
  get_heard i zero rows (c ∷ cs) = rw add-zero refl
  get_heard i (suc j) rows (c ∷ cs) = rw (shifted i j) (get_heard (suc i) j rows cs)

pub packets_are_heard_in_turn : PacketsAreHeardInTurn
packets_are_heard_in_turn s cs = (hears_nothing s 0 cs, λ rows r. one_more s rows r cs r.sent refl)
