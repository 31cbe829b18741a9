-- A merge of lists of rows is determined by its elements and its order.
use Rattle.std.proofs.Common.{zero, suc, ◌&&◌, ◌||◌, ◌++◌, filter, ◌==◌, eqb-true, ◌≡◌, ℕ, ◌<◌, ◌≤◌, ◌+◌, Bool, true, false, cond, List, []}
use Rattle.std.proofs.Common.{◌∷◌, refl, sym, ap, ◌∙◌, subst, ◌⊎◌, inl, inr, arith, Ordering, Less, Equal, Greater, is_lt, true≢false}
use Rattle.std.specs.Ordering.{is_eq, ordering_reverse}
use Rattle.std.specs.Cmp.{IsTotalOrder}
use Rattle.std.specs.List.{sum_by, AllByRecursion}
use Rattle.std.proofs.lemmas.List.Sums.{sum_by-cons}
use Rattle.std.proofs.lemmas.List.Sorted.{sum_by-IsPermutation, All-permutation}
use Rattle.std.proofs.lemmas.List.Elements.{All-from_recursion, recursion_from_All}
use Rattle.std.proofs.Math.Seq.{drop-append_seam}
use Rattle.std.proofs.Common.{length, drop, le_refl}
use Rattle.std.proofs.lemmas.Bool.{eqb-false}
use Rattle.srm_cell.specs.Cells.{Done, PlainCell, StepOutcome}
use Rattle.srm_cell.specs.Setting.{IsFit, Setting}
use Rattle.srm_model.proofs.LawProofs.{run_on}
use Rattle.srm_model.proofs.RunLemmas.{Seq, next, rest, seq_run}
use Rattle.srm_model.proofs.ScheduleLemmas.{row_total}
use Rattle.srm_model.proofs.Sequential.{Good, good_reached, good_step, member_below, run_seq, step_facts}
use Rattle.srm_model.proofs.StrictRuns.{keys_rise}
use Rattle.srm_cell.specs.Crossings.{joined}
use Rattle.srm_model.specs.Laws.{MergesAgree, by_member, new_rows}
use Rattle.srm_member.specs.ByMember.{rows_of_member}
use Rattle.srm_model.specs.World.{World, opening, row_cmp, run}
use Rattle.srm_member.proofs.AllIn.{AllIn}
use Rattle.srm_member.proofs.FewerTimers.{In, in_append, count-append}
use Rattle.srm_member.proofs.OrderLemmas.{rises}
use Rattle.srm_member.specs.Record.{count_if}
use Rattle.srm_member.specs.declared.row.Row.{Row}
use Rattle.srm_net.specs.Orders.{AllAfter, Ascends, NoneBelow, Rises}
use Rattle.srm_net.specs.declared.key.Key.{Key}
use Rattle.srm_net.proofs.Basics.{one_if}

module _ {A : Type 0} (cmp : A → A → Ordering) (o : IsTotalOrder cmp) where
  -- how many elements have the key of k
  abbrev pub same : A → List A → ℕ
  same k xs = count_if (λ x. is_eq (cmp k x)) xs

  self : (x : A) → cmp x x ≡ Equal
  self x = grind arith

  pub one_self : (x : A) → one_if (is_eq (cmp x x)) ≡ 1
  one_self x = ap (λ r. one_if (is_eq r)) (self x)

  none_less : (x y : A) → cmp x y ≡ Less → one_if (is_eq (cmp x y)) ≡ 0
  none_less x y e = ap (λ r. one_if (is_eq r)) e

  pub no_same : (x : A) (xs : List A) → AllAfter cmp x xs → same x xs ≡ 0
  no_same x [] h = refl
  no_same x (y ∷ ys) h = let a = none_less x y h.0 in let b = no_same x ys h.1 in omega arith

  some_same : (x z : A) (ys : List A) → In z ys → cmp x z ≡ Equal → 1 ≤ same x ys
  some_same x z [] h e = absurd h
  some_same x z (y ∷ ys) (inl q) e = let a : one_if (is_eq (cmp x y)) ≡ 1 = ap (λ w. one_if (is_eq (cmp x w))) q
      ∙ ap (λ r. one_if (is_eq r)) e in omega arith
  some_same x z (y ∷ ys) (inr q) e = let a = some_same x z ys q e in omega arith

  -- what is not below y comes after x, where y does
  pub after_all : (x y : A) (ys : List A) → cmp x y ≡ Less → NoneBelow cmp y ys → AllAfter cmp x ys
  after_all x y [] l h = tt
  after_all x y (z ∷ zs) l h = (
    elim (cmp y z) as (λ r. cmp y z ≡ r → cmp x z ≡ Less) [
      | Less ↦ λ e. o.trans x y z l e
      | Equal ↦ λ e. o.antisymm x z ∙ ap ordering_reverse (sym (o.congr y z x e)) ∙ sym (o.antisymm x y) ∙ l
      | Greater ↦ λ e. absurd (true≢false (sym (ap is_lt (o.antisymm z y ∙ ap ordering_reverse e)) ∙ h.0))
    ] refl,
    after_all x y zs l h.1,
  )

  in_after : (x z : A) (xs : List A) → AllAfter cmp x xs → In z xs → cmp x z ≡ Less
  in_after x z [] h q = absurd q
  in_after x z (y ∷ ys) h (inl q) = ap (cmp x) (sym q) ∙ h.0
  in_after x z (y ∷ ys) h (inr q) = in_after x z ys h.1 q

  -- two lists in order, the first strictly, with the same elements as often, are equal
  pub same_merge : (xs ys : List A) → Ascends cmp xs → Rises cmp ys → ((k : A) → same k ys ≡ same k xs) → ((z : A) → In z ys → In z xs) → xs
      ≡ ys
  same_merge [] [] h g c m = refl
  same_merge [] (y ∷ ys) h g c m = absurd (m y (inl refl))
  same_merge (x ∷ xs) [] h g c m = let a = one_self x in let b = c x in absurd (omega arith)
  same_merge (x ∷ xs) (y ∷ ys) h g c m =
      let first : x ≡ y = elim (m y (inl refl)) [
        | inl q ↦ q
        | inr q ↦
            let less = in_after x y xs h.0 q in
            let none = no_same x (y ∷ ys) (less, after_all x y ys less g.0) in
            let one = one_self x in
            let count = c x in
            absurd (omega arith)
      ] in
      let counts : (k : A) → same k ys ≡ same k xs = λ k.
      let head : one_if (is_eq (cmp k y)) ≡ one_if (is_eq (cmp k x)) = ap (λ w. one_if (is_eq (cmp k w))) (sym first) in
      let all = c k in omega arith in
      let members : (z : A) → In z ys → In z xs = λ z q. elim (m z (inr q)) [
        | inl e ↦
            let twice = some_same x z ys q (ap (cmp x) (sym e) ∙ self x) in
            let none = no_same x xs h.0 in
            let count = counts x in
            absurd (omega arith)
        | inr e ↦ e
      ] in
      λ i. first i ∷ same_merge xs ys h.1 g.1 counts members i

-- ---- the rows of a list, by members

module _ {A : Type 0} (p : A → Bool) where
  count-cond : (b : Bool) (x : A) (xs : List A) → count_if p (cond b (x ∷ xs) xs) ≡ one_if (b && p x) + count_if p xs
  count-cond true x xs = refl
  count-cond false x xs = omega arith

  count-filter : (q : A → Bool) (xs : List A) → count_if p (filter q xs) ≡ count_if (λ x. q x && p x) xs
  count-filter q [] = refl
  count-filter q (x ∷ xs) = count-cond (q x) x (filter q xs) ∙ ap (λ n. one_if (q x && p x) + n) (count-filter q xs)

unfoldable pub in_range : ℕ → ℕ → ℕ → Bool
in_range i zero m = false
in_range i (suc n) m = (m == i) || in_range (suc i) n m

pub too_low : (i n m : ℕ) → m < i → in_range i n m ≡ false
unfolding in_range
too_low i zero m lt = refl
too_low i (suc n) m lt = elim (m == i) as (λ b. (m == i) ≡ b → (b || in_range (suc i) n m) ≡ false) [
  | true ↦ λ e. absurd (let q = eqb-true _ _ e in omega arith)
  | false ↦ λ e. too_low (suc i) n m (omega arith)
] refl

pub all_low : (n i m : ℕ) → i ≤ m → m < i + n → in_range i n m ≡ true
unfolding in_range
all_low zero i m lo hi = absurd (omega arith)
all_low (suc n) i m lo hi = elim (m == i) as (λ b. (m == i) ≡ b → (b || in_range (suc i) n m) ≡ true) [
  | true ↦ λ e. refl
  | false ↦ λ e. let ne = eqb-false _ _ e in all_low n (suc i) m (omega arith) (omega arith)
] refl

one_or : (a b c : Bool) → (a ≡ true → b ≡ false) → one_if (a && c) + one_if (b && c) ≡ one_if ((a || b) && c)
one_or true b c h = let e = h refl in rw e (omega arith)
one_or false b c h = omega arith

module _ (p : Row → Bool) where
  both_ranges : (i n : ℕ) (rows : List Row) → count_if (λ r. (r.key.member == i) && p r) rows + count_if
      (λ r. in_range (suc i) n r.key.member && p r) rows ≡ count_if (λ r. in_range i (suc n) r.key.member && p r) rows
  unfolding in_range
  both_ranges i n [] = refl
  both_ranges i n (r ∷ rows) =
      let a = both_ranges i n rows in
      let b = one_or (r.key.member == i) (in_range (suc i) n r.key.member)
      (p r) (λ e. too_low (suc i) n r.key.member (let q = eqb-true _ _ e in omega arith)) in
      omega arith

  none_counted : (rows : List Row) → 0 ≡ count_if (λ r. false && p r) rows
  none_counted [] = refl
  none_counted (r ∷ rows) = none_counted rows ∙ omega arith

  count-by_member : (n i : ℕ) (rows : List Row) → count_if p (joined (by_member i n rows))
      ≡ count_if (λ r. in_range i n r.key.member && p r) rows
  unfolding in_range
  count-by_member zero i rows = none_counted rows
  count-by_member (suc n) i rows =
      let a = count-append p (rows_of_member i rows) (joined (by_member (suc i) n rows)) in
      let b = count-filter p (λ r. r.key.member == i) rows in
      let c = count-by_member n (suc i) rows in
      let d = both_ranges i n rows in
      omega arith

  all_counted : (n : ℕ) (rows : List Row) → AllIn (λ r. r.key.member < n) rows → count_if (λ r. in_range 0 n r.key.member && p r) rows
      ≡ count_if p rows
  all_counted n [] h = refl
  all_counted n (r ∷ rows) h =
      let yes = all_low n 0 r.key.member (omega arith) (let l = h.0 in omega arith) in
      let a : one_if (in_range 0 n r.key.member && p r) ≡ one_if (p r) = ap (λ b. one_if (b && p r)) yes in
      let b = all_counted n rows h.1 in
      omega arith

in_cond : {A : Type 0} (z x : A) (xs ys : List A) → (In z ys → In z xs) → (b : Bool) → In z (cond b (x ∷ ys) ys) → (x ≡ z) ⊎ In z xs
in_cond z x xs ys again true (inl e) = inl e
in_cond z x xs ys again true (inr g) = inr (again g)
in_cond z x xs ys again false g = inr (again g)

in_filter : {A : Type 0} (q : A → Bool) (z : A) (xs : List A) → In z (filter q xs) → In z xs
in_filter q z [] h = h
in_filter q z (x ∷ xs) h = in_cond z x xs (filter q xs) (λ g. in_filter q z xs g) (q x) h

in_joined : (z : Row) (n i : ℕ) (rows : List Row) → In z (joined (by_member i n rows)) → In z rows
in_joined z zero i rows h = absurd h
in_joined z (suc n) i rows h = elim (in_append z (rows_of_member i rows) (joined (by_member (suc i) n rows)) h) [
  | inl g ↦ in_filter (λ r. r.key.member == i) z rows g
  | inr g ↦ in_joined z n (suc i) rows g
]

-- ---- what a permutation keeps

pub count-sum_by : {A : Type 0} (p : A → Bool) (xs : List A) → count_if p xs ≡ sum_by (λ x. one_if (p x)) xs
count-sum_by p [] = refl
count-sum_by p (x ∷ xs) = ap (λ n. one_if (p x) + n) (count-sum_by p xs) ∙ sym (sum_by-cons (λ x. one_if (p x)) x xs)

in_each : {A : Type 0} (Q : A → Type 0) (xs : List A) → ((z : A) → In z xs → Q z) → AllByRecursion Q xs
in_each Q [] h = tt
in_each Q (x ∷ xs) h = (h x (inl refl), in_each Q xs (λ z g. h z (inr g)))

each_in : {A : Type 0} (Q : A → Type 0) (z : A) (xs : List A) → AllByRecursion Q xs → In z xs → Q z
each_in Q z [] h g = absurd g
each_in Q z (x ∷ xs) h (inl e) = subst Q e h.0
each_in Q z (x ∷ xs) h (inr g) = each_in Q z xs h.1 g

ascends_second : (xs ys : List Row) → Ascends row_cmp (xs ++ ys) → Ascends row_cmp ys
ascends_second [] ys h = h
ascends_second (x ∷ xs) ys h = ascends_second xs ys h.1

module _ (s : Setting) (fit : IsFit s) where
  pub seq_members : {till : ℕ} {cs ds : List PlainCell} {rows : List Row} → Seq s till cs rows ds → Good s fit cs
      → AllIn (λ r. r.key.member < s.traffic.members) rows
  seq_members rest good = tt
  seq_members {till} (next {cs = cs} {e = e} {d = d} h x more) good =
      let f = step_facts s fit till cs e d h x in (
        subst (λ (k : Key). k.member < s.traffic.members) (sym f.key) (member_below s fit till cs e d good h x),
        seq_members more (good_step s fit till cs e d good h x),
      )

pub merges_agree : MergesAgree
merges_agree s w v fit reached n h rows rises perm =
    let good = good_reached s fit reached.0 w reached.1 in
    let r = run_seq s fit n w v h in
    let again : run s n w ≡ Done (record { cells = v.cells; trace = w.trace ++ r.0 }) =
    ap (λ k. run s k w) (sym r.2) ∙ seq_run s s.traffic.until (le_refl s.traffic.until) r.1 w.trace in
    let same_worlds : ◌≡◌ {A = StepOutcome World} (Done (record { cells = v.cells; trace = w.trace ++ r.0 })) (Done v) = sym again ∙ h in
    let worlds : ◌≡◌ {A = World} (record { cells = v.cells; trace = w.trace ++ r.0 }) v = cc in
    let trace : w.trace ++ r.0 ≡ v.trace = ap (λ (u : World). u.trace) worlds in
    let new : new_rows w v ≡ r.0 = ap (λ t. drop (length w.trace) t) (sym trace) ∙ drop-append_seam w.trace r.0 in
    let all_rise = keys_rise s v fit (reached.0 + n, run_on s reached.0 n (opening s) w reached.1 ∙ h) in
    let rise : Ascends row_cmp (new_rows w v) = subst (Ascends row_cmp) (sym new)
    (ascends_second w.trace r.0 (subst (Ascends row_cmp) (sym trace) all_rise)) in
    let members : AllIn (λ r. r.key.member < s.traffic.members) (new_rows w v) =
    subst (AllIn (λ r. r.key.member < s.traffic.members)) (sym new) (seq_members s fit r.1 good) in
    let parts = joined (by_member 0 s.traffic.members (new_rows w v)) in
    same_merge row_cmp (row_total s 0) (new_rows w v) rows rise rises
    (λ k.
    let p = λ (x : Row). is_eq (row_cmp k x) in
    count-sum_by p rows ∙ sum_by-IsPermutation (λ x. one_if (p x)) parts rows perm ∙ sym (count-sum_by p parts)
    ∙ count-by_member p s.traffic.members 0 (new_rows w v) ∙ all_counted p s.traffic.members (new_rows w v) members)
    (λ z g.
    let Q = λ (x : Row). In x (new_rows w v) in
    each_in Q z rows (recursion_from_All Q rows (All-permutation Q parts rows perm
    (All-from_recursion Q parts (in_each Q parts (λ x i. in_joined x s.traffic.members 0 (new_rows w v) i))))) g)
