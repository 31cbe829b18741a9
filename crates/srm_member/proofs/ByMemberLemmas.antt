-- Lists in which each member's rows stand in the same order.
use Rattle.std.proofs.Common.{◌≡◌, ◌∙◌, ℕ, Bool, true, false, cond, ◌&&◌, List, [], ◌∷◌, ◌++◌, Some, refl, ap, sym, subst, filter}
use Rattle.std.proofs.Common.{◌==◌, eqb-true, eq-eqb, zero, suc, arith}
use Rattle.std.specs.List.{Contains}
use Rattle.std.specs.List as lists
use Rattle.std.proofs.lemmas.List.Elements.{filter-append, Contains-append_right}
use Rattle.srm_member.specs.declared.row.Row.{Row}
use Rattle.srm_member.specs.ByMember.{rows_of_member, AreAlike}

-- ---- what passes a test

module _ {A : Type 0} (p : A → Bool) where
  -- a list about an element that passes, which stands there among those that do
  pub record IsAbout (xs front : List A) (x : A) (back : List A) : Type 0 where
    pub before : List A
    pub after : List A
    pub is : xs ≡ before ++ x ∷ after
    pub front_is : filter p before ≡ front
    pub back_is : filter p after ≡ back
    pub passes : p x ≡ true

  later : (y : A) (ys front : List A) (x : A) (back : List A) (b : Bool) → p y ≡ b → IsAbout ys front x back
      → IsAbout (y ∷ ys) (cond b (y ∷ front) front) x back
  later y ys front x back b e h = record {
    before = y ∷ h.before;
    after = h.after;
    is = ap (λ l. y ∷ l) h.is;
    front_is = ap (λ t. cond t (y ∷ filter p h.before) (filter p h.before)) e ∙ ap (λ l. cond b (y ∷ l) l) h.front_is;
    back_is = h.back_is;
    passes = h.passes;
  }

  split_next : (y : A) (ys front : List A) (x : A) (back : List A)
      → ((rest : List A) → filter p ys ≡ rest ++ x ∷ back → IsAbout ys rest x back) → (b : Bool) → p y ≡ b
      → cond b (y ∷ filter p ys) (filter p ys) ≡ front ++ x ∷ back → IsAbout (y ∷ ys) front x back
  split_next y ys front x back again false h e = later y ys front x back false h (again front e)
  split_next y ys [] x back again true h e =
      let first : y ≡ x = cc in
      let rest : filter p ys ≡ back = cc in record {
        before = [];
        after = ys;
        is = ap (λ z. z ∷ ys) first;
        front_is = refl;
        back_is = rest;
        passes = ap p (sym first) ∙ h;
      }
  split_next y ys (f ∷ fs) x back again true h e =
      let first : y ≡ f = cc in
      let rest : filter p ys ≡ fs ++ x ∷ back = cc in
      subst (λ z. IsAbout (y ∷ ys) (z ∷ fs) x back) first (later y ys fs x back true h (again fs rest))

  pub split_filter : (xs front : List A) (x : A) (back : List A) → filter p xs ≡ front ++ x ∷ back → IsAbout xs front x back
  split_filter [] [] x back e = cc
  split_filter [] (f ∷ fs) x back e = cc
  split_filter (y ∷ ys) front x back e = split_next y ys front x back (λ rest h. split_filter ys rest x back h) (p y) refl e

  contains_cond : (b : Bool) (x y : A) (xs : List A) → Contains xs x → Contains (cond b (y ∷ xs) xs) x
  contains_cond true x y xs c = Contains-append_right (y ∷ []) xs x c
  contains_cond false x y xs c = c

  pub in_filter : (xs : List A) (x : A) → Contains xs x → p x ≡ true → Contains (filter p xs) x
  in_filter [] x c h = absurd (let l = c.1 in omega arith)
  in_filter (y ∷ ys) x (zero, l, e) h =
      let yes : p y ≡ true = ap p e ∙ h in
      let first : Contains (x ∷ filter p ys) x = (0, omega arith, refl) in
      subst (λ b. Contains (cond b (y ∷ filter p ys) (filter p ys)) x) (sym yes) (subst (λ z. Contains (z ∷ filter p ys) x) (sym e) first)
  in_filter (y ∷ ys) x (suc i, l, e) h = contains_cond (p y) x y (filter p ys) (in_filter ys x (i, omega arith, e) h)

  from_cond : (b : Bool) (x y : A) (xs ys : List A) → (Contains xs x → Contains ys x) → Contains (cond b (y ∷ xs) xs) x
      → Contains (y ∷ ys) x
  from_cond true x y xs ys h (zero, l, e) = (0, omega arith, e)
  from_cond true x y xs ys h (suc i, l, e) = Contains-append_right (y ∷ []) ys x (h (i, omega arith, e))
  from_cond false x y xs ys h c = Contains-append_right (y ∷ []) ys x (h c)

  pub from_filter : (xs : List A) (x : A) → Contains (filter p xs) x → Contains xs x
  from_filter [] x c = c
  from_filter (y ∷ ys) x c = from_cond (p y) x y (filter p ys) ys (λ d. from_filter ys x d) c

  pub find_filtered : (q : A → Bool) (xs : List A) → lists.find (λ x. p x && q x) xs ≡ lists.find q (filter p xs)
  find_filtered q [] = refl
  find_filtered q (x ∷ xs) = elim (p x) as
      (λ b. cond (b && q x) (Some x) (lists.find (λ x. p x && q x) xs) ≡ lists.find q (cond b (x ∷ filter p xs) (filter p xs))) [
        | true ↦ ap (λ o. cond (q x) (Some x) o) (find_filtered q xs)
        | false ↦ find_filtered q xs
      ]

-- ---- lists that are alike

itself : (r : Row) → (r.key.member == r.key.member) ≡ true
itself r = eq-eqb _ _ refl

-- the first of some rows stands somewhere among rows that are alike, and the others are alike
pub alike_first : (x : Row) (xs ys : List Row) → AreAlike (x ∷ xs) ys
    → (pre post : List Row) × (ys ≡ pre ++ x ∷ post) × AreAlike xs (pre ++ post)
alike_first x xs ys h =
    let m = x.key.member in
    let here : rows_of_member m ys ≡ [] ++ x ∷ rows_of_member m xs =
    sym (h m) ∙ ap (λ b. cond b (x ∷ rows_of_member m xs) (rows_of_member m xs)) (itself x) in
    let s = split_filter (λ (r : Row). r.key.member == m) ys [] x (rows_of_member m xs) here in (
      s.before,
      s.after,
      s.is,
      λ k.
          let p = λ (r : Row). r.key.member == k in
          let whole : cond (x.key.member == k) (x ∷ filter p xs) (filter p xs)
          ≡ filter p s.before ++ cond (x.key.member == k) (x ∷ filter p s.after) (filter p s.after) =
          h k ∙ ap (λ l. filter p l) s.is ∙ filter-append p s.before (x ∷ s.after) in
          elim (x.key.member == k) as (λ b. (x.key.member == k) ≡ b
          → cond b (x ∷ filter p xs) (filter p xs) ≡ filter p s.before ++ cond b (x ∷ filter p s.after) (filter p s.after)
          → filter p xs ≡ filter p (s.before ++ s.after)) [
            | true ↦ λ e w.
                let same : x.key.member ≡ k = eqb-true _ _ e in
                sym (subst (λ (n : ℕ). filter (λ (r : Row). r.key.member == n) s.after ≡ filter (λ (r : Row). r.key.member == n) xs) same
                s.back_is)
                ∙ ap (λ l. l ++ filter p s.after)
                (sym (subst (λ (n : ℕ). filter (λ (r : Row). r.key.member == n) s.before ≡ []) same s.front_is))
                ∙ sym (filter-append p s.before s.after)
            | false ↦ λ e w. w ∙ sym (filter-append p s.before s.after)
          ] refl whole,
    )

-- no row of any member is no row
pub alike_none : (ys : List Row) → AreAlike [] ys → ys ≡ []
alike_none [] h = refl
alike_none (y ∷ ys) h =
    let m = y.key.member in
    let e : [] ≡ y ∷ rows_of_member m ys = h m ∙ ap (λ b. cond b (y ∷ rows_of_member m ys) (rows_of_member m ys)) (itself y) in
    cc

-- what is made of rows alike where it does not matter where each row is added
pub same_of_alike : {B : Type 0} (F : List Row → B) (add : Row → B → B)
    → ((pre : List Row) (x : Row) (post : List Row) → F (pre ++ x ∷ post) ≡ add x (F (pre ++ post)))
    → (xs ys : List Row) → AreAlike xs ys → F xs ≡ F ys
same_of_alike F add law [] ys h = ap F (sym (alike_none ys h))
same_of_alike F add law (x ∷ xs) ys h =
    let a = alike_first x xs ys h in
    law [] x xs ∙ ap (add x) (same_of_alike F add law xs (a.0 ++ a.1) a.3) ∙ sym (law a.0 x a.1) ∙ ap F (sym a.2)
