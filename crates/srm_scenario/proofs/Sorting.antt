-- A stable sort puts a list in the order that `ordered` gives.
use Rattle.std.proofs.Common.{arith}
use Rattle.std.proofs.Common.{◌≡◌, ℕ, zero, suc, ◌<◌, ◌≤◌, Bool, true, false, not, ◌&&◌, cond, List, [], ◌∷◌, length, get_or, filter}
use Rattle.std.proofs.Common.{Ordering, is_lt, refl, sym, ap, ◌∙◌, inl, inr, suc-le-suc, zero-le}
use Rattle.std.proofs.lemmas.Bool.{cond-true, cond-false, cases_Bool, false≢true}
use Rattle.std.proofs.lemmas.List.Sorted.{sorted_far}
use Rattle.std.specs.Cmp.{IsStrictWeakOrder}
use Rattle.std.specs.List.Sorted.{ties, IsSortedBy, IsStableBy}
use Rattle.srm_net.specs.Orders.{place, ordered, NoneBelow, Rises}

module _ {X : Type 0} (cmp : X → X → Ordering) (o : IsStrictWeakOrder (λ x y. is_lt (cmp x y))) where
  abbrev lt : X → X → Bool
  lt x y = is_lt (cmp x y)

  abbrev alike : X → X → Bool
  alike = ties lt

  parts : (x y : X) (a b : Bool) → lt x y ≡ a → lt y x ≡ b → alike x y ≡ true → (lt x y ≡ false) × (lt y x ≡ false)
  parts x y true b p q h = absurd (false≢true (ap (λ (c : Bool). not c && not (lt y x)) (sym p) ∙ h))
  parts x y false true p q h = absurd (false≢true ((λ i. not (sym p i) && not (sym q i)) ∙ h))
  parts x y false false p q h = (p, q)

  alike-parts : (x y : X) → alike x y ≡ true → (lt x y ≡ false) × (lt y x ≡ false)
  alike-parts x y = parts x y _ _ refl refl

  alike-from : (x y : X) → lt x y ≡ false → lt y x ≡ false → alike x y ≡ true
  alike-from x y p q = λ i. not (p i) && not (q i)

  never : (x : X) → lt x x ≡ false
  never x = grind arith

  kept : (p : X → Bool) (y : X) (ys : List X) → p y ≡ true → filter p (y ∷ ys) ≡ y ∷ filter p ys
  kept p y ys h = cond-true _ _ _ h

  dropped : (p : X → Bool) (y : X) (ys : List X) → p y ≡ false → filter p (y ∷ ys) ≡ filter p ys
  dropped p y ys h = cond-false _ _ _ h

  past : (x y : X) (ys : List X) → lt y x ≡ true → place cmp x (y ∷ ys) ≡ y ∷ place cmp x ys
  past x y ys h = cond-true _ _ _ h

  stays : (x y : X) (ys : List X) → lt y x ≡ false → place cmp x (y ∷ ys) ≡ x ∷ y ∷ ys
  stays x y ys h = cond-false _ _ _ h

  -- what is alike both x and y makes neither less
  no_third : (x y z : X) → lt y x ≡ true → alike z x ≡ true → alike z y ≡ true → ⊥
  no_third x y z h p q = false≢true (sym (o.chain y z x (alike-parts z y q).1 (alike-parts z x p).0) ∙ h)

  filter-place : (z x : X) (l : List X) → filter (alike z) (place cmp x l) ≡ filter (alike z) (x ∷ l)
  filter-place z x [] = refl
  filter-place z x (y ∷ ys) =
      let p = alike z in
      elim (cases_Bool (lt y x)) [
        | inr other ↦ ap (filter p) (stays x y ys other)
        | inl less ↦
            ap (filter p) (past x y ys less)
            ∙ elim (cases_Bool (p y)) [
              | inr without ↦
                  dropped p y (place cmp x ys) without ∙ filter-place z x ys
                  ∙ ap (λ (l : List X). cond (p x) (x ∷ l) l) (sym (dropped p y ys without))
              | inl with ↦
                  elim (cases_Bool (p x)) [
                    | inl both ↦ absurd (no_third x y z less both with)
                    | inr only ↦
                        kept p y (place cmp x ys) with ∙ ap (λ (l : List X). y ∷ l) (filter-place z x ys ∙ dropped p x ys only)
                        ∙ sym (dropped p x (y ∷ ys) only ∙ kept p y ys with)
                  ]
            ]
      ]

  filter-ordered : (z : X) (xs : List X) → filter (alike z) (ordered cmp xs) ≡ filter (alike z) xs
  filter-ordered z [] = refl
  filter-ordered z (x ∷ xs) =
      filter-place z x (ordered cmp xs) ∙ ap (λ (l : List X). cond (alike z x) (x ∷ l) l) (filter-ordered z xs)

  NoneBelow-lower : (m n : X) (ys : List X) → lt m n ≡ false → NoneBelow cmp m ys → NoneBelow cmp n ys
  NoneBelow-lower m n [] h below = tt
  NoneBelow-lower m n (y ∷ ys) h below = (o.chain y m n below.0 h, NoneBelow-lower m n ys h below.1)

  NoneBelow-place : (n x : X) (ys : List X) → lt x n ≡ false → NoneBelow cmp n ys → NoneBelow cmp n (place cmp x ys)
  NoneBelow-place n x [] h below = (h, tt)
  NoneBelow-place n x (y ∷ ys) h below =
      elim (cases_Bool (lt y x)) [
        | inl less ↦ let P : List X → Type 0 = NoneBelow cmp n in rw (past x y ys less) (below.0, NoneBelow-place n x ys h below.1)
        | inr other ↦ rw (stays x y ys other) (h, below)
      ]

  Rises-place : (x : X) (ys : List X) → Rises cmp ys → Rises cmp (place cmp x ys)
  Rises-place x [] up = (tt, tt)
  Rises-place x (y ∷ ys) up =
      elim (cases_Bool (lt y x)) [
        | inl less ↦ rw (past x y ys less) (NoneBelow-place y x ys (o.one_way y x less) up.0, Rises-place x ys up.1)
        | inr other ↦ rw (stays x y ys other) ((other, NoneBelow-lower y x ys other up.0), up)
      ]

  -- the elements in order rise
  pub Rises-ordered : (xs : List X) → Rises cmp (ordered cmp xs)
  Rises-ordered [] = tt
  Rises-ordered (x ∷ xs) = Rises-place x (ordered cmp xs) (Rises-ordered xs)

  NoneBelow-at : (n : X) (ys : List X) → ((j : ℕ) → j < length ys → lt (get_or ys j n) n ≡ false) → NoneBelow cmp n ys
  NoneBelow-at n [] h = tt
  NoneBelow-at n (y ∷ ys) h = (h zero (suc-le-suc zero-le), NoneBelow-at n ys (λ j within. h (suc j) (suc-le-suc within)))

  AreFar : List X → Type 0
  AreFar ys = (i j : ℕ) (d : X) → i ≤ j → j < length ys → lt (get_or ys j d) (get_or ys i d) ≡ false

  Rises-from_far : (ys : List X) → AreFar ys → Rises cmp ys
  unfolding AreFar
  Rises-from_far [] h = tt
  Rises-from_far (y ∷ ys) h = (
    NoneBelow-at y ys (λ j within. h zero (suc j) y zero-le (suc-le-suc within)),
    Rises-from_far ys (λ i j d le within. h (suc i) (suc j) d (suc-le-suc le) (suc-le-suc within)),
  )

  -- what a sort leaves rises
  pub Rises-from_sort : (ys : List X) → IsSortedBy lt ys → Rises cmp ys
  unfolding AreFar
  Rises-from_sort ys up = Rises-from_far ys (sorted_far lt o ys up)

  -- some element is alike x
  NoneBelow-found : (n x : X) (ys : List X) (w : X) (ws : List X) → NoneBelow cmp n ys → filter (alike x) ys ≡ w ∷ ws → lt x n ≡ false
  NoneBelow-found n x [] w ws h e = cc
  NoneBelow-found n x (y ∷ ys) w ws h e =
      elim (cases_Bool (alike x y)) [
        | inl with ↦ o.chain x y n (alike-parts x y with).0 h.0
        | inr without ↦ NoneBelow-found n x ys w ws h.1 (sym (dropped (alike x) y ys without) ∙ e)
      ]

  -- lists that rise are one if what is alike stands in one order in both
  pub same_from_alike : (ys zs : List X) → Rises cmp ys → Rises cmp zs → ((x : X) → filter (alike x) ys ≡ filter (alike x) zs) → ys ≡ zs
  same_from_alike [] [] left right same = refl
  same_from_alike [] (z ∷ zs) left right same =
      let clash = same z ∙ kept (alike z) z zs (alike-from z z (never z) (never z)) in cc
  same_from_alike (y ∷ ys) [] left right same =
      let clash = sym (same y) ∙ kept (alike y) y ys (alike-from y y (never y) (never y)) in cc
  same_from_alike (y ∷ ys) (z ∷ zs) left right same =
      let at_y = kept (alike y) y ys (alike-from y y (never y) (never y)) in
      let at_z = kept (alike z) z zs (alike-from z z (never z) (never z)) in
      let up : lt y z ≡ false = NoneBelow-found z y (z ∷ zs) y _ (never z, right.0) (sym (same y) ∙ at_y) in
      let down : lt z y ≡ false = NoneBelow-found y z (y ∷ ys) z _ (never y, left.0) (same z ∙ at_z) in
      let heads = sym at_y ∙ same y ∙ kept (alike y) z zs (alike-from y z up down) in
      let head : y ≡ z = cc in
      let tails : (x : X) → filter (alike x) ys ≡ filter (alike x) zs =
      λ x. elim (cases_Bool (alike x y)) [
        | inl with ↦
            let both = sym (kept (alike x) y ys with) ∙ same x ∙ kept (alike x) z zs (ap (alike x) (sym head) ∙ with) in cc
        | inr without ↦
            sym (dropped (alike x) y ys without) ∙ same x ∙ dropped (alike x) z zs (ap (alike x) (sym head) ∙ without)
      ] in
      ap (λ (w : X). w ∷ ys) head ∙ ap (λ (l : List X). z ∷ l) (same_from_alike ys zs left.1 right.1 tails)

  -- a stable sort gives the elements in order
  pub ordered-from_sort : (xs ys : List X) → IsSortedBy lt ys → IsStableBy lt xs ys → ys ≡ ordered cmp xs
  ordered-from_sort xs ys sorted stable =
      same_from_alike ys (ordered cmp xs) (Rises-from_sort ys sorted) (Rises-ordered xs) (λ x. stable x ∙ sym (filter-ordered x xs))
