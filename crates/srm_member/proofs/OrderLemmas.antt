-- Lists kept in an order, and the orders of numbers and keys.
use Rattle.std.proofs.Common.{◌≡◌, ℕ, ◌≤◌, true, false, List, [], ◌∷◌, refl, sym, ap, ◌∙◌, ◌≢◌, arith, Ordering, Less, Equal, Greater}
use Rattle.std.proofs.Common.{nat_cmp, is_lt, true≢false, cond, Bool}
use Rattle.std.specs.Ordering.{ordering_then, ordering_reverse}
use Rattle.std.specs.Cmp.{IsTotalOrder}
use Rattle.srm_net.specs.Orders.{place, NoneBelow, Rises, AllAfter, Ascends}
use Rattle.srm_net.proofs.Basics.{is_Less}

pub not_less : (r : Ordering) → r ≡ Less → is_lt (ordering_reverse r) ≡ false
not_less r e = rw e

module _ {A : Type 0} (cmp : A → A → Ordering) (o : IsTotalOrder cmp) where
  pub lt-trans : (x y z : A) → is_lt (cmp x y) ≡ true → is_lt (cmp y z) ≡ true → is_lt (cmp x z) ≡ true
  lt-trans x y z h g = ap is_lt (o.trans x y z (is_Less _ h) (is_Less _ g))

  pub lt-asym : (x y : A) → is_lt (cmp x y) ≡ true → is_lt (cmp y x) ≡ false
  lt-asym x y h = ap is_lt (o.antisymm y x) ∙ not_less (cmp x y) (is_Less _ h)

  -- two elements, one less than the other, may be placed in either order
  pub place-swap : (x y : A) → is_lt (cmp x y) ≡ true → (zs : List A) → place cmp x (place cmp y zs) ≡ place cmp y (place cmp x zs)
  place-swap x y h [] = let g : is_lt (cmp y x) ≡ false = lt-asym x y h in rw (h, g)
  place-swap x y h (z ∷ zs) = let g : is_lt (cmp y x) ≡ false = lt-asym x y h in
      elim (is_lt (cmp z x)) as (λ b. is_lt (cmp z x) ≡ b → place cmp x (place cmp y (z ∷ zs)) ≡ place cmp y (place cmp x (z ∷ zs))) [
        | true ↦ λ zx. let zy : is_lt (cmp z y) ≡ true = lt-trans z x y zx h in simp (zx, zy) (ap (λ l. z ∷ l) (place-swap x y h zs))
        | false ↦ λ zx. elim (is_lt (cmp z y)) as (λ b. is_lt (cmp z y) ≡ b → place cmp x (place cmp y (z ∷ zs))
            ≡ place cmp y (place cmp x (z ∷ zs))) [
              | true ↦ λ zy. simp (zx, zy, h)
              | false ↦ λ zy. simp (zx, zy, h, g)
            ] refl
      ] refl

-- the same, whichever of the two is less
pub place-comm : {A : Type 0} (cmp : A → A → Ordering) (o : IsTotalOrder cmp) (x y : A) → cmp x y ≢ Equal → (zs : List A)
    → place cmp x (place cmp y zs) ≡ place cmp y (place cmp x zs)
place-comm cmp o x y apart zs = grind (arith, place-swap)

-- the first numbers are in order
pub head_le : (a b : ℕ) (o : Ordering) → ordering_then (nat_cmp a b) o ≢ Greater → a ≤ b
head_le a b o h = grind arith

-- ---- orders, where not less is the other way round

module _ {A : Type 0} (cmp : A → A → Ordering) (o : IsTotalOrder cmp) where
  -- x is not before k
  abbrev pub From : A → A → Type 0
  From k x = is_lt (cmp x k) ≡ false

  from_less : (k x : A) → cmp k x ≡ Less → From k x
  from_less k x h = lt-asym cmp o k x (ap is_lt h)

  pub from_not_greater : (k x : A) → cmp k x ≢ Greater → From k x
  from_not_greater k x h = grind arith

  pub from_greater : (k x : A) → cmp x k ≡ Greater → From k x
  from_greater k x h = ap is_lt h

  pub not_greater : (k x : A) → From k x → cmp k x ≢ Greater
  not_greater k x h g = true≢false (sym (ap is_lt (o.antisymm x k ∙ ap ordering_reverse g)) ∙ h)

  pub from_refl : (k : A) → From k k
  from_refl k = grind arith

  pub from_trans : (x y z : A) → From x y → From y z → From x z
  from_trans x y z h g = grind arith

  pub none_below_cond : (k : A) (b : Bool) (xs ys : List A) → NoneBelow cmp k xs → NoneBelow cmp k ys → NoneBelow cmp k (cond b xs ys)
  none_below_cond k true xs ys h g = h
  none_below_cond k false xs ys h g = g

  none_below_place : (k x : A) (ys : List A) → From k x → NoneBelow cmp k ys → NoneBelow cmp k (place cmp x ys)
  none_below_place k x [] h g = (h, tt)
  none_below_place k x (y ∷ ys) h g = none_below_cond k (is_lt (cmp y x))
      (y ∷ place cmp x ys) (x ∷ y ∷ ys) (g.0, none_below_place k x ys h g.1) (h, g)

  pub none_below_from : (k x : A) (ys : List A) → From k x → NoneBelow cmp x ys → NoneBelow cmp k ys
  none_below_from k x [] h g = tt
  none_below_from k x (y ∷ ys) h g = (from_trans k x y h g.0, none_below_from k x ys h g.1)

  pub rises_place : (x : A) (ys : List A) → Rises cmp ys → Rises cmp (place cmp x ys)
  rises_place x [] h = (tt, tt)
  rises_place x (y ∷ ys) h = elim (is_lt (cmp y x)) as (λ b. is_lt (cmp y x) ≡ b → Rises cmp (place cmp x (y ∷ ys))) [
    | true ↦ λ e. rw e (none_below_place y x ys (from_less y x (is_Less _ e)) h.0, rises_place x ys h.1)
    | false ↦ λ e. rw e ((e, none_below_from x y ys e h.0), h)
  ] refl

  none_below_after : (x : A) (ys : List A) → AllAfter cmp x ys → NoneBelow cmp x ys
  none_below_after x [] h = tt
  none_below_after x (y ∷ ys) h = (from_less x y h.0, none_below_after x ys h.1)

  pub rises : (xs : List A) → Ascends cmp xs → Rises cmp xs
  rises [] h = tt
  rises (x ∷ xs) h = (none_below_after x xs h.0, rises xs h.1)

  -- a list that rises is in order
  pub place_first : (x : A) (ys : List A) → NoneBelow cmp x ys → place cmp x ys ≡ x ∷ ys
  place_first x [] h = refl
  place_first x (y ∷ ys) h = let e = h.0 in rw e
