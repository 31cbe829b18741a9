-- Lists that ascend and have the same elements are one.
use Rattle.std.proofs.Common.{◌≡◌, ◌⊎◌, ◌↔◌, zero, suc, List, [], ◌∷◌, Contains, Ordering, Less, Greater, refl}
use Rattle.std.proofs.Common.{sym, ap, ◌∙◌, subst, inl, inr, arith}
use Rattle.std.specs.Cmp.{IsTotalOrder}
use Rattle.std.specs.Ordering.{ordering_reverse}
use Rattle.srm_net.specs.declared.link.DropSpec.{DropSpec}
use Rattle.srm_net.specs.DropSets.{ordered_once}
use Rattle.srm_net.specs.Orders.{AllAfter, Ascends}
use Rattle.srm_net.specs.Paths.{drop_cmp}
use Rattle.srm_net.proofs.DropLemmas.{drops_ascend, listed_ordered, contains_listed, listed_contains}
use Rattle.srm_net.proofs.TotalOrders.{drop_total}

Among : {A : Type 0} → A → List A → Type 0
Among x [] = ⊥
Among x (y ∷ ys) = (x ≡ y) ⊎ Among x ys

contains_among : {A : Type 0} (xs : List A) (x : A) → Contains xs x → Among x xs
unfolding Among
contains_among [] x (k, lt, is) = absurd (omega arith)
contains_among (y ∷ ys) x (zero, lt, is) = inl (sym is)
contains_among (y ∷ ys) x (suc k, lt, is) = inr (contains_among ys x (k, omega arith, is))

among_contains : {A : Type 0} (xs : List A) (x : A) → Among x xs → Contains xs x
unfolding Among
among_contains [] x h = absurd h
among_contains (y ∷ ys) x (inl e) = (zero, omega arith, sym e)
among_contains (y ∷ ys) x (inr h) = let r = among_contains ys x h in (suc r.0, omega arith, r.2)

module _ {A : Type 0} (cmp : A → A → Ordering) (o : IsTotalOrder cmp) where
  after_among : (x y : A) (ys : List A) → AllAfter cmp x ys → Among y ys → cmp x y ≡ Less
  unfolding Among
  after_among x y [] h a = absurd a
  after_among x y (z ∷ zs) h (inl e) = subst (λ t. cmp x t ≡ Less) (sym e) h.0
  after_among x y (z ∷ zs) h (inr a) = after_among x y zs h.1 a

  not_both : (x y : A) → cmp x y ≡ Less → cmp y x ≡ Less → ⊥
  not_both x y p q =
      let e : Less ≡ Greater = sym p ∙ o.antisymm x y ∙ ap ordering_reverse q in cc

  tail_among : (x : A) (xs ys : List A) → AllAfter cmp x xs → ((d : A) → Among d (x ∷ xs) → Among d (x ∷ ys)) → (d : A) → Among d xs
      → Among d ys
  unfolding Among
  tail_among x xs ys after all d a = grind (arith, after_among)

  one_list : (xs ys : List A) → Ascends cmp xs → Ascends cmp ys → ((d : A) → Among d xs → Among d ys) → ((d : A) → Among d ys → Among d xs)
      → xs ≡ ys
  unfolding Among
  one_list [] [] up vp f g = refl
  one_list [] (y ∷ ys) up vp f g = absurd (g y (inl refl))
  one_list (x ∷ xs) [] up vp f g = absurd (f x (inl refl))
  one_list (x ∷ xs) (y ∷ ys) up vp f g =
      let heads : x ≡ y = elim (f x (inl refl)) [
        | inl e ↦ e
        | inr a ↦ elim (g y (inl refl)) [
          | inl e ↦ sym e
          | inr b ↦ absurd (not_both x y (after_among x y xs up.0 b) (after_among y x ys vp.0 a))
        ]
      ] in
      let P : A → Type 0 = λ t. AllAfter cmp t ys in
      let vp0 : AllAfter cmp x ys = subst P (sym heads) vp.0 in
      let there : (d : A) → Among d (x ∷ xs) → Among d (x ∷ ys) = subst (λ t. (d : A) → Among d (x ∷ xs) → Among d (t ∷ ys))
      (sym heads) f in
      let back : (d : A) → Among d (x ∷ ys) → Among d (x ∷ xs) = subst (λ t. (d : A) → Among d (t ∷ ys) → Among d (x ∷ xs)) (sym heads) g in
      ap (λ (t : A). t ∷ xs) heads ∙ ap (λ (l : List A). y ∷ l)
      (one_list xs ys up.1 vp.1 (tail_among x xs ys up.0 there) (tail_among x ys xs vp0 back))

-- drops that ascend, and are those listed, are the listed ones in order, each once
pub drops_once : (xs listed : List DropSpec) → Ascends drop_cmp xs → ((d : DropSpec) → Contains xs d ↔ Contains listed d) → xs
    ≡ ordered_once drop_cmp listed
unfolding Among
drops_once xs listed up same =
    one_list drop_cmp drop_total xs (ordered_once drop_cmp listed) up (drops_ascend listed)
    (λ d a. contains_among _ d (contains_listed (ordered_once drop_cmp listed) d
    (listed_ordered listed d.id d.link ∙ listed_contains listed d ((same d).0 (among_contains xs d a)))))
    (λ d a. contains_among xs d ((same d).1 (contains_listed listed d
    (sym (listed_ordered listed d.id d.link) ∙ listed_contains (ordered_once drop_cmp listed) d (among_contains _ d a)))))
