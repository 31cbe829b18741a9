-- Entries of finite maps in the order of their keys, and lists in that order.
use Rattle.std.proofs.Common.{◌≡◌, ◌∙◌, ℕ, zero, suc, ◌<◌, Bool, true, false, cond, T, ◌&&◌, ◌||◌, List, [], ◌∷◌, ◌++◌, length, map, take}
use Rattle.std.proofs.Common.{get_or, arith, Some, None}
use Rattle.std.proofs.Common.{refl, ap, sym, subst, true≢false, Ordering, Less, Equal, Greater, is_lt}
use Rattle.std.specs.List.{list_any}
use Rattle.std.specs.Ordering.{eq_by_cmp, is_eq, ordering_reverse}
use Rattle.std.specs.Cmp.{IsTotalOrder}
use Rattle.std.specs.FinMap.Entries.{put, find, is_sorted, below_all, by_order}
use Rattle.std.proofs.lemmas.Cmp.{tied_itself}
use Rattle.srm_net.specs.Orders.{place, ordered}
use Rattle.srm_net.proofs.Basics.{T_first, T_second, T_less, or_turn}
use Rattle.srm_member.proofs.OrderLemmas.{place-comm}

pub first_false : (a b : Bool) → (a || b) ≡ false → a ≡ false
first_false true b h = h
first_false false b h = refl

pub second_false : (a b : Bool) → (a || b) ≡ false → b ≡ false
second_false true b h = absurd (true≢false h)
second_false false b h = h

T_both : (a b : Bool) → T a → T b → T (a && b)
T_both true b p q = q
T_both false b p q = p

-- ---- entries

module _ {K V : Type 0} (cmp : K → K → Ordering) (total : IsTotalOrder cmp) where
  abbrev keys : List (K × V) → List K
  keys es = map (λ e. e.0) es

  -- a new entry takes its place among the keys
  pub keys_put : (k : K) (c : V) (es : List (K × V)) → find cmp k es ≡ None → keys (put cmp k c es) ≡ place cmp k (keys es)
  keys_put k c [] none = refl
  keys_put k c (e ∷ es) none =
      elim (cmp k e.0) as (λ o. cmp k e.0 ≡ o → keys (by_order o ((k, c) ∷ e ∷ es) ((e.0, c) ∷ es) (e ∷ put cmp k c es))
      ≡ place cmp k (e.0 ∷ keys es)) [
        | Less ↦ λ q. ap (λ b. cond b (e.0 ∷ place cmp k (keys es)) (k ∷ e.0 ∷ keys es))
            (sym (ap is_lt (total.antisymm e.0 k ∙ ap ordering_reverse q)))
        | Equal ↦ λ q. let n : Some e.1 ≡ None = sym (ap (λ o. cond (is_eq o) (Some e.1) (find cmp k es)) q) ∙ none in cc
        | Greater ↦ λ q.
            ap (λ ks. e.0 ∷ ks) (keys_put k c es (sym (ap (λ o. cond (is_eq o) (Some e.1) (find cmp k es)) q) ∙ none))
            ∙ ap (λ b. cond b (e.0 ∷ place cmp k (keys es)) (k ∷ e.0 ∷ keys es))
            (sym (ap is_lt (total.antisymm e.0 k ∙ ap ordering_reverse q)))
      ] refl

  below_less : (k x : K) (es : List (K × V)) → cmp k x ≡ Less → T (below_all cmp x es) → T (below_all cmp k es)
  below_less k x [] q h = tt
  below_less k x (e ∷ es) q h =
      T_both _ _ (subst (λ o. T (is_lt o)) (sym (total.trans k x e.0 q (T_less _ (T_first _ _ h)))) tt)
      (below_less k x es q (T_second _ _ h))

  pub below_none : (k : K) (es : List (K × V)) → T (below_all cmp k es) → find cmp k es ≡ None
  below_none k [] h = refl
  below_none k (e ∷ es) h = ap (λ o. cond (is_eq o) (Some e.1) (find cmp k es)) (T_less _ (T_first _ _ h))
      ∙ below_none k es (T_second _ _ h)

  -- an entry put in anew leaves the keys as they are
  pub keys_same : (k : K) (c : V) (es : List (K × V)) → T (is_sorted cmp es) → (old : V) → find cmp k es ≡ Some old
      → keys (put cmp k c es) ≡ keys es
  keys_same k c [] s old h = cc
  keys_same k c (e ∷ es) s old h =
      elim (cmp k e.0) as (λ o. cmp k e.0 ≡ o → keys (by_order o ((k, c) ∷ e ∷ es) ((e.0, c) ∷ es) (e ∷ put cmp k c es))
      ≡ e.0 ∷ keys es) [
        | Less ↦ λ q.
            let none = below_none k es (below_less k e.0 es q (T_first _ _ s)) in
            let n : None ≡ Some old = sym none ∙ sym (ap (λ o. cond (is_eq o) (Some e.1) (find cmp k es)) q) ∙ h in
            cc
        | Equal ↦ λ q. refl
        | Greater ↦ λ q. ap (λ ks. e.0 ∷ ks) (keys_same k c es (T_second _ _ s) old
            (sym (ap (λ o. cond (is_eq o) (Some e.1) (find cmp k es)) q) ∙ h))
      ] refl

  -- each entry is found, and not before its place

  below_at : (x : K) (es : List (K × V)) → T (below_all cmp x es) → (i : ℕ) (d : K × V) → i < length es
      → eq_by_cmp cmp (get_or es i d).0 x ≡ false
  below_at x [] h i d l = absurd (omega arith)
  below_at x (e ∷ es) h zero d l = ap is_eq (total.antisymm e.0 x ∙ ap ordering_reverse (T_less _ (T_first _ _ h)))
  below_at x (e ∷ es) h (suc i) d l = below_at x es (T_second _ _ h) i d (omega arith)

  pub found : (es : List (K × V)) → T (is_sorted cmp es) → (i : ℕ) (d : K × V) → i < length es
      → find cmp (get_or es i d).0 es ≡ Some (get_or es i d).1
  found [] s i d l = absurd (omega arith)
  found (e ∷ es) s zero d l = ap (λ o. cond (is_eq o) (Some e.1) (find cmp e.0 es)) (tied_itself total e.0)
  found (e ∷ es) s (suc i) d l =
      ap (λ b. cond b (Some e.1) (find cmp (get_or es i d).0 es)) (below_at e.0 es (T_first _ _ s) i d (omega arith))
      ∙ found es (T_second _ _ s) i d (omega arith)

  pub not_before : (es : List (K × V)) → T (is_sorted cmp es) → (i : ℕ) (d : K × V) → i < length es
      → find cmp (get_or es i d).0 (take i es) ≡ None
  not_before [] s i d l = absurd (omega arith)
  not_before (e ∷ es) s zero d l = refl
  not_before (e ∷ es) s (suc i) d l =
      ap (λ b. cond b (Some e.1) (find cmp (get_or es i d).0 (take i es))) (below_at e.0 es (T_first _ _ s) i d (omega arith))
      ∙ not_before es (T_second _ _ s) i d (omega arith)

-- ---- order

module _ {K : Type 0} (cmp : K → K → Ordering) (total : IsTotalOrder cmp) where
  pub ordered_push : (xs : List K) (x : K) → list_any (eq_by_cmp cmp x) xs ≡ false
      → ordered cmp (xs ++ x ∷ []) ≡ place cmp x (ordered cmp xs)
  ordered_push [] x h = refl
  ordered_push (y ∷ ys) x h =
      ap (place cmp y) (ordered_push ys x (second_false (eq_by_cmp cmp x y) _ h))
      ∙ place-comm cmp total y x
      (λ e. true≢false (sym (ap is_eq (total.antisymm x y ∙ ap ordering_reverse e)) ∙ first_false _ _ h)) (ordered cmp ys)

  any_cond : (p : K → Bool) (b : Bool) (x y : K) (xs ys : List K) → list_any p xs ≡ (p x || list_any p ys)
      → list_any p (cond b (y ∷ xs) (x ∷ y ∷ ys)) ≡ (p x || (p y || list_any p ys))
  any_cond p true x y xs ys h = ap (λ b. p y || b) h ∙ or_turn (p y) (p x) (list_any p ys)
  any_cond p false x y xs ys h = refl

  any_place : (p : K → Bool) (x : K) (ys : List K) → list_any p (place cmp x ys) ≡ (p x || list_any p ys)
  any_place p x [] = refl
  any_place p x (y ∷ ys) = any_cond p (is_lt (cmp y x)) x y (place cmp x ys) ys (any_place p x ys)

  pub any_ordered : (p : K → Bool) (xs : List K) → list_any p (ordered cmp xs) ≡ list_any p xs
  any_ordered p [] = refl
  any_ordered p (x ∷ xs) = any_place p x (ordered cmp xs) ∙ ap (λ b. p x || b) (any_ordered p xs)
