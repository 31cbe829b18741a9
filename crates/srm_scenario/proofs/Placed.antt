-- Lists that are put in order, where no two elements are equal to the order.
use Rattle.std.proofs.Common.{arith}
use Rattle.std.proofs.Common.{◌≡◌, ◌≢◌, Bool, true, false, cond, List, [], ◌∷◌, ◌++◌, refl, Ordering, Less}
use Rattle.std.proofs.Common.{Equal, is_lt}
use Rattle.std.specs.Cmp.{IsTotalOrder}
use Rattle.std.specs.List.{AllByRecursion}
use Rattle.srm_net.specs.Orders.{place, ordered, Ascends}
use Rattle.srm_net.proofs.Basics.{is_Less, after_place, after_less}

-- no two elements are equal to the order
abbrev pub Apart : {A : Type 0} → (A → A → Ordering) → List A → Type 0
Apart cmp [] = Unit {0}
Apart cmp (x ∷ xs) = AllByRecursion (λ y. cmp x y ≢ Equal) xs × Apart cmp xs

-- what holds of all the elements holds of them with one more among them
all_cond : {A : Type 0} (P : A → Type 0) (b : Bool) (xs ys : List A) → AllByRecursion P xs → AllByRecursion P ys
    → AllByRecursion P (cond b xs ys)
all_cond P true xs ys h g = h
all_cond P false xs ys h g = g

pub all_place : {A : Type 0} (cmp : A → A → Ordering) (P : A → Type 0) (x : A) (ys : List A) → P x → AllByRecursion P ys
    → AllByRecursion P (place cmp x ys)
all_place cmp P x [] h g = (h, tt)
all_place cmp P x (y ∷ ys) h g =
    all_cond P (is_lt (cmp y x)) (y ∷ place cmp x ys) (x ∷ y ∷ ys) (g.0, all_place cmp P x ys h g.1) (h, g)

pub all_ordered : {A : Type 0} (cmp : A → A → Ordering) (P : A → Type 0) (xs : List A) → AllByRecursion P xs
    → AllByRecursion P (ordered cmp xs)
all_ordered cmp P [] h = tt
all_ordered cmp P (x ∷ xs) h = all_place cmp P x (ordered cmp xs) h.0 (all_ordered cmp P xs h.1)

pub all_append : {A : Type 0} (P : A → Type 0) (xs ys : List A) → AllByRecursion P xs → AllByRecursion P ys → AllByRecursion P (xs ++ ys)
all_append P [] ys h g = g
all_append P (x ∷ xs) ys h g = (h.0, all_append P xs ys h.1 g)

pub all_weaker : {A : Type 0} (P Q : A → Type 0) → ((x : A) → P x → Q x) → (xs : List A) → AllByRecursion P xs → AllByRecursion Q xs
all_weaker P Q f [] h = tt
all_weaker P Q f (x ∷ xs) h = (f x h.0, all_weaker P Q f xs h.1)

pub apart_append : {A : Type 0} (cmp : A → A → Ordering) (xs ys : List A)
    → Apart cmp xs → Apart cmp ys → AllByRecursion (λ x. AllByRecursion (λ y. cmp x y ≢ Equal) ys) xs → Apart cmp (xs ++ ys)
apart_append cmp [] ys h g f = g
apart_append cmp (x ∷ xs) ys h g f = (all_append _ xs ys h.0 f.0, apart_append cmp xs ys h.1 g f.1)

module _ {A : Type 0} (cmp : A → A → Ordering) (o : IsTotalOrder cmp) where
  -- not less and not equal is greater
  is_after : (x y : A) → is_lt (cmp y x) ≡ false → cmp x y ≢ Equal → cmp x y ≡ Less
  is_after x y h n = grind arith

  ascends_place : (x : A) (ys : List A) → AllByRecursion (λ y. cmp x y ≢ Equal) ys → Ascends cmp ys → Ascends cmp (place cmp x ys)
  ascends_place x [] n h = (tt, tt)
  ascends_place x (y ∷ ys) n h = elim (is_lt (cmp y x)) as (λ b. is_lt (cmp y x) ≡ b → Ascends cmp (place cmp x (y ∷ ys))) [
    | true ↦ λ e. rw e (after_place cmp o y x ys (is_Less _ e) h.0, ascends_place x ys n.1 h.1)
    | false ↦ λ e. rw e (let l : cmp x y ≡ Less = is_after x y e n.0 in ((l, after_less cmp o x y ys l h.0), h))
  ] refl

  -- in order they ascend
  pub ascends_ordered : (xs : List A) → Apart cmp xs → Ascends cmp (ordered cmp xs)
  ascends_ordered [] h = tt
  ascends_ordered (x ∷ xs) h = ascends_place x (ordered cmp xs) (all_ordered cmp _ xs h.0) (ascends_ordered xs h.1)
