-- Facts about each element of a list.
use Rattle.std.proofs.Common.{zero, suc, All, arith, Bool, true, false, cond, List, [], ◌∷◌, ◌++◌, map, filter, Ordering}
use Rattle.std.proofs.Common.{is_lt}
use Rattle.std.specs.FinMap.Entries.{put, by_order}
use Rattle.srm_net.specs.Orders.{place}

abbrev pub AllIn : {A : Type 0} → (A → Type 0) → List A → Type 0
AllIn Q [] = Unit {0}
AllIn Q (x ∷ xs) = Q x × AllIn Q xs

module _ {A : Type 0} (Q : A → Type 0) where
  pub AllIn-append : (xs ys : List A) → AllIn Q xs → AllIn Q ys → AllIn Q (xs ++ ys)
  AllIn-append [] ys h g = g
  AllIn-append (x ∷ xs) ys h g = (h.0, AllIn-append xs ys h.1 g)

  pub AllIn-first : (xs ys : List A) → AllIn Q (xs ++ ys) → AllIn Q xs
  AllIn-first [] ys h = tt
  AllIn-first (x ∷ xs) ys h = (h.0, AllIn-first xs ys h.1)

  pub AllIn-second : (xs ys : List A) → AllIn Q (xs ++ ys) → AllIn Q ys
  AllIn-second [] ys h = h
  AllIn-second (x ∷ xs) ys h = AllIn-second xs ys h.1

  AllIn-cond : (b : Bool) (xs ys : List A) → AllIn Q xs → AllIn Q ys → AllIn Q (cond b xs ys)
  AllIn-cond true xs ys h g = h
  AllIn-cond false xs ys h g = g

  pub AllIn-filter : (p : A → Bool) (xs : List A) → AllIn Q xs → AllIn Q (filter p xs)
  AllIn-filter p [] h = tt
  AllIn-filter p (x ∷ xs) h = AllIn-cond (p x) (x ∷ filter p xs) (filter p xs) (h.0, AllIn-filter p xs h.1) (AllIn-filter p xs h.1)

  pub AllIn-place : (cmp : A → A → Ordering) (x : A) (xs : List A) → Q x → AllIn Q xs → AllIn Q (place cmp x xs)
  AllIn-place cmp x [] q h = (q, tt)
  AllIn-place cmp x (y ∷ ys) q h = AllIn-cond (is_lt (cmp y x)) (y ∷ place cmp x ys) (x ∷ y ∷ ys) (h.0, AllIn-place cmp x ys q h.1) (q, h)

pub AllIn-map : {A B : Type 0} (Q : B → Type 0) (f : A → B) (xs : List A) → AllIn (λ x. Q (f x)) xs → AllIn Q (map f xs)
AllIn-map Q f [] h = tt
AllIn-map Q f (x ∷ xs) h = (h.0, AllIn-map Q f xs h.1)

pub AllIn-unmap : {A B : Type 0} (Q : B → Type 0) (f : A → B) (xs : List A) → AllIn Q (map f xs) → AllIn (λ x. Q (f x)) xs
AllIn-unmap Q f [] h = tt
AllIn-unmap Q f (x ∷ xs) h = (h.0, AllIn-unmap Q f xs h.1)

module _ {K V : Type 0} (Q : (K × V) → Type 0) (cmp : K → K → Ordering) where
  AllIn-order : (r : Ordering) (a b c : List (K × V)) → AllIn Q a → AllIn Q b → AllIn Q c → AllIn Q (by_order r a b c)
  AllIn-order r a b c h g f = grind arith

  pub AllIn-put : (k : K) (v : V) (es : List (K × V)) → ((x : K) → Q (x, v)) → AllIn Q es → AllIn Q (put cmp k v es)
  AllIn-put k v [] q h = (q k, tt)
  AllIn-put k v (e ∷ es) q h = AllIn-order (cmp k e.0) _ _ _ (q k, h) (q e.0, h.1) (h.0, AllIn-put k v es q h.1)

pub AllIn-weaker : {A : Type 0} (P Q : A → Type 0) → ((x : A) → P x → Q x) → (xs : List A) → AllIn P xs → AllIn Q xs
AllIn-weaker P Q f [] h = tt
AllIn-weaker P Q f (x ∷ xs) h = (f x h.0, AllIn-weaker P Q f xs h.1)

pub AllIn-each : {A : Type 0} (Q : A → Type 0) → ((x : A) → Q x) → (xs : List A) → AllIn Q xs
AllIn-each Q f [] = tt
AllIn-each Q f (x ∷ xs) = (f x, AllIn-each Q f xs)

pub AllIn-both : {A : Type 0} (P Q R : A → Type 0) → ((x : A) → P x → Q x → R x) → (xs : List A) → AllIn P xs → AllIn Q xs → AllIn R xs
AllIn-both P Q R f [] h g = tt
AllIn-both P Q R f (x ∷ xs) h g = (f x h.0 g.0, AllIn-both P Q R f xs h.1 g.1)

-- ---- by places

pub AllIn-places : {A : Type 0} (Q : A → Type 0) (xs : List A) → AllIn Q xs → All Q xs
AllIn-places Q [] h k d lt = absurd (omega arith)
AllIn-places Q (x ∷ xs) h zero d lt = h.0
AllIn-places Q (x ∷ xs) h (suc k) d lt = AllIn-places Q xs h.1 k d (omega arith)

pub AllIn-at_places : {A : Type 0} (Q : A → Type 0) (xs : List A) → All Q xs → AllIn Q xs
AllIn-at_places Q [] h = tt
AllIn-at_places Q (x ∷ xs) h = (h zero x (omega arith), AllIn-at_places Q xs (λ k d lt. h (suc k) d (omega arith)))
