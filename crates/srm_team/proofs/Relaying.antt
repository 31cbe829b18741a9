-- Items that are given to a team one after the other.
use Rattle.std.proofs.Common.{◌≡◌, ◌∙◌, ℕ, zero, suc, ◌+◌, ◌-◌, ◌<◌, ◌≤◌, List, [], ◌∷◌, ◌++◌, length, Option, Some, None, slice_get, drop}
use Rattle.std.proofs.Common.{refl, ap, sym, subst, arith, set, Result, Ok, Err, OnOk, length-append, append_assoc}
use Rattle.std.proofs.lemmas.List.{drop-append-le, drop-drop, length-drop}
use Rattle.std.specs.List.{All}
use Rattle.srm_team.specs.declared.batch.Batch.{Batch}
use Rattle.srm_team.specs.Rules.{Agree}
use Rattle.srm_team.specs.Relays.{items_of, IsAsked}
use Rattle.srm_team.specs.Tells.{Answers, Filled}
use Rattle.srm_team.proofs.Filling.{has, filled_set}

-- what stands at a place behind the first ones
pub get_behind : {A : Type 0} (xs : List A) (n p : ℕ) (a : A) → slice_get (drop n xs) p ≡ Some a → slice_get xs (n + p) ≡ Some a
get_behind [] zero p a h = cc
get_behind [] (suc n) p a h = cc
get_behind (x ∷ xs) zero p a h = subst (λ k. slice_get (x ∷ xs) k ≡ Some a) (omega arith) h
get_behind (x ∷ xs) (suc n) p a h =
    subst (λ k. slice_get (x ∷ xs) k ≡ Some a) {x = suc (n + p)} (omega arith) (get_behind xs n p a h)

slot_was : {D : Type 0} (slots : List (Option D)) (p : ℕ) (d : D) → slice_get (slots ++ None ∷ []) p ≡ Some (Some d)
    → slice_get slots p ≡ Some (Some d)
slot_was [] zero d h = absurd cc
slot_was [] (suc p) d h = absurd cc
slot_was (s ∷ slots) zero d h = h
slot_was (s ∷ slots) (suc p) d h = slot_was slots p d h

pub on_ok : {A E : Type 0} (r : Result A E) (P : Type 0) → P → OnOk r P
on_ok (Ok v) P p = p
on_ok (Err e) P p = tt

-- what was put behind a list
pub get_last : {A : Type 0} (xs : List A) (x : A) (n : ℕ) → n ≡ length xs → slice_get (xs ++ x ∷ []) n ≡ Some x
get_last xs x n e = subst (λ k. slice_get (xs ++ x ∷ []) k ≡ Some x) (sym e) (by xs)
  where
    by : (xs : List _) → slice_get (xs ++ x ∷ []) (length xs) ≡ Some x
    by [] = refl
    by (y ∷ xs) = by xs

module _ {W T : Type 0} (work : W) where
  -- an item that is under way is the only one of its list
  pub only_item : (bs : List (Batch W T)) → All (IsAsked work) bs → (p : ℕ) (x : T) → slice_get (items_of bs) p ≡ Some x
      → (b : Batch W T) × (slice_get bs p ≡ Some b) × (b.work ≡ work) × (b.items.items ≡ x ∷ [])
  only_item [] h p x e = absurd cc
  only_item (b ∷ bs) h zero x e =
      let one = h 0 b (omega arith) in
      let first : Some one.0 ≡ Some x = subst (λ l. slice_get (l ++ items_of bs) 0 ≡ Some x) one.2 e in
      let same : one.0 ≡ x = cc first in
      (b, refl, one.1, one.2 ∙ ap (λ z. z ∷ []) same)
  only_item (b ∷ bs) h (suc p) x e =
      let one = h 0 b (omega arith) in
      let rest : slice_get (items_of bs) p ≡ Some x = subst (λ l. slice_get (l ++ items_of bs) (suc p) ≡ Some x) one.2 e in
      only_item bs (λ k d lt. h (suc k) d (omega arith)) p x rest

  -- what came of an item stands in its slot
  pub kept : {D : Type 0} (gives : W → T → D → Type 0) (front seen : List (Batch W T)) (given number : ℕ) (slots : List (Option D)) (d : D)
      → All (IsAsked work) (drop given front) → Filled (gives work) (items_of (drop given front)) slots
      → Agree front seen → number < length seen → Answers gives seen number 0 d → given ≤ number → number - given < length slots
      → Filled (gives work) (items_of (drop given front)) (set slots (number - given) (Some d))
  kept gives front seen given number slots d asked filled agree within answers le lt =
      filled_set (gives work) (items_of (drop given front)) slots (number - given) d filled (λ x e.
      let b = only_item (drop given front) asked (number - given) x e in
      let there = has seen number within in
      let here : slice_get front number ≡ Some b.0 =
      subst (λ k. slice_get front k ≡ Some b.0) {x = given + (number - given)} (omega arith)
      (get_behind front given (number - given) b.0 b.1) in
      let same : b.0 ≡ there.0 = agree number b.0 there.0 here there.1 in
      let item : slice_get there.0.items.items 0 ≡ Some x =
      subst (λ c. slice_get c.items.items 0 ≡ Some x) same (ap (λ l. slice_get l 0) b.3) in
      subst (λ w. gives w x d) (sym (ap (λ c. c.work) same) ∙ b.2) (answers there.0 x there.1 item)) lt

  all_more : (bs : List (Batch W T)) (b : Batch W T) → All (IsAsked work) bs → IsAsked work b → All (IsAsked work) (bs ++ b ∷ [])
  all_more [] b h k zero d lt = k
  all_more [] b h k (suc i) d lt = absurd (omega arith)
  all_more (c ∷ bs) b h k zero d lt = h 0 d (omega arith)
  all_more (c ∷ bs) b h k (suc i) d lt = all_more bs b (λ j e l. h (suc j) e (omega arith)) k i d (omega arith)

  items_more : (bs : List (Batch W T)) (b : Batch W T) (x : T) → b.items.items ≡ x ∷ [] → items_of (bs ++ b ∷ []) ≡ items_of bs ++ x ∷ []
  items_more [] b x e = ap (λ l. l ++ []) e
  items_more (c ∷ bs) b x e = ap (λ l. c.items.items ++ l) (items_more bs b x e) ∙ sym (append_assoc c.items.items (items_of bs) (x ∷ []))

  item_is : (items : List T) (x y : T) (p : ℕ) → slice_get items p ≡ Some y → slice_get (items ++ x ∷ []) p ≡ Some y
  item_is [] x y p h = absurd cc
  item_is (z ∷ items) x y zero h = h
  item_is (z ∷ items) x y (suc p) h = item_is items x y p h

  filled_more : {D : Type 0} (post : T → D → Type 0) (items : List T) (slots : List (Option D)) (x : T) → Filled post items slots
      → Filled post (items ++ x ∷ []) (slots ++ None ∷ [])
  filled_more post items slots x f = (
    omega (arith, f.0, length-append slots (None ∷ []), length-append items (x ∷ [])),
    λ p d h. (let was = f.1 p d (slot_was slots p d h) in (was.0, item_is items x was.0 p was.1, was.2)),
  )

  -- an item more is under way
  pub begun : {D : Type 0} (post : T → D → Type 0) (front new : List (Batch W T)) (given : ℕ) (b : Batch W T) (x : T)
      (slots : List (Option D)) → given ≤ length front → All (IsAsked work) (drop given front)
      → Filled post (items_of (drop given front)) slots → new ≡ front ++ b ∷ [] → b.work ≡ work → b.items.items ≡ x ∷ []
      → (given ≤ length new) × (length new ≡ length front + 1) × All (IsAsked work) (drop given new)
      × Filled post (items_of (drop given new)) (slots ++ None ∷ []) × (items_of (drop given new) ≡ items_of (drop given front) ++ x ∷ [])
  begun post front new given b x slots le asked filled grown same one =
      let long : length new ≡ length front + 1 = ap length grown ∙ length-append front (b ∷ []) in
      let behind : drop given new ≡ drop given front ++ b ∷ [] = ap (drop given) grown ∙ drop-append-le given front (b ∷ []) le in
      let items : items_of (drop given new) ≡ items_of (drop given front) ++ x ∷ [] =
      ap items_of behind ∙ items_more (drop given front) b x one in (
        omega (arith, long, le),
        long,
        subst (All (IsAsked work)) (sym behind) (all_more (drop given front) b asked (x, same, one)),
        subst (λ l. Filled post l (slots ++ None ∷ [])) (sym items) (filled_more post (items_of (drop given front)) slots x filled),
        items,
      )

  -- the oldest item is no longer under way
  given_first : {D : Type 0} (post : T → D → Type 0) (bs : List (Batch W T)) (slots : List (Option D)) → All (IsAsked work) bs
      → Filled post (items_of bs) slots → 0 < length slots
      → (x : T) × (items_of bs ≡ x ∷ items_of (drop 1 bs)) × All (IsAsked work) (drop 1 bs)
      × Filled post (items_of (drop 1 bs)) (drop 1 slots) × (0 < length bs) × ((d : D) → slice_get slots 0 ≡ Some (Some d) → post x d)
  given_first post [] [] asked filled lt = absurd (omega arith)
  given_first post [] (s ∷ slots) asked filled lt = absurd (omega (arith, filled.0))
  given_first post (b ∷ bs) [] asked filled lt = absurd (omega arith)
  given_first post (b ∷ bs) (s ∷ slots) asked filled lt =
      let one = asked 0 b (omega arith) in
      let items : items_of (b ∷ bs) ≡ one.0 ∷ items_of bs = ap (λ l. l ++ items_of bs) one.2 in
      let f : Filled post (one.0 ∷ items_of bs) (s ∷ slots) = subst (λ l. Filled post l (s ∷ slots)) items filled in (
        one.0,
        items,
        λ k d l. asked (suc k) d (omega arith),
        (omega (arith, f.0), λ p d h. f.1 (suc p) d h),
        omega arith,
        λ d h. (let was = f.1 0 d h in let same : one.0 ≡ was.0 = cc (was.1) in subst (λ y. post y d) (sym same) was.2),
      )

  pub given_one : {D : Type 0} (post : T → D → Type 0) (front : List (Batch W T)) (given : ℕ) (slots : List (Option D))
      → All (IsAsked work) (drop given front) → Filled post (items_of (drop given front)) slots → 0 < length slots
      → (x : T) × (items_of (drop given front) ≡ x ∷ items_of (drop (given + 1) front)) × All (IsAsked work) (drop (given + 1) front)
      × Filled post (items_of (drop (given + 1) front)) (drop 1 slots) × (given + 1 ≤ length front)
      × ((d : D) → slice_get slots 0 ≡ Some (Some d) → post x d)
  given_one post front given slots asked filled lt =
      let first = given_first post (drop given front) slots asked filled lt in
      let behind : drop 1 (drop given front) ≡ drop (given + 1) front = drop-drop 1 given front in (
        first.0,
        first.1 ∙ ap (λ l. first.0 ∷ items_of l) behind,
        subst (All (IsAsked work)) behind first.2,
        subst (λ l. Filled post (items_of l) (drop 1 slots)) behind first.3,
        omega (arith, first.4, length-drop given front),
        first.5,
      )
