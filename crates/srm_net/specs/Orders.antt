-- Lists kept in the order of a comparison.
use Rattle.std.specs.Prelude.{◌≡◌, false, cond, List, [], ◌∷◌}
use Rattle.std.specs.declared.cmp.Ordering.{Ordering}
use Rattle.std.specs.declared.cmp.Ordering.TheVariants.{Less}
use Rattle.std.specs.Ordering.{is_lt}

-- x before the first element that is not less
abbrev pub place : {A : Type 0} → (A → A → Ordering) → A → List A → List A
place cmp x [] = x ∷ []
place cmp x (y ∷ ys) = cond (is_lt (cmp y x)) (y ∷ place cmp x ys) (x ∷ y ∷ ys)

-- the elements in order
abbrev pub ordered : {A : Type 0} → (A → A → Ordering) → List A → List A
ordered cmp [] = []
ordered cmp (x ∷ xs) = place cmp x (ordered cmp xs)

-- no element of the list is less than x
abbrev pub NoneBelow : {A : Type 0} → (A → A → Ordering) → A → List A → Type 0
NoneBelow cmp x [] = Unit {0}
NoneBelow cmp x (y ∷ ys) = (is_lt (cmp y x) ≡ false) × NoneBelow cmp x ys

-- no element is less than one that stands before it
abbrev pub Rises : {A : Type 0} → (A → A → Ordering) → List A → Type 0
Rises cmp [] = Unit {0}
Rises cmp (x ∷ xs) = NoneBelow cmp x xs × Rises cmp xs

-- each element of the list is greater than x
abbrev pub AllAfter : {A : Type 0} → (A → A → Ordering) → A → List A → Type 0
AllAfter cmp x [] = Unit {0}
AllAfter cmp x (y ∷ ys) = (cmp x y ≡ Less) × AllAfter cmp x ys

-- each element is less than all that stand after it
abbrev pub Ascends : {A : Type 0} → (A → A → Ordering) → List A → Type 0
Ascends cmp [] = Unit {0}
Ascends cmp (x ∷ xs) = AllAfter cmp x xs × Ascends cmp xs
