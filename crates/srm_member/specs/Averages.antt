-- How one number keeps an average, which is none at first.
use Rattle.std.specs.Prelude.{◌≡◌, ℕ, zero, suc, Option, Some, None, refl}

-- the average that a number keeps: one less, and none where it is 0
abbrev pub kept_average : ℕ → Option ℕ
kept_average zero = None
kept_average (suc n) = Some n

-- the number that keeps an average
abbrev pub kept_number : Option ℕ → ℕ
kept_number None = zero
kept_number (Some n) = suc n

-- a number is that which keeps its average
pub number_of_average : {A : Type 0} (f : ℕ → A) (n : ℕ) → f (kept_number (kept_average n)) ≡ f n
number_of_average f zero = refl
number_of_average f (suc n) = refl
