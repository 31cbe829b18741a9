-- Weights: of the seats of a ledger, and of the passes of a bag.
use Rattle.std.specs.Prelude.{◌≡◌, ℕ, ◌+◌, ◌-◌, ◌/◌, List, [], ◌∷◌}

-- f of each seat or pass, or of whatever a list has, added up
abbrev pub total : {V : Type 0} → (V → ℕ) → List V → ℕ
total f [] = 0
total f (v ∷ vs) = f v + total f vs

-- the weight that all of one ledger, or of one bag, have together
abbrev pub whole_weight : ℕ
whole_weight = 65536

-- the weights of all add up to the whole
abbrev pub WeighWhole : {V : Type 0} → (V → ℕ) → List V → Type 0
WeighWhole weight vs = total weight vs ≡ whole_weight

-- the weight of the first of two halves, the larger one
abbrev pub first_weight : ℕ → ℕ
first_weight w = w - w / 2

-- the weight of the second of two halves
abbrev pub second_weight : ℕ → ℕ
second_weight w = w / 2

-- the weight of two that were joined
abbrev pub joined_weight : ℕ → ℕ → ℕ
joined_weight v w = v + w
