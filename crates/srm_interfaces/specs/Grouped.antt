-- What is held group by group.
use Rattle.std.specs.Prelude.{ℕ, List, [], ◌∷◌, ◌++◌, length, map}
use Rattle.std.specs.Global.{Vec}

module _ {A : Type 0} where
  -- the size of each group
  abbrev pub sizes : List (Vec A) → List ℕ
  sizes gs = map (λ (g : Vec A). length g.items) gs

  -- what is in the groups, group after group
  abbrev pub all_in : List (Vec A) → List A
  all_in [] = []
  all_in (g ∷ gs) = g.items ++ all_in gs
