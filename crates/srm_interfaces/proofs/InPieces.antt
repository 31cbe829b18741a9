-- Pieces of a list.
use Rattle.std.proofs.Common.{List, [], ◌∷◌, ◌++◌, map, All}
use Rattle.std.proofs.lemmas.List.Elements.{All-nil, All-cons, All-head, All-tail}
use Rattle.std.specs.Global.{Vec}
use Rattle.srm_cell.specs.Crossings.{joined}

-- all that is in the pieces, in order
abbrev pub all_in : {A : Type 0} → List (Vec A) → List A
all_in {A} ps = joined (map (λ (p : Vec A). p.items) ps)

module _ {A : Type 0} (P : A → Type 0) where
  all_first : (xs ys : List A) → All P (xs ++ ys) → All P xs
  all_first [] ys h = All-nil P
  all_first (x ∷ xs) ys h = All-cons P x xs (All-head P x (xs ++ ys) h) (all_first xs ys (All-tail P x (xs ++ ys) h))

  all_last : (xs ys : List A) → All P (xs ++ ys) → All P ys
  all_last [] ys h = h
  all_last (x ∷ xs) ys h = all_last xs ys (All-tail P x (xs ++ ys) h)

  -- what holds of all that is in pieces holds of each piece
  pub all_each : (ps : List (Vec A)) → All P (all_in ps) → All (λ (p : Vec A). All P p.items) ps
  all_each [] h = All-nil (λ (p : Vec A). All P p.items)
  all_each (p ∷ ps) h =
      All-cons (λ (p : Vec A). All P p.items) p ps (all_first p.items (all_in ps) h) (all_each ps (all_last p.items (all_in ps) h))
