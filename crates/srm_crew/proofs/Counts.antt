-- Numbers added up, item by item.
use Rattle.std.proofs.Common.{◌≡◌, ◌<◌, ◌≤◌, ◌+◌, ℕ, zero, suc, List, [], ◌∷◌, length, take, get_or, sym, ap, ◌∙◌, arith}
use Rattle.std.proofs.lemmas.List.{take_more}
use Rattle.srm_interfaces.specs.Crews.{counted_in}
use Rattle.srm_crew.specs.Shared.{sum_of}
use Rattle.srm_crew.proofs.WorkedLemmas.{sum_of-append}

module _ {D : Type 0} (numbers : D → List ℕ) where
  pub count_more : (k : ℕ) (ds : List D) (i : ℕ) (d : D) → i < length ds → d ≡ get_or ds i d
      → sum_of numbers k (take (i + 1) ds) ≡ sum_of numbers k (take i ds) + counted_in (numbers d) k
  count_more k ds i d lt e =
      ap (sum_of numbers k) (take_more ds i d lt) ∙ sum_of-append numbers k (take i ds) (get_or ds i d ∷ [])
      ∙ ap (λ x. sum_of numbers k (take i ds) + (counted_in (numbers x) k + 0)) (sym e) ∙ (omega arith)

  pub count_some : (k : ℕ) (ds : List D) (i : ℕ) (d : D) → i < length ds → d ≡ get_or ds i d
      → sum_of numbers k (take i ds) + counted_in (numbers d) k ≤ sum_of numbers k ds
  count_some k [] i d lt e = absurd (omega arith)
  count_some k (x ∷ ds) zero d lt e = let same : counted_in (numbers d) k ≡ counted_in (numbers x) k =
      ap (λ y. counted_in (numbers y) k) e in omega (arith, same)
  count_some k (x ∷ ds) (suc i) d lt e = let more = count_some k ds i d (omega arith) e in omega (arith, more)
