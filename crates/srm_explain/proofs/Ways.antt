-- Ways over links, and one link more.
use Rattle.std.proofs.Common.{◌≡◌, ℕ, true, List, [], ◌∷◌, ◌++◌, Some, slice_get, nat_lt, refl, sym, subst}
use Rattle.std.specs.List.{list_all}
use Rattle.std.proofs.lemmas.List.Folds.{list_all-append}
use Rattle.srm_net.specs.declared.link.LinkSpec.{LinkSpec}
use Rattle.srm_net.specs.Network.{Joins, IsWalk}

-- a way goes on over a link
pub walk_on : (links : List LinkSpec) (u : ℕ) (ls : List ℕ) (v : ℕ) (ns : List ℕ) (l w : ℕ) (k : LinkSpec)
    → IsWalk links u ls v ns → slice_get links l ≡ Some k → Joins k v w → (ms : List ℕ) × IsWalk links u (ls ++ l ∷ []) w ms
walk_on links u [] v ns l w k walk at joins =
    (u ∷ w ∷ [], (k, w, w ∷ [], at, subst (λ (n : ℕ). Joins k n w) (sym walk.0) joins, refl, (refl, refl)))
walk_on links u (m ∷ ms) v ns l w k walk at joins =
    let on = walk_on links walk.1 ms v walk.2 l w k walk.6 at joins in
    (u ∷ on.0, (walk.0, walk.1, on.0, walk.3, walk.4, refl, on.1))

-- one link more that stands before another
pub before_on : (last : ℕ) (ls : List ℕ) (l : ℕ) → list_all (λ m. nat_lt m last) ls ≡ true → nat_lt l last ≡ true
    → list_all (λ m. nat_lt m last) (ls ++ l ∷ []) ≡ true
before_on last ls l before lt =
    let all = list_all-append (λ (m : ℕ). nat_lt m last) ls (l ∷ []) in
    search (all, before, lt)
