-- Nodes of which each is the child of the next one.
use Rattle.std.proofs.Common.{◌≡◌, ◌∙◌, ℕ, List, [], ◌∷◌, ◌++◌, Some, ap, refl, sym, subst}
use Rattle.srm_net.specs.declared.link.LinkSpec.{LinkSpec}
use Rattle.srm_explain.specs.Flaws.{first_or, parent_of, Climbs, IsCircle}

-- the first of nodes does not change where one more is put behind them
pub first_kept : (vs : List ℕ) (v p : ℕ) → first_or p (vs ++ v ∷ []) ≡ first_or v vs
first_kept [] v p = refl
first_kept (u ∷ us) v p = refl

-- one more node, the child of the next one
pub climbs_on : (links : List LinkSpec) (vs : List ℕ) (v p : ℕ) → Climbs links vs v → parent_of links v ≡ Some p
    → Climbs links (vs ++ v ∷ []) p
climbs_on links [] v p h is = (is, tt)
climbs_on links (u ∷ us) v p h is = (h.0 ∙ ap Some (sym (first_kept us v p)), climbs_on links us v p h.1 is)

-- nodes make a circle where the last one is a child of the first
pub closes : (links : List LinkSpec) (vs : List ℕ) (v start : ℕ) → Climbs links (vs ++ v ∷ []) start
    → first_or start (vs ++ v ∷ []) ≡ start → IsCircle links (vs ++ v ∷ [])
closes links [] v start h first = subst (λ (n : ℕ). Climbs links (v ∷ []) n) (sym first) h
closes links (u ∷ us) v start h first = subst (λ (n : ℕ). Climbs links (u ∷ (us ++ v ∷ [])) n) (sym first) h
