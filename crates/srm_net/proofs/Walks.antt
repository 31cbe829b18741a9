-- Walks and paths in a list of links.
use Rattle.std.proofs.Common.{arith}
use Rattle.std.proofs.Common.{◌≡◌, ◌⊎◌, ℕ, Bool, true, false, not, cond, List, [], ◌∷◌, Some, refl, sym, ap, ◌∙◌, subst, inl, inr, eqb}
use Rattle.std.proofs.Common.{eqb-true, slice_get}
use Rattle.std.proofs.lemmas.Bool.{cases_Bool, both_ways, true≢false, false≢true}
use Rattle.srm_net.specs.declared.link.LinkSpec.{LinkSpec}
use Rattle.srm_net.specs.Network.{Joins, IsWalk}
use Rattle.srm_net.specs.Paths.{is_in}
use Rattle.srm_net.proofs.Numbers.{Apart, in_head, in_tail, in_cases, not_in}

pub walk_first : (links : List LinkSpec) (u : ℕ) (ls : List ℕ) (v : ℕ) (ns : List ℕ) → IsWalk links u ls v ns → is_in ns u ≡ true
walk_first links u [] v ns w = subst (λ z. is_in z u ≡ true) (sym w.1) (in_head u [])
walk_first links u (l ∷ ls) v ns w = subst (λ z. is_in z u ≡ true) (sym w.5) (in_head u w.2)

pub walk_last : (links : List LinkSpec) (u : ℕ) (ls : List ℕ) (v : ℕ) (ns : List ℕ) → IsWalk links u ls v ns → is_in ns v ≡ true
walk_last links u [] v ns w = subst (λ z. is_in z v ≡ true) (sym w.1) (subst (λ z. is_in (u ∷ []) z ≡ true) w.0 (in_head u []))
walk_last links u (l ∷ ls) v ns w =
    subst (λ z. is_in z v ≡ true) (sym w.5) (in_tail u v w.2 (walk_last links w.1 ls v w.2 w.6))

-- the ends of a link are the same two nodes however it is crossed
pub same_ends : (k : LinkSpec) (u x z y : ℕ) → Joins k u x → Joins k z y → ((z ≡ u) × (y ≡ x)) ⊎ ((z ≡ x) × (y ≡ u))
same_ends k u x z y h5 h6 = grind arith

pub same_far : (k : LinkSpec) (u x y : ℕ) → Joins k u x → Joins k u y → x ≡ y
same_far k u x y p q = elim (same_ends k u x u y p q) [ inl e ↦ sym e.1 | inr e ↦ sym e.0 ∙ sym e.1 ]

pub same_link : (links : List LinkSpec) (l m : ℕ) (j k : LinkSpec) → l ≡ m → slice_get links l ≡ Some j → slice_get links m ≡ Some k → j ≡ k
same_link links l m j k e p q = let r : slice_get links l ≡ slice_get links m = ap (slice_get links) e in cc

pub turned : (k : LinkSpec) (u x : ℕ) → Joins k u x → Joins k x u
turned k u x (inl p) = inr (p.1, p.0)
turned k u x (inr p) = inl (p.1, p.0)

-- a walk comes by both ends of each link that it takes
pub walk_ends : (links : List LinkSpec) (u : ℕ) (ls : List ℕ) (v : ℕ) (ns : List ℕ) (l : ℕ) (k : LinkSpec) (z y : ℕ)
    → IsWalk links u ls v ns → is_in ls l ≡ true → slice_get links l ≡ Some k → Joins k z y → is_in ns z ≡ true
walk_ends links u [] v ns l k z y w i g j = absurd (false≢true i)
walk_ends links u (m ∷ ls) v ns l k z y w i g j =
    let into : is_in (u ∷ w.2) z ≡ true → is_in ns z ≡ true = λ h. subst (λ t. is_in t z ≡ true) (sym w.5) h in
    elim (in_cases m l ls i) [
      | inl e ↦ (let same : w.0 ≡ k = same_link links m l w.0 k e w.3 g in
          let first : Joins k u w.1 = subst (λ t. Joins t u w.1) same w.4 in
          elim (same_ends k u w.1 z y first j) [
            | inl f ↦ into (subst (λ t. is_in (u ∷ w.2) t ≡ true) (sym f.0) (in_head u w.2))
            | inr f ↦ into (in_tail u z w.2 (subst (λ t. is_in w.2 t ≡ true) (sym f.0) (walk_first links w.1 ls v w.2 w.6)))
          ])
      | inr e ↦ into (in_tail u z w.2 (walk_ends links w.1 ls v w.2 l k z y w.6 e g j))
    ]

-- ---- cuts

-- a division of the nodes in two that no link but l crosses, and l does
abbrev pub IsCut : List LinkSpec → ℕ → (ℕ → Bool) → Type 0
IsCut links l side =
    (m : ℕ) (k : LinkSpec) (u x : ℕ) → slice_get links m ≡ Some k → Joins k u x → side x ≡ cond (eqb m l) (not (side u)) (side u)

-- a path crosses the cut of link l exactly where it takes that link
pub way_crosses : (links : List LinkSpec) (l : ℕ) (side : ℕ → Bool) → IsCut links l side
    → (u : ℕ) (ls : List ℕ) (v : ℕ) (ns : List ℕ) → IsWalk links u ls v ns → Apart ns → side v ≡ cond (is_in ls l) (not (side u)) (side u)
way_crosses links l side cut u [] v ns w a = ap side (sym w.0)
way_crosses links l side cut u (m ∷ ls) v ns w a =
    let b : Apart (u ∷ w.2) = subst Apart w.5 a in
    let rest : side v ≡ cond (is_in ls l) (not (side w.1)) (side w.1) = way_crosses links l side cut w.1 ls v w.2 w.6 b.1 in
    let step : side w.1 ≡ cond (eqb m l) (not (side u)) (side u) = cut m w.0 u w.1 w.3 w.4 in
    elim (cases_Bool (eqb m l)) [
      | inl e ↦ (let once : is_in ls l ≡ false =
          not_in ls l (λ i. both_ways _ b.0 (walk_ends links w.1 ls v w.2 l w.0 u w.1 w.6 i
          (subst (λ t. slice_get links t ≡ Some w.0) (eqb-true m l e) w.3) w.4)) in
          let r : side v ≡ side w.1 = rw once at rest in
          let s : side w.1 ≡ not (side u) = rw e at step in
          rw e (r ∙ s))
      | inr e ↦ (let s : side w.1 ≡ side u = rw e at step in rw (e, ← s) rest)
    ]

-- every link has its cut
abbrev pub HasCuts : List LinkSpec → Type 0
HasCuts links = (l : ℕ) → (side : ℕ → Bool) × IsCut links l side

pub flips : (b : Bool) → not b ≡ b → ⊥
flips true e = false≢true e
flips false e = true≢false e

-- where every link has its cut there is at most one path
pub only_path : (links : List LinkSpec) → HasCuts links
    → (u v : ℕ) (ls ms : List ℕ) (ns os : List ℕ) → IsWalk links u ls v ns → Apart ns → IsWalk links u ms v os → Apart os → ls ≡ ms
only_path links cuts u v [] [] ns os w a x b = refl
only_path links cuts u v [] (m ∷ ms) ns os w a x b =
    let c : Apart (u ∷ x.2) = subst Apart x.5 b in
    absurd (both_ways _ c.0 (subst (λ t. is_in x.2 t ≡ true) (sym w.0) (walk_last links x.1 ms v x.2 x.6)))
only_path links cuts u v (l ∷ ls) [] ns os w a x b =
    let c : Apart (u ∷ w.2) = subst Apart w.5 a in
    absurd (both_ways _ c.0 (subst (λ t. is_in w.2 t ≡ true) (sym x.0) (walk_last links w.1 ls v w.2 w.6)))
only_path links cuts u v (l ∷ ls) (m ∷ ms) ns os w a x b =
    let c : Apart (u ∷ w.2) = subst Apart w.5 a in
    let d : Apart (u ∷ x.2) = subst Apart x.5 b in
    let cut = cuts l in
    let one : cut.0 v ≡ not (cut.0 u) = way_crosses links l cut.0 cut.1 u (l ∷ ls) v ns w a
    ∙ ap (λ t. cond t (not (cut.0 u)) (cut.0 u)) (in_head l ls) in
    let two : cut.0 v ≡ cond (is_in (m ∷ ms) l) (not (cut.0 u)) (cut.0 u) = way_crosses links l cut.0 cut.1 u (m ∷ ms) v os x b in
    let used : is_in (m ∷ ms) l ≡ true =
    elim (cases_Bool (is_in (m ∷ ms) l)) [
      | inl e ↦ e
      | inr e ↦ absurd
          (flips (cut.0 u) (sym one ∙ two ∙ ap (λ t. cond t (not (cut.0 u)) (cut.0 u)) e))
    ] in
    let same : m ≡ l =
    elim (in_cases m l ms used) [ inl e ↦ e | inr e ↦ absurd (both_ways _ d.0 (walk_ends links x.1 ms v x.2 l w.0 u w.1 x.6 e w.3 w.4)) ] in
    let link : x.0 ≡ w.0 = same_link links m l x.0 w.0 same x.3 w.3 in
    let there : x.1 ≡ w.1 = same_far w.0 u x.1 w.1 (subst (λ t. Joins t u x.1) link x.4) w.4 in
    let on : IsWalk links w.1 ms v x.2 = subst (λ t. IsWalk links t ms v x.2) there x.6 in
    ap (λ t. t ∷ ls) (sym same) ∙ ap (λ t. m ∷ t) (only_path links cuts w.1 v ls ms w.2 x.2 w.6 c.1 on d.1)
