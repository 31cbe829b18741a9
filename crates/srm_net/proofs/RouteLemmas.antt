-- The route between two nodes is a path, and is found where there is one.
use Rattle.std.proofs.Common.{◌≡◌, ◌⊎◌, ℕ, zero, suc, ◌+◌, ◌<◌, ◌≤◌, Bool, true, false, List, [], ◌∷◌, length, Option, Some, None, refl}
use Rattle.std.proofs.Common.{sym, ap, ◌∙◌, subst, inl, inr, arith, eqb, eq-eqb, eqb-true, slice_get, All, unwrap_or, cond}
use Rattle.std.specs.Option.{option_or, option_map}
use Rattle.std.proofs.lemmas.Bool.{cases_Bool, both_ways, false≢true}
use Rattle.srm_net.specs.declared.link.LinkSpec.{LinkSpec}
use Rattle.srm_net.specs.Network.{Network, Joins, IsWalk, IsWithin, IsTree}
use Rattle.srm_net.specs.Paths.{is_in, far_end, way_on, first_way, route_within, route}
use Rattle.srm_net.proofs.Lists.{all_get}
use Rattle.srm_net.proofs.Numbers.{Apart, Below, in_tail, in_cases, not_head, not_tail, not_in, not_in_cons, few_apart, apart_from_distinct}
use Rattle.srm_net.proofs.Walks.{only_path, walk_first}
use Rattle.srm_net.proofs.Growing.{joins_below, tree_cuts}

-- none of the passed nodes is among these
abbrev pub Avoids : List ℕ → List ℕ → Type 0
Avoids passed ns = (n : ℕ) → is_in ns n ≡ true → is_in passed n ≡ false

-- a path that meets none of the passed nodes
abbrev pub FreePath : List LinkSpec → List ℕ → ℕ → List ℕ → ℕ → Type 0
FreePath links passed u ls v = (ns : List ℕ) × IsWalk links u ls v ns × Apart ns × Avoids passed ns

-- ---- the far end of a link

far_joins : (k : LinkSpec) (u x : ℕ) → far_end k u ≡ Some x → Joins k u x
far_joins k u x h = grind arith

pub joins_far : (k : LinkSpec) (u x : ℕ) → Joins k u x → far_end k u ≡ Some x
joins_far k u x h3 = grind arith

-- ---- what was found is a path

unless_found : (b : Bool) (o : Option (List ℕ)) (ls : List ℕ) → cond b None o ≡ Some ls → (b ≡ false) × (o ≡ Some ls)
unless_found true o ls h = cc
unless_found false o ls h = (refl, h)

way_on_found : (further : ℕ → Option (List ℕ)) (passed : List ℕ) (o : Option ℕ) (ls : List ℕ) → way_on further passed o ≡ Some ls → (x : ℕ)
    × (o ≡ Some x) × (is_in passed x ≡ false) × (further x ≡ Some ls)
way_on_found further passed None ls h = cc
way_on_found further passed (Some x) ls h = let r = unless_found (is_in passed x) (further x) ls h in (x, refl, r.0, r.1)

abbrev FirstStep : (ℕ → Option (List ℕ)) → List ℕ → ℕ → ℕ → List LinkSpec → List ℕ → Type 0
FirstStep further passed u l ks ls =
    (i : ℕ) × (k : LinkSpec) × (x : ℕ) × (ms : List ℕ) × (slice_get ks i ≡ Some k) × Joins k u x × (is_in passed x ≡ false)
    × (further x ≡ Some ms) × (ls ≡ (l + i) ∷ ms)

next_step : (further : ℕ → Option (List ℕ)) (passed : List ℕ) (u l : ℕ) (k : LinkSpec) (ks : List LinkSpec) (ls : List ℕ)
    → FirstStep further passed u (l + 1) ks ls → FirstStep further passed u l (k ∷ ks) ls
next_step further passed u l k ks ls f = (suc f.0, f.1, f.2, f.3, f.4, f.5, f.6, f.7, f.8 ∙ ap (λ t. t ∷ f.3) (omega arith))

way_by_found : (further : ℕ → Option (List ℕ)) (passed : List ℕ) (u l : ℕ) (k : LinkSpec) (ks : List LinkSpec) (o p : Option (List ℕ))
    (ls : List ℕ)
    → o ≡ way_on further passed (far_end k u) → option_or (option_map (λ ls. l ∷ ls) o) p ≡ Some ls →
    ((ms : List ℕ) → p ≡ Some ms → FirstStep further passed u (l + 1) ks ms) → FirstStep further passed u l (k ∷ ks) ls
way_by_found further passed u l k ks None p ls e h more = next_step further passed u l k ks ls (more ls h)
way_by_found further passed u l k ks (Some ms) p ls e h more =
    let r = way_on_found further passed (far_end k u) ms (sym e) in
    let q : l ∷ ms ≡ ls = cc in
    (0, k, r.0, ms, refl, far_joins k u r.0 r.1, r.2, r.3, sym q ∙ ap (λ t. t ∷ ms) (omega arith))

first_way_found : (further : ℕ → Option (List ℕ)) (passed : List ℕ) (u l : ℕ) (ks : List LinkSpec) (ls : List ℕ)
    → first_way further passed u l ks ≡ Some ls → FirstStep further passed u l ks ls
first_way_found further passed u l [] ls h = cc
first_way_found further passed u l (k ∷ ks) ls h =
    way_by_found further passed u l k ks (way_on further passed (far_end k u)) (first_way further passed u (l + 1) ks) ls refl h
    (λ ms e. first_way_found further passed u (l + 1) ks ms e)

stay : (links : List LinkSpec) (passed : List ℕ) (u v : ℕ) → u ≡ v → is_in passed u ≡ false → FreePath links passed u [] v
stay links passed u v e n = grind arith

go : (links : List LinkSpec) (passed : List ℕ) (u l : ℕ) (k : LinkSpec) (x : ℕ) (ms : List ℕ) (v : ℕ) → is_in passed u ≡ false
    → slice_get links l ≡ Some k → Joins k u x → FreePath links (u ∷ passed) x ms v → FreePath links passed u (l ∷ ms) v
go links passed u l k x ms v n g j f = (
  u ∷ f.0,
  (k, x, f.0, g, j, refl, f.1),
  (not_in f.0 u (λ i. not_head u u passed (f.3 u i) refl), f.2),
  λ m i. elim (in_cases u m f.0 i) [ inl q ↦ subst (λ t. is_in passed t ≡ false) q n | inr q ↦ not_tail u m passed (f.3 m q) ],
)

pub found_path : (n : ℕ) (links : List LinkSpec) (passed : List ℕ) (u v : ℕ) (ls : List ℕ) → is_in passed u ≡ false
    → route_within n links passed u v ≡ Some ls → FreePath links passed u ls v
unfolding route_within
found_path zero links passed u v ls n h =
    elim (cases_Bool (eqb u v)) [
      | inl e ↦ (let q : ◌≡◌ {A = Option (List ℕ)} (Some []) (Some ls) = rw e at h in let r : []
          ≡ ls = cc in subst (λ t. FreePath links passed u t v) r (stay links passed u v (eqb-true u v e) n))
      | inr e ↦ (let q : ◌≡◌ {A = Option (List ℕ)} None (Some ls) = rw e at h in cc)
    ]
found_path (suc m) links passed u v ls n h =
    elim (cases_Bool (eqb u v)) [
      | inl e ↦ (let q : ◌≡◌ {A = Option (List ℕ)} (Some []) (Some ls) = rw e at h in let r : []
          ≡ ls = cc in subst (λ t. FreePath links passed u t v) r (stay links passed u v (eqb-true u v e) n))
      | inr e ↦
          (let q : first_way (λ x. route_within m links (u ∷ passed) x v) (u ∷ passed) u 0 links ≡ Some ls = rw e at h in
          let f = first_way_found (λ x. route_within m links (u ∷ passed) x v) (u ∷ passed) u 0 links ls q in
          let rest : FreePath links (u ∷ passed) f.2 f.3 v = found_path m links (u ∷ passed) f.2 v f.3 f.6 f.7 in
          subst (λ t. FreePath links passed u t v) (sym f.8)
          (go links passed u (0 + f.0) f.1 f.2 f.3 v n (subst (λ t. slice_get links t ≡ Some f.1) (omega arith) f.4) f.5 rest))
    ]

-- ---- a path that there is is found

abbrev pub Found : Option (List ℕ) → Type 0
Found o = (ls : List ℕ) × (o ≡ Some ls)

way_by_there : (l : ℕ) (o p : Option (List ℕ)) → Found o ⊎ Found p → Found (option_or (option_map (λ ls. l ∷ ls) o) p)
way_by_there l (Some ls) p h = (l ∷ ls, refl)
way_by_there l None p (inl h) = cc
way_by_there l None p (inr h) = h

way_on_there : (further : ℕ → Option (List ℕ)) (passed : List ℕ) (x : ℕ) → is_in passed x ≡ false → Found (further x)
    → Found (way_on further passed (Some x))
way_on_there further passed x n f = rw n f

first_way_there : (further : ℕ → Option (List ℕ)) (passed : List ℕ) (u l : ℕ) (ks : List LinkSpec) (i : ℕ) (k : LinkSpec) (x : ℕ)
    → slice_get ks i ≡ Some k → Joins k u x → is_in passed x ≡ false → Found (further x) → Found (first_way further passed u l ks)
first_way_there further passed u l [] i k x g j n f = cc
first_way_there further passed u l (h ∷ ks) zero k x g j n f =
    let same : h ≡ k = cc in
    way_by_there l (way_on further passed (far_end h u)) (first_way further passed u (l + 1) ks)
    (inl (subst (λ t. Found (way_on further passed (far_end t u))) (sym same)
    (subst (λ t. Found (way_on further passed t)) (sym (joins_far k u x j)) (way_on_there further passed x n f))))
first_way_there further passed u l (h ∷ ks) (suc i) k x g j n f =
    way_by_there l (way_on further passed (far_end h u)) (first_way further passed u (l + 1) ks)
    (inr (first_way_there further passed u (l + 1) ks i k x g j n f))

pub path_found : (n : ℕ) (links : List LinkSpec) (passed : List ℕ) (u : ℕ) (ls : List ℕ) (v : ℕ) (ns : List ℕ) → IsWalk links u ls v ns
    → Apart ns → Avoids passed ns → length ls ≤ n → Found (route_within n links passed u v)
unfolding route_within
path_found zero links passed u [] v ns w a o h = rw (eq-eqb u v w.0) ([], refl)
path_found zero links passed u (l ∷ ls) v ns w a o h = absurd (omega arith)
path_found (suc n) links passed u [] v ns w a o h = rw (eq-eqb u v w.0) ([], refl)
path_found (suc n) links passed u (l ∷ ls) v ns w a o h =
    let b : Apart (u ∷ w.2) = subst Apart w.5 a in
    let p : Avoids passed (u ∷ w.2) = subst (Avoids passed) w.5 o in
    let q : Avoids (u ∷ passed) w.2 = λ m i. not_in_cons u m passed (λ e. both_ways _ b.0 (subst (λ t. is_in w.2 t ≡ true) (sym e) i))
    (p m (in_tail u m w.2 i)) in
    let k : length ls ≤ n = omega arith in
    let rest : Found (route_within n links (u ∷ passed) w.1 v) = path_found n links (u ∷ passed) w.1 ls v w.2 w.6 b.1 q k in
    let there : Found (first_way (λ x. route_within n links (u ∷ passed) x v) (u ∷ passed) u 0 links) =
    first_way_there (λ x. route_within n links (u ∷ passed) x v) (u ∷ passed) u 0 links l w.0 w.1 w.3 w.4
    (q w.1 (walk_first links w.1 ls v w.2 w.6)) rest in
    elim (cases_Bool (eqb u v)) [ inl e ↦ rw e ([], refl) | inr e ↦ rw e there ]

-- ---- in a tree

pub walk_length : (links : List LinkSpec) (u : ℕ) (ls : List ℕ) (v : ℕ) (ns : List ℕ) → IsWalk links u ls v ns → length ns ≡ length ls + 1
walk_length links u [] v ns w = ap length w.1
walk_length links u (l ∷ ls) v ns w = let k = walk_length links w.1 ls v w.2 w.6 in let e : length ns ≡ length (u ∷ w.2) = ap length w.5 in
    omega arith

walk_below : (nodes : ℕ) (links : List LinkSpec) → All (IsWithin nodes) links → (u : ℕ) (ls : List ℕ) (v : ℕ) (ns : List ℕ)
    → IsWalk links u ls v ns → u < nodes → Below nodes ns
walk_below nodes links a u [] v ns w h x i =
    elim (in_cases u x [] (subst (λ t. is_in t x ≡ true) w.1 i)) [ inl e ↦ subst (λ t. t < nodes) e h | inr e ↦ absurd (false≢true e) ]
walk_below nodes links a u (l ∷ ls) v ns w h x i =
    elim (in_cases u x w.2 (subst (λ t. is_in t x ≡ true) w.5 i)) [
      | inl e ↦ subst (λ t. t < nodes) e h
      | inr e ↦ walk_below nodes links a w.1 ls v w.2 w.6 ((joins_below nodes w.0 u w.1 (all_get (IsWithin nodes) links l w.0 a w.3) w.4).1)
          x e
    ]

-- a path has no more links than there are nodes but one
pub path_length : (w : Network) → IsTree w → (u : ℕ) (ls : List ℕ) (v : ℕ) (ns : List ℕ) → IsWalk w.links u ls v ns → Apart ns → u < w.nodes
    → length ls ≤ length w.links
path_length w t u ls v ns k a h =
    let n = walk_length w.links u ls v ns k in
    let m = few_apart w.nodes ns a (walk_below w.nodes w.links t.ends u ls v ns k h) in
    let o : length w.links + 1 ≡ w.nodes = t.one_fewer in
    omega arith

-- the route is a path, with its nodes
abbrev pub RouteIs : Network → ℕ → ℕ → List ℕ → Type 0
RouteIs w u v ns = IsWalk w.links u (route w u v) v ns × Apart ns

pub route_path : (w : Network) → IsTree w → (u v : ℕ) → u < w.nodes → v < w.nodes → (ns : List ℕ) × RouteIs w u v ns
unfolding route
route_path w t u v hu hv =
    let path = t.connected u v hu hv in
    let apart = apart_from_distinct path.1.0 path.1.2 in
    let there = path_found (length w.links) w.links [] u path.0 v path.1.0 path.1.1 apart (λ m i. refl)
    (path_length w t u path.0 v path.1.0 path.1.1 apart hu) in
    let free = found_path (length w.links) w.links [] u v there.0 refl there.1 in
    (free.0, (subst (λ t. IsWalk w.links u t v free.0) (sym (ap (λ t. unwrap_or t []) there.1)) free.1, free.2))

-- and the only one
pub route_only : (w : Network) → IsTree w → (u v : ℕ) → u < w.nodes → v < w.nodes → (ls ns : List ℕ) → IsWalk w.links u ls v ns → Apart ns
    → ls ≡ route w u v
route_only w t u v hu hv ls ns k a =
    let r = route_path w t u v hu hv in
    only_path w.links (tree_cuts w t) u v ls (route w u v) ns r.0 k a r.1.0 r.1.1
