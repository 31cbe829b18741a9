-- What a grown tree has: all nodes and links once it is large enough, and a cut at each link.
use Rattle.std.proofs.Common.{◌≡◌, ℕ, zero, suc, ◌+◌, ◌<◌, ◌≤◌, Bool, true, false, not, cond, List, [], ◌∷◌, length, Some, refl, sym, ap}
use Rattle.std.proofs.Common.{◌∙◌, subst, inl, inr, arith, eqb, eq-eqb, eqb-true, slice_get, All}
use Rattle.std.proofs.lemmas.Bool.{ne_eqb, cases_Bool, both_ways, false≢true}
use Rattle.srm_net.specs.declared.link.LinkSpec.{LinkSpec}
use Rattle.srm_net.specs.declared.attaching.Attaching.{Attaching}
use Rattle.srm_net.specs.Network.{Network, Joins, IsWalk, IsWithin, IsConnected, IsTree}
use Rattle.srm_net.specs.Paths.{is_in}
use Rattle.srm_net.specs.Growth.{Attaches, attached, used, Grows, beyond}
use Rattle.srm_net.proofs.Lists.{get_below, all_get}
use Rattle.srm_net.proofs.Numbers.{Apart, Below, in_head, in_tail, in_cases, not_head, not_tail, not_in, all_below, one_missing}
use Rattle.srm_net.proofs.Walks.{same_ends, same_link, turned, IsCut, HasCuts}

pub attached_length : (ss : List Attaching) → length (attached ss) ≡ length ss + 1
attached_length [] = refl
attached_length (s ∷ ss) = let k = attached_length ss in omega arith

pub used_length : (ss : List Attaching) → length (used ss) ≡ length ss
used_length [] = refl
used_length (s ∷ ss) = ap suc (used_length ss)

pub attached_apart : (links : List LinkSpec) (ss : List Attaching) → Grows links ss → Apart (attached ss)
attached_apart links [] g = (refl, tt)
attached_apart links (s ∷ ss) g = (g.0.node, attached_apart links ss g.1)

-- both ends of a link that was used are attached
pub used_ends : (links : List LinkSpec) (ss : List Attaching) → Grows links ss → (l : ℕ) (k : LinkSpec) (z y : ℕ) → is_in (used ss) l ≡ true
    → slice_get links l ≡ Some k → Joins k z y → is_in (attached ss) z ≡ true
used_ends links [] g l k z y i e j = absurd (false≢true i)
used_ends links (s ∷ ss) g l k z y i e j =
    elim (in_cases s.link l (used ss) i) [
      | inr h ↦ in_tail s.node z (attached ss) (used_ends links ss g.1 l k z y h e j)
      | inl h ↦ (let same : g.0.spec ≡ k = same_link links s.link l g.0.spec k h g.0.link e in
          elim (same_ends k s.parent s.node z y (subst (λ t. Joins t s.parent s.node) same g.0.joins) j) [
            | inl p ↦ in_tail s.node z (attached ss) (subst (λ t. is_in (attached ss) t ≡ true) (sym p.0) g.0.parent)
            | inr p ↦ subst (λ t. is_in (s.node ∷ attached ss) t ≡ true) (sym p.0) (in_head s.node (attached ss))
          ])
    ]

pub used_fresh : (links : List LinkSpec) (s : Attaching) (ss : List Attaching) → Grows links (s ∷ ss) → is_in (used ss) s.link ≡ false
used_fresh links s ss g =
    not_in (used ss) s.link (λ i. both_ways _ g.0.node
    (used_ends links ss g.1 s.link g.0.spec s.node s.parent i g.0.link (turned g.0.spec s.parent s.node g.0.joins)))

pub used_apart : (links : List LinkSpec) (ss : List Attaching) → Grows links ss → Apart (used ss)
used_apart links [] g = tt
used_apart links (s ∷ ss) g = (used_fresh links s ss g, used_apart links ss g.1)

pub used_below : (links : List LinkSpec) (ss : List Attaching) → Grows links ss → Below (length links) (used ss)
used_below links [] g x i = absurd (false≢true i)
used_below links (s ∷ ss) g x i =
    elim (in_cases s.link x (used ss) i) [
      | inl e ↦ subst (λ t. t < length links) e (get_below links s.link g.0.spec g.0.link)
      | inr e ↦
          used_below links ss g.1 x e
    ]

pub joins_below : (nodes : ℕ) (k : LinkSpec) (u x : ℕ) → IsWithin nodes k → Joins k u x → (u < nodes) × (x < nodes)
joins_below nodes k u x w (inl p) = (subst (λ t. t < nodes) p.0 w.0, subst (λ t. t < nodes) p.1 w.1)
joins_below nodes k u x w (inr p) = (subst (λ t. t < nodes) p.0 w.1, subst (λ t. t < nodes) p.1 w.0)

pub attached_below : (nodes : ℕ) (links : List LinkSpec) (ss : List Attaching) → 1 ≤ nodes → All (IsWithin nodes) links → Grows links ss
    → Below nodes (attached ss)
attached_below nodes links [] n a g x i = elim (in_cases 0 x [] i) [ inl e ↦ subst (λ t. t < nodes) e n | inr e ↦ absurd (false≢true e) ]
attached_below nodes links (s ∷ ss) n a g x i =
    elim (in_cases s.node x (attached ss) i) [
      | inl e ↦ subst (λ t. t < nodes) e
          ((joins_below nodes g.0.spec s.parent s.node (all_get (IsWithin nodes) links s.link g.0.spec a g.0.link) g.0.joins).1)
      | inr e ↦ attached_below nodes links ss n a g.1 x e
    ]

-- ---- the cut at a link

pub beyond_unused : (ss : List Attaching) (l x : ℕ) → is_in (used ss) l ≡ false → beyond ss l x ≡ false
beyond_unused [] l x n = refl
beyond_unused (s ∷ ss) l x n =
    elim (cases_Bool (eqb s.node x)) [
      | inl e ↦ rw (e, ne_eqb s.link l (not_head s.link l (used ss) n)) (beyond_unused ss l s.parent (not_tail s.link l (used ss) n))
      | inr e ↦ rw e (beyond_unused ss l x (not_tail s.link l (used ss) n))
    ]

pub beyond_new : (s : Attaching) (ss : List Attaching) (l : ℕ) → beyond (s ∷ ss) l s.node ≡ cond (eqb s.link l) true (beyond ss l s.parent)
beyond_new s ss l = rw (eq-eqb s.node s.node refl) refl

pub beyond_old : (s : Attaching) (ss : List Attaching) (l x : ℕ) → is_in (attached ss) s.node ≡ false → is_in (attached ss) x ≡ true
    → beyond (s ∷ ss) l x
    ≡ beyond ss l x
beyond_old s ss l x n i = rw (ne_eqb s.node x (λ e. both_ways _ n (subst (λ t. is_in (attached ss) t ≡ true) (sym e) i))) refl

not_twice : (b : Bool) → b ≡ not (not b)
not_twice true = refl
not_twice false = refl

flip_back : (t a b : Bool) → a ≡ cond t (not b) b → b ≡ cond t (not a) a
flip_back true a b e = not_twice b ∙ ap not (sym e)
flip_back false a b e = sym e

-- over a link that was used, only the cut of that link is crossed
beyond_over : (links : List LinkSpec) (ss : List Attaching) → Grows links ss → (l m : ℕ) (k : LinkSpec) (u x : ℕ) → is_in (used ss) m ≡ true
    → slice_get links m ≡ Some k → Joins k u x → beyond ss l x ≡ cond (eqb m l) (not (beyond ss l u)) (beyond ss l u)
beyond_over links [] g l m k u x i e j = absurd (false≢true i)
beyond_over links (s ∷ ss) g l m k u x i e j =
    elim (in_cases s.link m (used ss) i) [
      | inr h ↦
          (let a = beyond_old s ss l u g.0.node (used_ends links ss g.1 m k u x h e j) in
          let b = beyond_old s ss l x g.0.node (used_ends links ss g.1 m k x u h e (turned k u x j)) in
          b ∙ beyond_over links ss g.1 l m k u x h e j ∙ ap (λ t. cond (eqb m l) (not t) t) (sym a))
      | inl h ↦
          (let same : g.0.spec ≡ k = same_link links s.link m g.0.spec k h g.0.link e in
          let a : beyond (s ∷ ss) l s.parent ≡ beyond ss l s.parent = beyond_old s ss l s.parent g.0.node g.0.parent in
          let b : beyond (s ∷ ss) l s.node ≡ cond (eqb s.link l) true (beyond ss l s.parent) = beyond_new s ss l in
          let c : cond (eqb s.link l) true (beyond ss l s.parent) ≡ cond (eqb s.link l) (not (beyond ss l s.parent))
          (beyond ss l s.parent) =
          elim (cases_Bool (eqb s.link l)) [
            | inl p ↦ rw (
              p,
              beyond_unused ss l s.parent
                  (subst (λ t. is_in (used ss) t ≡ false) (eqb-true s.link l p) (used_fresh links s ss g)),
            ) refl
            | inr p ↦ rw p refl
          ] in
          let d : beyond (s ∷ ss) l s.node ≡ cond (eqb m l) (not (beyond (s ∷ ss) l s.parent)) (beyond (s ∷ ss) l s.parent) =
          b ∙ c ∙ ap (λ t. cond (eqb t l) (not (beyond ss l s.parent)) (beyond ss l s.parent)) h
          ∙ ap (λ t. cond (eqb m l) (not t) t) (sym a) in
          elim (same_ends k s.parent s.node u x (subst (λ t. Joins t s.parent s.node) same g.0.joins) j) [
            | inl p ↦ ap (beyond (s ∷ ss) l) p.1 ∙ d ∙ ap (λ t. cond (eqb m l) (not (beyond (s ∷ ss) l t)) (beyond (s ∷ ss) l t)) (sym p.0)
            | inr p ↦ ap (beyond (s ∷ ss) l) p.1 ∙ flip_back (eqb m l) (beyond (s ∷ ss) l s.node) (beyond (s ∷ ss) l s.parent) d
                ∙ ap (λ t. cond (eqb m l) (not (beyond (s ∷ ss) l t)) (beyond (s ∷ ss) l t)) (sym p.0)
          ])
    ]

-- ---- a whole tree

-- once a tree has grown to as many steps as there are links, it has each link
pub all_used : (links : List LinkSpec) (ss : List Attaching) → Grows links ss → length ss ≡ length links → (l : ℕ) → l < length links
    → is_in (used ss) l ≡ true
all_used links ss g e l h = all_below (length links) (used ss) (used_apart links ss g) (used_below links ss g)
    (let k = used_length ss in omega arith) l h

-- and each node
pub all_attached : (nodes : ℕ) (links : List LinkSpec) (ss : List Attaching) → 1 ≤ nodes → All (IsWithin nodes) links → Grows links ss
    → length ss + 1 ≡ nodes → (x : ℕ) → x < nodes → is_in (attached ss) x ≡ true
all_attached nodes links ss n a g e x h =
    all_below nodes (attached ss) (attached_apart links ss g) (attached_below nodes links ss n a g)
    (let k = attached_length ss in omega arith) x h

pub grown_cut : (links : List LinkSpec) (ss : List Attaching) → Grows links ss → length ss ≡ length links → (l : ℕ)
    → IsCut links l (beyond ss l)
grown_cut links ss g e l m k u x i j = beyond_over links ss g l m k u x (all_used links ss g e m (get_below links m k i)) i j

pub grown_cuts : (links : List LinkSpec) (ss : List Attaching) → Grows links ss → length ss ≡ length links → HasCuts links
grown_cuts links ss g e l = (beyond ss l, grown_cut links ss g e l)

-- ---- growing

-- a walk that leaves a set of nodes does so by some link
pub leaves_by : (links : List LinkSpec) (nodes : List ℕ) (u : ℕ) (ls : List ℕ) (v : ℕ) (ns : List ℕ) → IsWalk links u ls v ns
    → is_in nodes u ≡ true → is_in nodes v ≡ false → (s : Attaching) × Attaches links nodes s
leaves_by links nodes u [] v ns w i n = absurd (both_ways _ n (subst (λ t. is_in nodes t ≡ true) w.0 i))
leaves_by links nodes u (l ∷ ls) v ns w i n =
    elim (cases_Bool (is_in nodes w.1)) [
      | inl e ↦ leaves_by links nodes w.1 ls v w.2 w.6 e n
      | inr e ↦ (record { node = w.1; parent = u; link = l }, record { spec = w.0; link = w.3; joins = w.4; parent = i; node = e })
    ]

pub root_attached : (ss : List Attaching) → is_in (attached ss) 0 ≡ true
root_attached [] = refl
root_attached (s ∷ ss) = in_tail s.node 0 (attached ss) (root_attached ss)

-- where all nodes are connected a tree grows to any size
pub grows_in : (w : Network) → 1 ≤ w.nodes → IsConnected w → (n : ℕ) → n < w.nodes
    → (ss : List Attaching) × Grows w.links ss × (length ss ≡ n)
grows_in w some connected zero h = ([], tt, refl)
grows_in w some connected (suc n) h =
    let before = grows_in w some connected n (omega arith) in
    let many = attached_length before.0 in
    let size : length before.0 ≡ n = before.2 in
    let missing = one_missing w.nodes (attached before.0) (omega arith) in
    let path = connected 0 missing.0 some missing.1 in
    let more = leaves_by w.links (attached before.0) 0 path.0 missing.0 path.1.0 path.1.1 (root_attached before.0) missing.2 in
    (more.0 ∷ before.0, (more.1, before.1), omega arith)

pub grows_to : (w : Network) → IsTree w → (n : ℕ) → n < w.nodes → (ss : List Attaching) × Grows w.links ss × (length ss ≡ n)
grows_to w t n h = grows_in w t.some_nodes t.connected n h

pub tree_cuts : (w : Network) → IsTree w → HasCuts w.links
tree_cuts w t =
    let one_fewer : length w.links + 1 ≡ w.nodes = t.one_fewer in
    let grown = grows_to w t (length w.links) (omega arith) in
    grown_cuts w.links grown.0 grown.1 grown.2
