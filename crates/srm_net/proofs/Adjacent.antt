-- The links that meet a node, found one after the other.
use Rattle.std.proofs.Common.{◌≡◌, ℕ, zero, suc, ◌+◌, ◌<◌, ◌≤◌, true, false, List, [], ◌∷◌, ◌++◌, length, Some, sym, ap, ◌∙◌}
use Rattle.std.proofs.Common.{subst, inl, inr, arith, eqb, eq-eqb, slice_get, slice_set, get_or, cond}
use Rattle.std.proofs.lemmas.Bool.{cases_Bool, cases_eq, cases_lt, both_ways, or_left, or_right}
use Rattle.std.proofs.lemmas.List.{get_or-set_same, get_or-set_other, length-set}
use Rattle.srm_net.specs.declared.link.LinkSpec.{LinkSpec}
use Rattle.srm_net.specs.declared.earlier.Earlier.{Earlier}
use Rattle.srm_net.specs.declared.adjacency.Adjacency.{Adjacency}
use Rattle.srm_net.specs.Network.{Joins}
use Rattle.srm_net.specs.Tables.{far_from}
use Rattle.srm_net.specs.Adjacencies.{meets_node, last_meeting, TellsEarlier, TellsLinks}
use Rattle.srm_net.proofs.Lists.{get_index, index_get, get_push_old, get_push_new}
use Rattle.srm_net.proofs.Walks.{same_far}

-- ---- a link that meets a node

pub meets_joined : (k : LinkSpec) (u x : ℕ) → Joins k u x → meets_node u (Some k) ≡ true
meets_joined k u x (inl p) = or_left _ _ (eq-eqb k.a u p.0)
meets_joined k u x (inr p) = or_right _ _ (eq-eqb k.b u p.0)

pub joins_other : (k : LinkSpec) (u : ℕ) → meets_node u (Some k) ≡ true → Joins k u (far_from k u)
joins_other k u m = grind arith

pub other_is : (k : LinkSpec) (u x : ℕ) → Joins k u x → far_from k u ≡ x
other_is k u x j = same_far k u (far_from k u) x (joins_other k u (meets_joined k u x j)) j

-- ---- the last link of some

pub last_at_most : (links : List LinkSpec) (u n : ℕ) → last_meeting links u n ≤ n
last_at_most links u zero = omega arith
last_at_most links u (suc n) =
    elim (cases_Bool (meets_node u (slice_get links n))) [
      | inl e ↦ rw e (omega arith)
      | inr e ↦ rw e (let k = last_at_most links u n in omega arith)
    ]

-- no later one meets the node
pub last_misses : (links : List LinkSpec) (u n l : ℕ) → last_meeting links u n ≤ l → l < n → meets_node u (slice_get links l) ≡ false
last_misses links u zero l h lt = absurd (omega arith)
last_misses links u (suc n) l h lt =
    elim (cases_Bool (meets_node u (slice_get links n))) [
      | inl e ↦ (let g : n + 1 ≤ l = rw e at h in absurd (omega arith))
      | inr e ↦ (let g : last_meeting links u n ≤ l = rw e at h in
          elim (cases_eq l n) [
            | inl q ↦ subst (λ t. meets_node u (slice_get links t) ≡ false) (sym q) e
            | inr q ↦ last_misses links u n l g (omega arith)
          ])
    ]

pub record Met (links : List LinkSpec) (u n m : ℕ) : Type 0 where
  pub below : m < n
  pub met : meets_node u (slice_get links m) ≡ true

pub last_meets : (links : List LinkSpec) (u n m : ℕ) → last_meeting links u n ≡ m + 1 → Met links u n m
last_meets links u zero m e = absurd (omega arith)
last_meets links u (suc n) m e =
    elim (cases_Bool (meets_node u (slice_get links n))) [
      | inl q ↦ (let g : n + 1 ≡ m + 1 = rw q at e in
          let same : n ≡ m = omega arith in
          record { below = omega arith; met = subst (λ t. meets_node u (slice_get links t) ≡ true) same q })
      | inr q ↦ (let g : last_meeting links u n ≡ m + 1 = rw q at e in
          let r = last_meets links u n m g in
          record { below = (let k : m < n = r.below in omega arith); met = r.met })
    ]

-- ---- one link more

-- the last links of nodes, told for the first n links
abbrev pub LastTold : List LinkSpec → ℕ → List ℕ → Type 0
LastTold links n xs = (u : ℕ) → u < length xs → get_or xs u 0 ≡ last_meeting links u n

pub last_set : (links : List LinkSpec) (n : ℕ) (k : LinkSpec) (xs : List ℕ) → slice_get links n ≡ Some k → k.a < length xs
    → k.b < length xs → LastTold links n xs
    → LastTold links (n + 1) (slice_set (slice_set xs k.a (n + 1)) k.b (n + 1))
last_set links n k xs g ha hb t u lt = grind (arith, length-set, get_or-set_same, get_or-set_other)

-- what is told of the first n links
abbrev pub EarlierTold : List LinkSpec → ℕ → List Earlier → Type 0
EarlierTold links n es =
    (l : ℕ) (k : LinkSpec) → l < n → slice_get links l ≡ Some k → (e : Earlier) × (slice_get es l ≡ Some e) × TellsEarlier links l k e

pub earlier_push : (links : List LinkSpec) (n : ℕ) (k : LinkSpec) (es : List Earlier) (e : Earlier) → length es ≡ n
    → slice_get links n ≡ Some k → TellsEarlier links n k e → EarlierTold links n es → EarlierTold links (n + 1) (es ++ e ∷ [])
earlier_push links n k es e long g new t l j lt h = grind (arith, get_push_new, get_push_old)

-- ---- one link after the other

-- a link of no use but as a default
abbrev pub no_link : LinkSpec
no_link = record { a = 0; b = 0; delay = 0; back = 0 }

-- the link that is told, and what is known of it
pub record Turn (links : List LinkSpec) (u m : ℕ) : Type 0 where
  pub below : m < length links
  pub link : slice_get links m ≡ Some (get_or links m no_link)
  pub meets_it : meets_node u (Some (get_or links m no_link)) ≡ true
  pub joins : Joins (get_or links m no_link) u (far_from (get_or links m no_link) u)

pub turn_told : (links : List LinkSpec) (u n next m : ℕ) → n ≤ length links → next ≡ last_meeting links u n → next ≡ m + 1 → Turn links u m
turn_told links u n next m le e f =
    let r = last_meets links u n m (sym e ∙ f) in
    let below : m < length links = (let b : m < n = r.below in omega arith) in
    let g : slice_get links m ≡ Some (get_or links m no_link) = index_get links m no_link below in
    let here : meets_node u (Some (get_or links m no_link)) ≡ true = sym (ap (meets_node u) g) ∙ r.met in
    record { below = below; link = g; meets_it = here; joins = joins_other (get_or links m no_link) u here }

-- the same as it is read
pub before_told : (nodes : ℕ) (links : List LinkSpec) (u m i j : ℕ) (t : Adjacency) (r : Earlier) (v : ℕ) → TellsLinks nodes links t
    → Turn links u m → i ≡ m → j ≡ m → r ≡ get_or t.earlier.items j r → v ≡ cond (eqb (get_or links i no_link).a u) r.a r.b
    → v ≡ last_meeting links u m
before_told nodes links u m i j t r v told turn p q e f = grind (arith, get_index)

-- after a link, those that were not told yet are before it
pub told_from : (links : List LinkSpec) (u before m l : ℕ) (k : LinkSpec) (x : ℕ) → before ≡ last_meeting links u m → before ≤ l
    → slice_get links l ≡ Some k → Joins k u x → m ≤ l
told_from links u before m l k x e le g j =
    elim (cases_lt l m) [
      | inl lt ↦ absurd (both_ways _ (last_misses links u m l (omega arith) lt) (ap (meets_node u) g ∙ meets_joined k u x j))
      | inr ge ↦ ge
    ]
