-- The nodes below one, in a tree that has grown in preorder: they have places one after the other.
use Rattle.std.proofs.lemmas.Grind.{common_steps}
use Rattle.std.proofs.lemmas.Grind.{elements}
use Rattle.std.proofs.Common.{◌≡◌, ◌≢◌, ◌⊎◌, ℕ, zero, suc, ◌+◌, ◌<◌, ◌≤◌, true, false, cond, List, [], ◌∷◌, ◌++◌, length, take, drop}
use Rattle.std.proofs.Common.{reverse, refl, sym, ap, ◌∙◌, subst, inl, inr, arith, eqb, eq-eqb, get_or, max, not, replicate}
use Rattle.std.proofs.Common.{slice_set, slice_index_or}
use Rattle.std.proofs.lemmas.Bool.{ne_eqb, cases_Bool, cases_eq, cases_lt, both_ways, false≢true}
use Rattle.std.proofs.lemmas.List.{length-append, length-reverse, length-take, length-set}
use Rattle.std.proofs.lemmas.List.{take-append-drop, reverse-append}
use Rattle.std.proofs.lemmas.List.{get_or-set_same, get_or-set_other}
use Rattle.srm_net.specs.declared.link.LinkSpec.{LinkSpec}
use Rattle.srm_net.specs.declared.attaching.Attaching.{Attaching}
use Rattle.srm_net.specs.Growth.{attached, used, Grows, beyond, IsAbove, newest, IsInPreorder, place_in, IsSpan, TellsEnds}
use Rattle.srm_net.specs.Network.{Network, IsTree}
use Rattle.srm_net.specs.Paths.{is_in, route}
use Rattle.srm_net.specs.Rooting.{IsSubtree}
use Rattle.srm_net.proofs.Lists.{get_below, get_index}
use Rattle.srm_net.proofs.Numbers.{in_head, in_tail, in_cases}
use Rattle.srm_net.proofs.Growing.{used_fresh, beyond_unused, beyond_new, beyond_old, root_attached, all_attached, grown_cut}
use Rattle.srm_net.proofs.RouteLemmas.{route_path}
use Rattle.srm_net.proofs.Walks.{way_crosses}
use Rattle.srm_net.proofs.TreeWays.{grows_tail, reverse_more, no_step}
use Rattle.srm_net.proofs.Rootings.{place_most, place_root, in_later, place_kept}

-- ---- the node that was attached last

newest_place : (rs : List Attaching) → place_in rs (newest rs) ≡ length rs
newest_place [] = refl
newest_place (r ∷ rs) = rw (eq-eqb r.node r.node refl) (omega arith)

in_rest : (n x : ℕ) (rs : List Attaching) → is_in (n ∷ attached rs) x ≡ true → n ≢ x → is_in (attached rs) x ≡ true
in_rest n x rs i d = elim (in_cases n x (attached rs) i) [ inl e ↦ absurd (d e) | inr j ↦ j ]

-- each of these steps has an end past its own place, and not past the end of its parent
abbrev pub Chained : (ℕ → ℕ) → List Attaching → Type 0
Chained e [] = Unit {0}
Chained e (r ∷ rs) = (length rs + 2 ≤ e r.node) × (e r.node ≤ e r.parent) × Chained e rs

-- ---- at one of the steps

module _ (links : List LinkSpec) (s : Attaching) (ss : List Attaching) where
  used_all : (later : List Attaching) → is_in (used (later ++ s ∷ ss)) s.link ≡ true
  used_all [] = in_head s.link (used ss)
  used_all (r ∷ later) = in_tail r.link s.link (used (later ++ s ∷ ss)) (used_all later)

  other_link : (r : Attaching) (later : List Attaching) → Grows links (r ∷ later ++ s ∷ ss) → r.link ≢ s.link
  other_link r later g e =
      both_ways _ (used_fresh links r (later ++ s ∷ ss) g)
      (subst (λ l. is_in (used (later ++ s ∷ ss)) l ≡ true) (sym e) (used_all later))

  pub place_here : (later : List Attaching) → Grows links (later ++ s ∷ ss) → place_in (later ++ s ∷ ss) s.node ≡ length ss + 1
  place_here later g =
      place_kept links later (s ∷ ss) s.node g (in_head s.node (attached ss))
      ∙ ap (λ b. cond b (length ss + 1) (place_in ss s.node)) (eq-eqb s.node s.node refl)

  pub own_beyond : (later : List Attaching) → Grows links (later ++ s ∷ ss) → beyond (later ++ s ∷ ss) s.link s.node ≡ true
  own_beyond [] g = rw (eq-eqb s.node s.node refl, eq-eqb s.link s.link refl) refl
  own_beyond (r ∷ later) g =
      beyond_old r (later ++ s ∷ ss) s.link s.node g.0.node (in_later later (s ∷ ss) s.node (in_head s.node (attached ss)))
      ∙ own_beyond later g.1

  pub above_step : (later : List Attaching) → Grows links (later ++ s ∷ ss) → IsAbove (later ++ s ∷ ss) s.parent s.node
  above_step [] g l b =
      let p : beyond ss l s.parent ≡ true = sym (beyond_old s ss l s.parent g.0.node g.0.parent) ∙ b in
      beyond_new s ss l ∙ elim (cases_Bool (eqb s.link l)) [ inl e ↦ rw e refl | inr e ↦ rw e p ]
  above_step (r ∷ later) g l b =
      let old : Grows links (later ++ s ∷ ss) = g.1 in
      let a = parent_in later old in
      beyond_old r (later ++ s ∷ ss) l s.node g.0.node (in_later later (s ∷ ss) s.node (in_head s.node (attached ss)))
      ∙ above_step later old l (sym (beyond_old r (later ++ s ∷ ss) l s.parent g.0.node a) ∙ b)
    where
      parent_in : (later : List Attaching) → Grows links (later ++ s ∷ ss) → is_in (attached (later ++ s ∷ ss)) s.parent ≡ true
      parent_in [] g = in_tail s.node s.parent (attached ss) g.0.parent
      parent_in (r ∷ later) g = in_tail r.node s.parent (attached (later ++ s ∷ ss)) (parent_in later g.1)

  pub parent_earlier : (later : List Attaching) → Grows links (later ++ s ∷ ss) → place_in (later ++ s ∷ ss) s.parent ≤ length ss
  parent_earlier later g =
      let a = (grows_tail links later (s ∷ ss) g).0 in
      let d : s.node ≢ s.parent = λ e. both_ways _ a.node (subst (λ y. is_in (attached ss) y ≡ true) (sym e) a.parent) in
      let e : place_in (later ++ s ∷ ss) s.parent ≡ place_in ss s.parent =
      place_kept links later (s ∷ ss) s.parent g (in_tail s.node s.parent (attached ss) a.parent)
      ∙ ap (λ b. cond b (length ss + 1) (place_in ss s.parent)) (ne_eqb s.node s.parent d) in
      let k = place_most ss s.parent in
      omega arith

  -- what is beyond its link has no earlier place
  pub beyond_from : (later : List Attaching) → Grows links (later ++ s ∷ ss) → (x : ℕ) → beyond (later ++ s ∷ ss) s.link x ≡ true
      → length ss + 1 ≤ place_in (later ++ s ∷ ss) x
  beyond_from [] g x b =
      elim (cases_eq s.node x) [
        | inl e ↦ rw (eq-eqb s.node x e) (omega arith)
        | inr d ↦ (let old : beyond ss s.link x ≡ true = rw (ne_eqb s.node x d) at b in
            absurd (both_ways _ (beyond_unused ss s.link x (used_fresh links s ss g)) old))
      ]
  beyond_from (r ∷ later) g x b =
      elim (cases_eq r.node x) [
        | inl e ↦ rw (eq-eqb r.node x e) (let k = length-append later (s ∷ ss) in omega arith)
        | inr d ↦ (let old : beyond (later ++ s ∷ ss) s.link x ≡ true = rw (ne_eqb r.node x d) at b in
            rw (ne_eqb r.node x d) (beyond_from later g.1 x old))
      ]

  -- what has a place between it and one beyond its link is beyond it too
  pub convex : (later : List Attaching) → Grows links (later ++ s ∷ ss) → IsInPreorder (later ++ s ∷ ss) → (x y : ℕ)
      → beyond (later ++ s ∷ ss) s.link y ≡ true → length ss + 1 ≤ place_in (later ++ s ∷ ss) x
      → place_in (later ++ s ∷ ss) x ≤ place_in (later ++ s ∷ ss) y → beyond (later ++ s ∷ ss) s.link x ≡ true
  convex [] g o x y b low le =
      elim (cases_eq s.node x) [
        | inl e ↦ rw (eq-eqb s.node x e, eq-eqb s.link s.link refl) refl
        | inr d ↦ (let p : length ss + 1 ≤ place_in ss x = rw (ne_eqb s.node x d) at low in
            let k = place_most ss x in
            absurd (omega arith))
      ]
  convex (r ∷ later) g o x y b low le =
      elim (cases_eq r.node x) [
        | inl e ↦ elim (cases_eq r.node y) [
          | inl f ↦ subst (λ z. beyond (r ∷ later ++ s ∷ ss) s.link z ≡ true) (sym f ∙ e) b
          | inr f ↦ (let p : length (later ++ s ∷ ss) + 1 ≤ place_in (later ++ s ∷ ss) y =
              rw (eq-eqb r.node x e, ne_eqb r.node y f) at le in
              let k = place_most (later ++ s ∷ ss) y in
              absurd (omega arith))
        ]
        | inr d ↦ (let low2 : length ss + 1 ≤ place_in (later ++ s ∷ ss) x = rw (ne_eqb r.node x d) at low in
            rw (ne_eqb r.node x d) (elim (cases_eq r.node y) [
              | inl f ↦ (let over : beyond (later ++ s ∷ ss) s.link r.parent ≡ true =
                  rw (eq-eqb r.node y f, ne_eqb r.link s.link (other_link r later g)) at b in
                  let k = place_most (later ++ s ∷ ss) x in
                  let m = newest_place (later ++ s ∷ ss) in
                  convex later g.1 o.1 x (newest (later ++ s ∷ ss)) (o.0 s.link over) low2 (omega arith))
              | inr f ↦ (let under : beyond (later ++ s ∷ ss) s.link y ≡ true = rw (ne_eqb r.node y f) at b in
                  let le2 : place_in (later ++ s ∷ ss) x ≤ place_in (later ++ s ∷ ss) y =
                  rw (ne_eqb r.node x d, ne_eqb r.node y f) at le in
                  convex later g.1 o.1 x y under low2 le2)
            ]))
      ]

  -- what is beyond its link has an end past its place, and not past the end of its node
  pub chain : (e : ℕ → ℕ) (later : List Attaching) → Grows links (later ++ s ∷ ss) → Chained e (later ++ s ∷ ss) → (x : ℕ)
      → beyond (later ++ s ∷ ss) s.link x ≡ true → (place_in (later ++ s ∷ ss) x < e x) × (e x ≤ e s.node)
  chain e [] g h x b =
      elim (cases_eq s.node x) [
        | inl q ↦ subst (λ z. (place_in (s ∷ ss) z < e z) × (e z ≤ e s.node)) q
            (let k : length ss + 2 ≤ e s.node = h.0 in rw (eq-eqb s.node s.node refl) (omega arith, omega arith))
        | inr d ↦ (let old : beyond ss s.link x ≡ true = rw (ne_eqb s.node x d) at b in
            absurd (both_ways _ (beyond_unused ss s.link x (used_fresh links s ss g)) old))
      ]
  chain e (r ∷ later) g h x b =
      elim (cases_eq r.node x) [
        | inl q ↦ (let over : beyond (later ++ s ∷ ss) s.link r.parent ≡ true =
            rw (eq-eqb r.node x q, ne_eqb r.link s.link (other_link r later g)) at b in
            let up = chain e later g.1 h.2 r.parent over in
            let a : e r.parent ≤ e s.node = up.1 in
            let k : length (later ++ s ∷ ss) + 2 ≤ e r.node = h.0 in
            let m : e r.node ≤ e r.parent = h.1 in
            subst (λ z. (place_in (r ∷ later ++ s ∷ ss) z < e z) × (e z ≤ e s.node)) q
            (rw (eq-eqb r.node r.node refl) (omega arith, omega arith)))
        | inr d ↦ (let old : beyond (later ++ s ∷ ss) s.link x ≡ true = rw (ne_eqb r.node x d) at b in
            rw (ne_eqb r.node x d) (chain e later g.1 h.2 x old))
      ]

  pub span : (e : ℕ → ℕ) (later : List Attaching) → Grows links (later ++ s ∷ ss) → IsInPreorder (later ++ s ∷ ss)
      → Chained e (later ++ s ∷ ss) → (y : ℕ) → IsAbove (later ++ s ∷ ss) s.node y → place_in (later ++ s ∷ ss) y + 1 ≡ e s.node
      → IsSpan (later ++ s ∷ ss) s (e s.node)
  span e later g o h y a w =
      let here = place_here later g in
      let own = own_beyond later g in
      record {
        own = (chain e later g h s.node own).0;
        within = λ x i b.
            let low = beyond_from later g x b in
            let c = chain e later g h x b in
            let c0 : place_in (later ++ s ∷ ss) x < e x = c.0 in
            let c1 : e x ≤ e s.node = c.1 in
            (omega arith, omega arith);
        whole = λ x i low lt. convex later g o x y (a s.link own) (omega arith) (omega arith);
      }

-- ---- at each of the steps

abbrev pub step_at : List Attaching → ℕ → Attaching
step_at steps i = get_or steps i no_step

pub parted : (steps : List Attaching) (i : ℕ) → i < length steps
    → reverse steps ≡ reverse (drop (i + 1) steps) ++ step_at steps i ∷ reverse (take i steps)
parted steps i lt =
    ap reverse (sym (take-append-drop (i + 1) steps)) ∙ reverse-append (take (i + 1) steps) (drop (i + 1) steps)
    ∙ ap (λ ts. reverse (drop (i + 1) steps) ++ ts) (reverse_more steps i no_step lt)

before_count : (steps : List Attaching) (i : ℕ) → i ≤ length steps → length (reverse (take i steps)) ≡ i
before_count steps i le = length-reverse (take i steps) ∙ (let k = length-take i steps in omega arith)

-- the end that is told of a node
abbrev pub end_at : List ℕ → ℕ → ℕ
end_at ends u = slice_index_or ends u 0

-- some node that is below u, or u, is the last one before this end
abbrev pub EndsBelow : List Attaching → ℕ → ℕ → Type 0
EndsBelow ss u end = (y : ℕ) × IsAbove ss u y × (place_in ss y + 1 ≡ end)

-- what the ends tell once the steps from the i-th on are seen
pub record EndsFrom (steps : List Attaching) (i : ℕ) (ends : List ℕ) : Type 0 where
  pub root : 1 ≤ end_at ends 0
  pub chained : (j : ℕ) → i ≤ j → j < length steps → (j + 2 ≤ end_at ends (step_at steps j).node)
      × (end_at ends (step_at steps j).node ≤ end_at ends (step_at steps j).parent)
  pub below : (u : ℕ) → (end_at ends u ≡ 0) ⊎ EndsBelow (reverse steps) u (end_at ends u)

chained_up_to : (steps : List Attaching) (ends : List ℕ) → EndsFrom steps 0 ends → (n : ℕ) → n ≤ length steps
    → Chained (end_at ends) (reverse (take n steps))
chained_up_to steps ends h zero le = tt
chained_up_to steps ends h (suc n) le =
    let one : suc n ≡ n + 1 = omega arith in
    let k = h.chained n (omega arith) (omega arith) in
    let k0 : n + 2 ≤ end_at ends (step_at steps n).node = k.0 in
    let count = before_count steps n (omega arith) in
    let rest = chained_up_to steps ends h n (omega arith) in
    subst (Chained (end_at ends)) (sym (ap (λ m. reverse (take m steps)) one ∙ reverse_more steps n no_step (omega arith)))
    (omega arith, k.1, rest)

-- no end passes the one of node 0
under_root : (links : List LinkSpec) (e : ℕ → ℕ) (ss : List Attaching) → Grows links ss → Chained e ss → 1 ≤ e 0 → (x : ℕ)
    → is_in (attached ss) x ≡ true → (place_in ss x < e x) × (e x ≤ e 0)
under_root links e [] g h some x i =
    elim (in_cases 0 x [] i) [
      | inl q ↦ subst (λ z. (0 < e z) × (e z ≤ e 0)) q (omega arith, omega arith)
      | inr q ↦ absurd (false≢true q)
    ]
under_root links e (s ∷ ss) g h some x i =
    elim (cases_eq s.node x) [
      | inl q ↦ (let up = under_root links e ss g.1 h.2 some s.parent g.0.parent in
          let a : e s.parent ≤ e 0 = up.1 in
          let k : length ss + 2 ≤ e s.node = h.0 in
          let m : e s.node ≤ e s.parent = h.1 in
          subst (λ z. (place_in (s ∷ ss) z < e z) × (e z ≤ e 0)) q
          (rw (eq-eqb s.node s.node refl) (omega arith, omega arith)))
      | inr d ↦ rw (ne_eqb s.node x d) (under_root links e ss g.1 h.2 some x (in_rest s.node x ss i d))
    ]

all_chained : (steps : List Attaching) (ends : List ℕ) → EndsFrom steps 0 ends → Chained (end_at ends) (reverse steps)
all_chained steps ends h = grind (arith, common_steps, chained_up_to)

spans : (links : List LinkSpec) (steps : List Attaching) (ends : List ℕ) → Grows links (reverse steps) → IsInPreorder (reverse steps)
    → EndsFrom steps 0 ends → (i : ℕ) → i < length steps
    → IsSpan (reverse steps) (step_at steps i) (end_at ends (step_at steps i).node)
spans links steps ends g o h i lt =
    let s = step_at steps i in
    let later = reverse (drop (i + 1) steps) in
    let ss = reverse (take i steps) in
    let split = parted steps i lt in
    let whole = all_chained steps ends h in
    let k : i + 2 ≤ end_at ends s.node = (h.chained i (omega arith) lt).0 in
    elim (h.below s.node) [
      | inl none ↦ absurd (omega arith)
      | inr w ↦ subst (λ ts. IsSpan ts s (end_at ends s.node)) (sym split)
          (span links s ss (end_at ends) later (subst (Grows links) split g) (subst IsInPreorder split o)
          (subst (Chained (end_at ends)) split whole) w.0 (subst (λ ts. IsAbove ts s.node w.0) split w.1)
          (subst (λ ts. place_in ts w.0 + 1 ≡ end_at ends s.node) split w.2))
    ]

pub told_ends : (links : List LinkSpec) (steps : List Attaching) (ends : List ℕ) → Grows links (reverse steps)
    → IsInPreorder (reverse steps) → EndsFrom steps 0 ends → TellsEnds steps ends
told_ends links steps ends g o h = record {
  spans = λ i s e. subst (λ (z : Attaching). IsSpan (reverse steps) z (end_at ends z.node)) (get_index steps i s no_step e)
      (spans links steps ends g o h i (get_below steps i s e));
  nested = λ i s e. subst (λ (z : Attaching). end_at ends z.node ≤ end_at ends z.parent) (get_index steps i s no_step e)
      ((h.chained i (omega arith) (get_below steps i s e)).1);
  root = λ x i.
      let k = under_root links (end_at ends) (reverse steps) g (all_chained steps ends h) h.root x i in
      let k0 : place_in (reverse steps) x < end_at ends x = k.0 in
      let k1 : end_at ends x ≤ end_at ends 0 = k.1 in
      omega arith;
}

-- ---- one step more

zeros : (n u : ℕ) → end_at (replicate n 0) u ≡ 0
zeros zero u = refl
zeros (suc n) zero = refl
zeros (suc n) (suc u) = zeros n u

pub ends_none : (links : List LinkSpec) (steps : List Attaching) → Grows links (reverse steps) → (n : ℕ) (ends : List ℕ) → 1 ≤ n
    → ends ≡ replicate n 0 → EndsFrom steps (length steps) (slice_set ends 0 1)
ends_none links steps g n ends some e = grind (arith, place_root, zeros)

-- of two numbers the greater is one
one_of_max : (a b m : ℕ) → m ≡ max a b → ((m ≡ a) × (b ≤ a)) ⊎ ((m ≡ b) × (a ≤ b))
one_of_max a b m e = elim (cases_lt a b) [
  | inl h ↦ inr (omega arith, omega arith)
  | inr h ↦ inl (omega arith, omega arith)
]

module _ (links : List LinkSpec) (steps : List Attaching) (g : Grows links (reverse steps)) (i : ℕ) (lt : i < length steps) where
  grown : Grows links (reverse (drop (i + 1) steps) ++ step_at steps i ∷ reverse (take i steps))
  grown = subst (Grows links) (parted steps i lt) g

  pub step_place : place_in (reverse steps) (step_at steps i).node ≡ i + 1
  step_place = grind (arith, parted, place_here, grown, before_count)

  pub parent_place : place_in (reverse steps) (step_at steps i).parent ≤ i
  parent_place = grind (arith, parted, parent_earlier, grown, before_count)

  above_it : IsAbove (reverse steps) (step_at steps i).parent (step_at steps i).node
  above_it =
      subst (λ ts. IsAbove ts (step_at steps i).parent (step_at steps i).node) (sym (parted steps i lt))
      (above_step links (step_at steps i) (reverse (take i steps)) (reverse (drop (i + 1) steps)) grown)

module _ (links : List LinkSpec) (steps : List Attaching) (g : Grows links (reverse steps)) (i : ℕ) (lt : i < length steps) (ends : List ℕ)
    (hn : (step_at steps i).node < length ends) (hp : (step_at steps i).parent < length ends) (old : EndsFrom steps (i + 1) ends)
    (own top : ℕ) (eo : own ≡ max (end_at ends (step_at steps i).node) (i + 2))
    (et : top ≡ max (end_at (slice_set ends (step_at steps i).node own) (step_at steps i).parent) own) where
  abbrev mid : List ℕ
  mid = slice_set ends (step_at steps i).node own

  abbrev new : List ℕ
  new = slice_set (slice_set ends (step_at steps i).node own) (step_at steps i).parent top

  at_parent : end_at new (step_at steps i).parent ≡ top
  at_parent = grind (arith, get_or-set_same, length-set)

  at_other : (u : ℕ) → u ≢ (step_at steps i).node → u ≢ (step_at steps i).parent → end_at new u ≡ end_at ends u
  at_other u d f =
      get_or-set_other mid (step_at steps i).parent u top 0 f ∙ get_or-set_other ends (step_at steps i).node u own 0 d

  at_node : end_at new (step_at steps i).node ≡ own
  at_node = grind (arith, common_steps)

  top_is : top ≡ max (end_at ends (step_at steps i).parent) own
  top_is = grind (arith, elements)

  no_less : (u : ℕ) → end_at ends u ≤ end_at new u
  no_less u = grind (arith, at_parent, top_is, at_node, at_other)

  here_chained : (i + 2 ≤ end_at new (step_at steps i).node)
      × (end_at new (step_at steps i).node ≤ end_at new (step_at steps i).parent)
  here_chained = let a = at_node in let b = at_parent in let t = top_is in (omega arith, omega arith)

  chained_on : (j : ℕ) → i + 1 ≤ j → j < length steps → (j + 2 ≤ end_at new (step_at steps j).node)
      × (end_at new (step_at steps j).node ≤ end_at new (step_at steps j).parent)
  chained_on j le ltj =
      let p = step_place links steps g j ltj in
      let q = step_place links steps g i lt in
      let r = parent_place links steps g i lt in
      let d : (step_at steps j).node ≢ (step_at steps i).node = λ e. (let k = ap (place_in (reverse steps)) e in absurd (omega arith)) in
      let f : (step_at steps j).node ≢ (step_at steps i).parent = λ e. (let k = ap (place_in (reverse steps)) e in absurd (omega arith)) in
      let a = at_other (step_at steps j).node d f in
      let b = no_less (step_at steps j).parent in
      let h = old.chained j le ltj in
      let h0 : j + 2 ≤ end_at ends (step_at steps j).node = h.0 in
      let h1 : end_at ends (step_at steps j).node ≤ end_at ends (step_at steps j).parent = h.1 in
      (omega arith, omega arith)

  own_below : EndsBelow (reverse steps) (step_at steps i).node own
  own_below =
      elim (one_of_max (end_at ends (step_at steps i).node) (i + 2) own eo) [
        | inl c ↦ (let c0 : own ≡ end_at ends (step_at steps i).node = c.0 in
            let c1 : i + 2 ≤ end_at ends (step_at steps i).node = c.1 in
            elim (old.below (step_at steps i).node) [
              | inl none ↦ absurd (omega arith)
              | inr w ↦ subst (EndsBelow (reverse steps) (step_at steps i).node) (sym c0) w
            ])
        | inr c ↦ (
          (step_at steps i).node,
          λ l b. b,
          (let c0 : own ≡ i + 2 = c.0 in let p = step_place links steps g i lt in omega arith),
        )
      ]

  top_below : EndsBelow (reverse steps) (step_at steps i).parent top
  top_below =
      elim (one_of_max (end_at ends (step_at steps i).parent) own top top_is) [
        | inl c ↦ (let c0 : top ≡ end_at ends (step_at steps i).parent = c.0 in
            let c1 : own ≤ end_at ends (step_at steps i).parent = c.1 in
            elim (old.below (step_at steps i).parent) [
              | inl none ↦ absurd (omega arith)
              | inr w ↦ subst (EndsBelow (reverse steps) (step_at steps i).parent) (sym c0) w
            ])
        | inr c ↦ (let w = own_below in
            subst (EndsBelow (reverse steps) (step_at steps i).parent) (sym c.0)
            (w.0, λ l b. w.1 l (above_it links steps g i lt l b), w.2))
      ]

  pub ends_more : EndsFrom steps i new
  ends_more = record {
    root = (let a = old.root in let b = no_less 0 in omega arith);
    chained = λ j le ltj. elim (cases_eq j i) [
      | inl e ↦ subst (λ n. (n + 2 ≤ end_at new (step_at steps n).node)
          × (end_at new (step_at steps n).node ≤ end_at new (step_at steps n).parent)) (sym e) here_chained
      | inr d ↦ chained_on j (omega arith) ltj
    ];
    below = λ u. elim (cases_eq u (step_at steps i).parent) [
      | inl e ↦ inr (subst (λ z. EndsBelow (reverse steps) z (end_at new z)) (sym e)
          (subst (EndsBelow (reverse steps) (step_at steps i).parent) (sym at_parent) top_below))
      | inr f ↦ elim (cases_eq u (step_at steps i).node) [
        | inl e ↦ inr (subst (λ z. EndsBelow (reverse steps) z (end_at new z)) (sym e)
            (subst (EndsBelow (reverse steps) (step_at steps i).node) (sym at_node) own_below))
        | inr d ↦ subst (λ n. (n ≡ 0) ⊎ EndsBelow (reverse steps) u n) (sym (at_other u d f)) (old.below u)
      ]
    ];
  }

-- ---- in the tree

root_beyond : (links : List LinkSpec) (ss : List Attaching) → Grows links ss → (l : ℕ) → beyond ss l 0 ≡ false
root_beyond links [] g l = refl
root_beyond links (s ∷ ss) g l =
    let d : s.node ≢ 0 = λ e. both_ways _ g.0.node (subst (λ y. is_in (attached ss) y ≡ true) (sym e) (root_attached ss)) in
    rw (ne_eqb s.node 0 d) (root_beyond links ss g.1 l)

-- the way from node 0 to a node takes the links that the node is beyond
pub route_over : (w : Network) → IsTree w → (ss : List Attaching) → Grows w.links ss → length ss + 1 ≡ w.nodes → (l x : ℕ) → x < w.nodes
    → beyond ss l x ≡ is_in (route w 0 x) l
route_over w t ss g all l x hx =
    let one : length w.links + 1 ≡ w.nodes = t.one_fewer in
    let cut = grown_cut w.links ss g (omega arith) l in
    let r = route_path w t 0 x t.some_nodes hx in
    let over : beyond ss l x ≡ cond (is_in (route w 0 x) l) (not (beyond ss l 0)) (beyond ss l 0) =
    way_crosses w.links l (beyond ss l) cut 0 (route w 0 x) x r.0 r.1.0 r.1.1 in
    over ∙ ap (λ b. cond (is_in (route w 0 x) l) (not b) b) (root_beyond w.links ss g l)
    ∙ elim (is_in (route w 0 x) l) as (λ b. cond b true false ≡ b) [ true ↦ refl | false ↦ refl ]

pub subtree_of : (w : Network) → IsTree w → (ss : List Attaching) → Grows w.links ss → length ss + 1 ≡ w.nodes → (s : Attaching) (end : ℕ)
    → IsSpan ss s end → IsSubtree w (place_in ss) s.node s.link end
subtree_of w t ss g all s end h = grind (arith, all_attached, route_over)
