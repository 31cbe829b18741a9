-- Positions in a rooted tree, made one after the other, and climbs over them.
use Rattle.std.proofs.Common.{◌≡◌, ◌≢◌, ◌⊎◌, ℕ, zero, suc, ◌+◌, ◌<◌, ◌≤◌, true, false, cond, List, [], ◌∷◌, ◌++◌, length}
use Rattle.std.proofs.Common.{refl, sym, ap}
use Rattle.std.proofs.Common.{◌∙◌, subst, inl, inr, arith, eqb, eq-eqb, slice_get, All, get_or, take, drop, reverse}
use Rattle.std.proofs.Common.{slice_set, slice_index_or, replicate}
use Rattle.std.proofs.lemmas.Bool.{ne_eqb, cases_Bool, cases_eq, both_ways, false≢true}
use Rattle.std.proofs.lemmas.List.{length-append, length-reverse, length-take, take-append-drop, reverse-append}
use Rattle.std.proofs.lemmas.List.{get_or-set_same, get_or-set_other}
use Rattle.srm_net.specs.declared.link.LinkSpec.{LinkSpec}
use Rattle.srm_net.specs.declared.position.Position.{Position}
use Rattle.srm_net.specs.declared.attaching.Attaching.{Attaching}
use Rattle.srm_net.specs.Growth.{Attaches, attached, Grows, place_in}
use Rattle.srm_net.specs.Network.{Network, Joins, IsWalk, IsTree, HasDelays, IsNetwork}
use Rattle.srm_net.specs.Paths.{is_in, route, hops_between, delay_of, delay_along}
use Rattle.srm_net.specs.Rooting.{takes, at, IsParent, IsPassed, IsSubtree, IsPosition, IsRooted, MayFollow, Follows}
use Rattle.srm_net.proofs.Lists.{get_below, all_get}
use Rattle.srm_net.proofs.Numbers.{in_head, in_tail, in_cases, not_in, distinct_from_apart}
use Rattle.srm_net.proofs.Walks.{turned}
use Rattle.srm_net.proofs.Growing.{root_attached, all_attached, attached_below}
use Rattle.srm_net.proofs.RouteLemmas.{route_path, route_only}
use Rattle.srm_net.proofs.PathLaws.{delay_bounded, from_fits, route_nowhere}
use Rattle.srm_net.proofs.TreeWays.{both_ways_grown, delay_push, grows_tail, reverse_more, no_step}
use Rattle.srm_net.proofs.SpreadLemmas.{end_joined, route_there}

-- ---- places

pub place_most : (ss : List Attaching) (v : ℕ) → place_in ss v ≤ length ss
place_most [] v = omega arith
place_most (s ∷ ss) v =
    elim (cases_Bool (eqb s.node v)) [ inl e ↦ rw e (omega arith) | inr e ↦ rw e (let k = place_most ss v in omega arith) ]

pub in_later : (later ss : List Attaching) (v : ℕ) → is_in (attached ss) v ≡ true → is_in (attached (later ++ ss)) v ≡ true
in_later [] ss v i = i
in_later (r ∷ later) ss v i = in_tail r.node v (attached (later ++ ss)) (in_later later ss v i)

-- later steps leave places as they are
pub place_kept : (links : List LinkSpec) (later ss : List Attaching) (v : ℕ) → Grows links (later ++ ss) → is_in (attached ss) v ≡ true
    → place_in (later ++ ss) v ≡ place_in ss v
place_kept links [] ss v g i = refl
place_kept links (r ∷ later) ss v g i =
    let d : r.node ≢ v = λ e. both_ways _ g.0.node (subst (λ y. is_in (attached (later ++ ss)) y ≡ true) (sym e) (in_later later ss v i)) in
    rw (ne_eqb r.node v d) (place_kept links later ss v g.1 i)

-- a node of a place that some steps reach is attached by them
placed_before : (later ss : List Attaching) (v : ℕ) → is_in (attached (later ++ ss)) v ≡ true → place_in (later ++ ss) v ≤ length ss
    → is_in (attached ss) v ≡ true
placed_before [] ss v i h = i
placed_before (s ∷ later) ss v i h =
    elim (cases_eq s.node v) [
      | inl e ↦ (let big : length (later ++ ss) + 1 ≤ length ss = rw (eq-eqb s.node v e) at h in
          let k = length-append later ss in
          absurd (omega arith))
      | inr d ↦ (let low : place_in (later ++ ss) v ≤ length ss = rw (ne_eqb s.node v d) at h in
          placed_before later ss v (elim (in_cases s.node v (attached (later ++ ss)) i) [ inl e ↦ absurd (d e) | inr j ↦ j ]) low)
    ]

pub place_apart : (ss : List Attaching) (u v : ℕ) → is_in (attached ss) u ≡ true → is_in (attached ss) v ≡ true
    → place_in ss u ≡ place_in ss v → u ≡ v
place_apart [] u v i j e =
    elim (in_cases 0 u [] i) [
      | inl p ↦ elim (in_cases 0 v [] j) [ inl q ↦ sym p ∙ q | inr q ↦ absurd (false≢true q) ]
      | inr p ↦ absurd (false≢true p)
    ]
place_apart (s ∷ ss) u v i j e =
    elim (cases_eq s.node u) [
      | inl p ↦ elim (cases_eq s.node v) [
        | inl q ↦ sym p ∙ q
        | inr q ↦ (let f : length ss + 1 ≡ place_in ss v = rw (eq-eqb s.node u p, ne_eqb s.node v q) at e in
            let k = place_most ss v in
            absurd (omega arith))
      ]
      | inr p ↦ elim (cases_eq s.node v) [
        | inl q ↦ (let f : place_in ss u ≡ length ss + 1 = rw (ne_eqb s.node u p, eq-eqb s.node v q) at e in
            let k = place_most ss u in
            absurd (omega arith))
        | inr q ↦ (let f : place_in ss u ≡ place_in ss v = rw (ne_eqb s.node u p, ne_eqb s.node v q) at e in
            place_apart ss u v (old ss s.node u i p) (old ss s.node v j q) f)
      ]
    ]
  where
    old : (ss : List Attaching) (n y : ℕ) → is_in (n ∷ attached ss) y ≡ true → n ≢ y → is_in (attached ss) y ≡ true
    old ss n y i d = elim (in_cases n y (attached ss) i) [ inl e ↦ absurd (d e) | inr j ↦ j ]

pub place_root : (links : List LinkSpec) (ss : List Attaching) → Grows links ss → place_in ss 0 ≡ 0
place_root links [] g = refl
place_root links (s ∷ ss) g =
    let d : s.node ≢ 0 = λ e. both_ways _ g.0.node (subst (λ y. is_in (attached ss) y ≡ true) (sym e) (root_attached ss)) in
    rw (ne_eqb s.node 0 d) (place_root links ss g.1)

-- ---- over a parent and over a jump

pub takes_nothing : (w : Network) (u : ℕ) → takes w u u ≡ 0
takes_nothing w u = ap (delay_along w.links u) (route_nowhere w u)

pub parent_there : (w : Network) (place : ℕ → ℕ) (u p l : ℕ) → IsParent w place u p l → (v : ℕ) → v < w.nodes → place v < place u
    → takes w u v ≡ delay_of u (slice_get w.links l) + takes w p v
parent_there w place u p l h v hv lt = grind arith

pub parent_back : (w : Network) → IsTree w → (place : ℕ → ℕ) (u p l : ℕ) → u < w.nodes → IsParent w place u p l → (v : ℕ) → v < w.nodes
    → place v < place u → takes w v u ≡ takes w v p + delay_of p (slice_get w.links l)
parent_back w t place u p l hu h v hv lt =
    let r = route_path w t v p hv h.node in
    ap (delay_along w.links v) (route_there w t v u p l hv hu h.node (h.route v hv lt) h.leads)
    ∙ delay_push w.links v (route w v p) p r.0 l r.1.0

pub parent_links : (w : Network) (place : ℕ → ℕ) (u p l : ℕ) → IsParent w place u p l → (v : ℕ) → v < w.nodes → place v < place u
    → hops_between w u v ≡ hops_between w p v + 1
parent_links w place u p l h v hv lt = ap length (h.route v hv lt) ∙ (omega arith)

pub passed_parent : (w : Network) → IsTree w → (place : ℕ → ℕ) (u p l : ℕ) → u < w.nodes → IsParent w place u p l → IsPassed w place u p
passed_parent w t place u p l hu h =
    let low : place p < place u = h.earlier in
    let e = takes_nothing w p in
    record {
      node = h.node;
      there = λ v hv le.
          let a = parent_there w place u p l h v hv (omega arith) in
          let b = parent_there w place u p l h p h.node low in
          omega arith;
      back = λ v hv le.
          let a = parent_back w t place u p l hu h v hv (omega arith) in
          let b = parent_back w t place u p l hu h p h.node low in
          omega arith;
      hops = λ v hv le.
          let a = parent_links w place u p l h v hv (omega arith) in
          let b = parent_links w place u p l h p h.node low in
          let c : hops_between w p p ≡ 0 = ap length (route_nowhere w p) in
          omega arith;
    }

pub passed_on : (w : Network) (place : ℕ → ℕ) (u p j : ℕ) → IsPassed w place u p → IsPassed w place p j → place j ≤ place p
    → IsPassed w place u j
passed_on w place u p j a b low = grind arith

-- ---- a node that is attached

module _ (w : Network) (t : IsTree w) (later : List Attaching) (s : Attaching) (ss : List Attaching) (g : Grows w.links (later ++ s ∷ ss))
    (inside : (v : ℕ) → v < w.nodes → is_in (attached (later ++ s ∷ ss)) v ≡ true)
    (below : (v : ℕ) → is_in (attached (later ++ s ∷ ss)) v ≡ true → v < w.nodes) where
  pub here : Grows w.links (s ∷ ss)
  here = grows_tail w.links later (s ∷ ss) g

  pub place_new : place_in (later ++ s ∷ ss) s.node ≡ length ss + 1
  place_new =
      place_kept w.links later (s ∷ ss) s.node g (in_head s.node (attached ss))
      ∙ ap (λ b. cond b (length ss + 1) (place_in ss s.node)) (eq-eqb s.node s.node refl)

  pub attached_before : (v : ℕ) → v < w.nodes → place_in (later ++ s ∷ ss) v ≤ length ss → is_in (attached ss) v ≡ true
  attached_before v hv h =
      let i = placed_before later (s ∷ ss) v (inside v hv) (omega arith) in
      elim (in_cases s.node v (attached ss) i) [
        | inl e ↦ (let p : place_in (later ++ s ∷ ss) v ≡ length ss + 1 = subst (λ y. place_in (later ++ s ∷ ss) y ≡ length ss + 1) e
            place_new
            in absurd (omega arith))
        | inr j ↦ j
      ]

  pub place_before : (v : ℕ) → is_in (attached ss) v ≡ true → place_in (later ++ s ∷ ss) v ≤ length ss
  place_before v i =
      let d : s.node ≢ v = λ e. both_ways _ here.0.node (subst (λ y. is_in (attached ss) y ≡ true) (sym e) i) in
      let e : place_in (later ++ s ∷ ss) v ≡ place_in ss v = place_kept w.links later (s ∷ ss) v g (in_tail s.node v (attached ss) i)
      ∙ ap (λ b. cond b (length ss + 1) (place_in ss v)) (ne_eqb s.node v d) in
      let k = place_most ss v in
      omega arith

  pub attached_node : (v : ℕ) → is_in (attached ss) v ≡ true → v < w.nodes
  attached_node v i = below v (in_later later (s ∷ ss) v (in_tail s.node v (attached ss) i))

  pub new_node : s.node < w.nodes
  new_node = below s.node (in_later later (s ∷ ss) s.node (in_head s.node (attached ss)))

  pub parent_of_new : IsParent w (place_in (later ++ s ∷ ss)) s.node s.parent s.link
  parent_of_new =
      let a = here.0 in
      let low = place_before s.parent a.parent in
      let new = place_new in
      let joins : Joins a.spec s.node s.parent = turned a.spec s.parent s.node a.joins in
      record {
        node = attached_node s.parent a.parent;
        earlier = omega arith;
        link = get_below w.links s.link a.spec a.link;
        leads = end_joined w.links s.link a.spec s.node s.parent a.link joins;
        route = λ v hv lt.
            let old = attached_before v hv (omega arith) in
            let way = (both_ways_grown w.links ss here.1 s.parent v a.parent old).there in
            let fresh : is_in way.nodes s.node ≡ false = not_in way.nodes s.node (λ i. both_ways _ a.node (way.within s.node i)) in
            let walk : IsWalk w.links s.node (s.link ∷ way.path) v (s.node ∷ way.nodes) =
            (a.spec, s.parent, way.nodes, a.link, joins, refl, way.walk) in
            let far : s.link ∷ way.path ≡ route w s.node v = route_only w t s.node v new_node hv (s.link ∷ way.path) (s.node ∷ way.nodes)
            walk
            (fresh, way.apart) in
            let near : way.path ≡ route w s.parent v = route_only w t s.parent v (attached_node s.parent a.parent) hv way.path way.nodes
            way.walk way.apart in
            sym far ∙ ap (λ ls. s.link ∷ ls) near;
      }

  pub position_new : (end : ℕ) (above far new : Position) → 1 ≤ w.nodes
      → IsSubtree w (place_in (later ++ s ∷ ss)) s.node s.link end
      → IsPosition w (place_in (later ++ s ∷ ss)) s.parent above
      → IsPosition w (place_in (later ++ s ∷ ss)) above.jump far
      → Follows w.links (length ss + 1) end s above far new → IsPosition w (place_in (later ++ s ∷ ss)) s.node new
  position_new end above far new some sub p q f =
      let place = place_in (later ++ s ∷ ss) in
      let h = parent_of_new in
      let there = place_new in
      let low = place_before s.parent here.0.parent in
      let root : place 0 ≡ 0 = place_root w.links (later ++ s ∷ ss) g in
      let over = passed_parent w t place s.node s.parent s.link new_node h in
      let depth : above.depth ≤ place s.parent = p.depth_low in
      let deeper : new.depth ≡ above.depth + 1 = f.depth_is in
      let q1 : place above.jump ≤ place s.parent = p.jump_above in
      let q2 : place far.jump ≤ place above.jump = q.jump_above in
      let jump : IsPassed w place s.node new.jump × (place new.jump < place s.node) = elim f.jump_is [
        | inl e ↦ subst (λ j. IsPassed w place s.node j × (place j < place s.node)) (sym e) (over, h.earlier)
        | inr e ↦ subst (λ j. IsPassed w place s.node j × (place j < place s.node)) (sym e) (
          passed_on w place s.node above.jump far.jump (passed_on w place s.node s.parent above.jump over p.jump q1) q.jump q2,
          omega arith,
        )
      ] in
      let earlier : place new.jump < place s.node = jump.1 in
      record {
        place_is = f.place_is ∙ sym there;
        depth = f.depth_is ∙ ap (λ n. n + 1) p.depth ∙ sym (parent_links w place s.node s.parent s.link h 0 some (omega arith));
        depth_low = omega arith;
        parent = λ _. subst (λ a. IsParent w place s.node a new.link) (sym f.parent_is)
            (subst (λ l. IsParent w place s.node s.parent l) (sym f.link_is) h);
        subtree = λ _. subst (λ l. IsSubtree w place s.node l new.end) (sym f.link_is)
            (subst (IsSubtree w place s.node s.link) (sym f.end_is) sub);
        jump = jump.0;
        jump_earlier = λ _. earlier;
        jump_above = omega arith;
        up = f.up_is ∙ ap (λ n. delay_of s.node (slice_get w.links s.link) + n) p.up
            ∙ sym (parent_there w place s.node s.parent s.link h 0 some (omega arith));
        down = f.down_is ∙ ap (λ n. n + delay_of s.parent (slice_get w.links s.link)) p.down
            ∙ sym (parent_back w t place s.node s.parent s.link new_node h 0 some (omega arith));
      }

-- ---- at one of the steps

pub network_of : (w : Network) → IsTree w → All HasDelays w.links → w.hosts ≡ [] → IsNetwork w
network_of w t d e = grind (arith, distinct_from_apart)

module _ (w : Network) (t : IsTree w) (steps : List Attaching) (g : Grows w.links (reverse steps)) (all : length steps + 1 ≡ w.nodes)
    (i : ℕ) (lt : i < length steps) where
  s : Attaching
  s = get_or steps i no_step

  split : reverse steps ≡ reverse (drop (i + 1) steps) ++ get_or steps i no_step ∷ reverse (take i steps)
  split =
      ap reverse (sym (take-append-drop (i + 1) steps)) ∙ reverse-append (take (i + 1) steps) (drop (i + 1) steps)
      ∙ ap (λ ts. reverse (drop (i + 1) steps) ++ ts) (reverse_more steps i no_step lt)

  grown : Grows w.links (reverse (drop (i + 1) steps) ++ get_or steps i no_step ∷ reverse (take i steps))
  grown = subst (Grows w.links) split g

  inside : (v : ℕ) → v < w.nodes
      → is_in (attached (reverse (drop (i + 1) steps) ++ get_or steps i no_step ∷ reverse (take i steps))) v ≡ true
  inside v h = grind (arith, split, all_attached, length-reverse)

  below : (v : ℕ) → is_in (attached (reverse (drop (i + 1) steps) ++ get_or steps i no_step ∷ reverse (take i steps))) v ≡ true
      → v < w.nodes
  below v h =
      attached_below w.nodes w.links (reverse steps) t.some_nodes t.ends g v
      (subst (λ ts. is_in (attached ts) v ≡ true) (sym split) h)

  count : length (reverse (take i steps)) ≡ i
  count = length-reverse (take i steps) ∙ (let k = length-take i steps in omega arith)

  pub step_here : Attaches w.links (attached (reverse (take i steps))) (get_or steps i no_step)
  step_here =
      (here w t (reverse (drop (i + 1) steps)) (get_or steps i no_step) (reverse (take i steps)) grown inside below).0

  pub step_parent : (get_or steps i no_step).parent < w.nodes
  step_parent = grind (arith, attached_node, grown, inside, below, step_here)

  pub step_node : (get_or steps i no_step).node < w.nodes
  step_node = new_node w t (reverse (drop (i + 1) steps)) (get_or steps i no_step) (reverse (take i steps)) grown inside below

  pub parent_low : place_in (reverse steps) (get_or steps i no_step).parent ≤ i
  parent_low =
      subst (λ ts. place_in ts (get_or steps i no_step).parent ≤ i) (sym split)
      (subst (λ n. place_in (reverse (drop (i + 1) steps) ++ get_or steps i no_step ∷ reverse (take i steps))
      (get_or steps i no_step).parent ≤ n) count
      (place_before w t (reverse (drop (i + 1) steps)) (get_or steps i no_step) (reverse (take i steps)) grown inside below
      (get_or steps i no_step).parent step_here.parent))

  pub jump_attached : (q : Position) → IsPosition w (place_in (reverse steps)) (get_or steps i no_step).parent q
      → is_in (attached (reverse (take i steps))) q.jump ≡ true
  jump_attached q p =
      let a : place_in (reverse steps) q.jump ≤ place_in (reverse steps) (get_or steps i no_step).parent = p.jump_above in
      let b : place_in (reverse steps) (get_or steps i no_step).parent ≤ i = parent_low in
      let c : place_in (reverse steps) q.jump ≤ length (reverse (take i steps)) = (let k = count in omega arith) in
      attached_before w t (reverse (drop (i + 1) steps)) (get_or steps i no_step) (reverse (take i steps)) grown inside below q.jump
      p.jump.node (subst (λ ts. place_in ts q.jump ≤ length (reverse (take i steps))) split c)

  pub may_follow : IsNetwork w → (ps : List Position) → length ps ≡ w.nodes
      → ((u : ℕ) → is_in (attached (reverse (take i steps))) u ≡ true → IsPosition w (place_in (reverse steps)) u (at ps u))
      → MayFollow w.links ps (get_or steps i no_step)
  may_follow n ps long told =
      let s = get_or steps i no_step in
      let a = step_here in
      let p = told s.parent a.parent in
      let q = told (at ps s.parent).jump (jump_attached (at ps s.parent) p) in
      let low : place_in (reverse steps) s.parent ≤ i = parent_low in
      let fits = all_get HasDelays w.links s.link a.spec n.delays a.link in
      let up = delay_bounded w n s.parent 0 step_parent t.some_nodes in
      let down = delay_bounded w n 0 s.parent t.some_nodes step_parent in
      record {
        link = get_below w.links s.link a.spec a.link;
        parent = subst (λ m. s.parent < m) (sym long) step_parent;
        far = subst (λ m. (at ps s.parent).jump < m) (sym long) p.jump.node;
        farther = subst (λ m. (at ps (at ps s.parent).jump).jump < m) (sym long) q.jump.node;
        depth = omega (arith, p.depth_low, t.few_nodes);
        up = rw a.link (omega (arith, p.up, up, (from_fits s.node a.spec fits).1));
        down = rw a.link (omega (arith, p.down, down, (from_fits s.parent a.spec fits).1));
      }

  pub step_position : (end : ℕ) (above far new : Position)
      → IsSubtree w (place_in (reverse steps)) (get_or steps i no_step).node (get_or steps i no_step).link end
      → IsPosition w (place_in (reverse steps)) (get_or steps i no_step).parent above
      → IsPosition w (place_in (reverse steps)) above.jump far → Follows w.links (i + 1) end (get_or steps i no_step) above far new
      → IsPosition w (place_in (reverse steps)) (get_or steps i no_step).node new
  step_position end above far new sub p q f =
      subst (λ ts. IsPosition w (place_in ts) (get_or steps i no_step).node new) (sym split)
      (position_new w t (reverse (drop (i + 1) steps)) (get_or steps i no_step) (reverse (take i steps)) grown inside below end above far
      new t.some_nodes
      (subst (λ ts. IsSubtree w (place_in ts) (get_or steps i no_step).node (get_or steps i no_step).link end) split sub)
      (subst (λ ts. IsPosition w (place_in ts) (get_or steps i no_step).parent above) split p)
      (subst (λ ts. IsPosition w (place_in ts) above.jump far) split q)
      (subst (λ n. Follows w.links (n + 1) end (get_or steps i no_step) above far new) (sym count) f))

-- the root, with this end
abbrev pub root_with : ℕ → Position
root_with end = record { place = 0; end = end; depth = 0; parent = 0; link = 0; jump = 0; up = 0; down = 0 }

pub root_position : (w : Network) (place : ℕ → ℕ) (end : ℕ) → 1 ≤ w.nodes → place 0 ≡ 0 → IsPosition w place 0 (root_with end)
root_position w place end some e = grind (arith, takes_nothing, route_nowhere)

pub each_alike : (n u : ℕ) (q : Position) → u < n → at (replicate n q) u ≡ q
each_alike zero u q h = absurd (omega arith)
each_alike (suc n) zero q h = refl
each_alike (suc n) (suc u) q h = each_alike n u q (omega arith)

-- one position more, of which each tells something
pub position_set : (P : ℕ → Position → Type 0) (ss : List Attaching) (s : Attaching) (ps : List Position) (q : Position)
    → is_in (attached ss) s.node ≡ false → s.node < length ps
    → ((u : ℕ) → is_in (attached ss) u ≡ true → P u (at ps u))
    → P s.node q → (u : ℕ) → is_in (attached (s ∷ ss)) u ≡ true → P u (at (slice_set ps s.node q) u)
position_set P ss s ps q new h told here u i = grind (arith, get_or-set_same, get_or-set_other)

-- what is known of the end of a position while others are missing
pub record HasEnd (ends : List ℕ) (place : ℕ → ℕ) (u : ℕ) (q : Position) : Type 0 where
  pub is : q.end ≡ slice_index_or ends u 0
  pub under : 1 ≤ place u → slice_index_or ends u 0 ≤ slice_index_or ends q.parent 0

-- ---- a hop towards another node

-- a node above u from which the way to v, and from it, go on
pub record Hop (w : Network) (ps : List Position) (u v x : ℕ) : Type 0 where
  pub node : x < w.nodes
  pub earlier : (at ps x).place < (at ps u).place
  pub up_low : (at ps x).up ≤ (at ps u).up
  pub down_low : (at ps x).down ≤ (at ps u).down
  pub there : takes w u v + (at ps x).up ≡ (at ps u).up + takes w x v
  pub back : takes w v u + (at ps x).down ≡ (at ps u).down + takes w v x
  pub hops : hops_between w u v + (at ps x).depth ≡ (at ps u).depth + hops_between w x v

pub hop : (w : Network) (ps : List Position) (r : IsRooted w ps) → (u v x : ℕ) → u < w.nodes → v < w.nodes
    → (at ps v).place < (at ps u).place
    → ((x ≡ (at ps u).jump) × ((at ps v).place ≤ (at ps (at ps u).jump).place)) ⊎ (x ≡ (at ps u).parent) → Hop w ps u v x
hop w ps r u v x hu hv lt which =
    let t : IsTree w = r.tree in
    let pu = r.each u hu in
    let pv = r.each v hv in
    let some : 1 ≤ w.nodes = t.some_nodes in
    let root : r.place 0 ≡ 0 = r.root in
    let eu : (at ps u).place ≡ r.place u = pu.place_is in
    let ev : (at ps v).place ≡ r.place v = pv.place_is in
    elim which [
      | inl c ↦ subst (λ y. Hop w ps u v y) (sym c.0) (
          let j = (at ps u).jump in
          let h = pu.jump in
          let pj = r.each j h.node in
          let ej : (at ps j).place ≡ r.place j = pj.place_is in
          let le : (at ps v).place ≤ (at ps j).place = c.1 in
          let low : r.place j < r.place u = pu.jump_earlier (omega arith) in
          let up : (at ps u).up ≡ takes w u 0 = pu.up in
          let up2 : (at ps j).up ≡ takes w j 0 = pj.up in
          let down : (at ps u).down ≡ takes w 0 u = pu.down in
          let down2 : (at ps j).down ≡ takes w 0 j = pj.down in
          let a = h.there v hv (omega arith) in
          let b = h.there 0 some (omega arith) in
          let d = h.back v hv (omega arith) in
          let e = h.back 0 some (omega arith) in
          let i = h.hops v hv (omega arith) in
          let k = h.hops 0 some (omega arith) in
          let deep : (at ps u).depth ≡ hops_between w u 0 = pu.depth in
          let deep2 : (at ps j).depth ≡ hops_between w j 0 = pj.depth in
          record {
            node = h.node;
            earlier = omega arith;
            up_low = omega arith;
            down_low = omega arith;
            there = omega arith;
            back = omega
                arith;
            hops = omega arith;
          }
          )
      | inr c ↦ subst (λ y. Hop w ps u v y) (sym c) (
          let p = (at ps u).parent in
          let l = (at ps u).link in
          let h = pu.parent (omega arith) in
          let pp = r.each p h.node in
          let ep : (at ps p).place ≡ r.place p = pp.place_is in
          let low : r.place p < r.place u = h.earlier in
          let up : (at ps u).up ≡ takes w u 0 = pu.up in
          let up2 : (at ps p).up ≡ takes w p 0 = pp.up in
          let down : (at ps u).down ≡ takes w 0 u = pu.down in
          let down2 : (at ps p).down ≡ takes w 0 p = pp.down in
          let a = parent_there w r.place u p l h v hv (omega arith) in
          let b = parent_there w r.place u p l h 0 some (omega arith) in
          let d = parent_back w t r.place u p l hu h v hv (omega arith) in
          let e = parent_back w t r.place u p l hu h 0 some (omega arith) in
          let i = parent_links w r.place u p l h v hv (omega arith) in
          let k = parent_links w r.place u p l h 0 some (omega arith) in
          let deep : (at ps u).depth ≡ hops_between w u 0 = pu.depth in
          let deep2 : (at ps p).depth ≡ hops_between w p 0 = pp.depth in
          record {
            node = h.node;
            earlier = omega arith;
            up_low = omega arith;
            down_low = omega arith;
            there = omega arith;
            back = omega
                arith;
            hops = omega arith;
          }
          )
    ]

-- the same as it is read
pub hop_read : (w : Network) (ps : List Position) (r : IsRooted w ps) → (u v x : ℕ) (pu pv : Position) → u < w.nodes → v < w.nodes
    → pu ≡ at ps u → pv ≡ at ps v → pv.place < pu.place
    → ((x ≡ pu.jump) × (pv.place ≤ (at ps pu.jump).place)) ⊎ (x ≡ pu.parent) → Hop w ps u v x
hop_read w ps r u v x pu pv hu hv eu ev lt which =
    hop w ps r u v x hu hv (subst (λ (q : Position). (at ps v).place < q.place) eu (subst (λ (q : Position). q.place < pu.place) ev lt))
    (subst (λ (q : Position). ((x ≡ q.jump) × ((at ps v).place ≤ (at ps q.jump).place)) ⊎ (x ≡ q.parent)) eu
    (subst (λ (q : Position). ((x ≡ pu.jump) × (q.place ≤ (at ps pu.jump).place)) ⊎ (x ≡ pu.parent)) ev which))

-- of two nodes one has the earlier place
pub strictly : (w : Network) (ps : List Position) (r : IsRooted w ps) → (u v : ℕ) (pu pv : Position) → u < w.nodes → v < w.nodes
    → pu ≡ at ps u → pv ≡ at ps v → u ≢ v → pu.place ≤ pv.place → pu.place < pv.place
strictly w ps r u v pu pv hu hv eu ev d le =
    let a : pu.place ≡ r.place u = ap (λ (q : Position). q.place) eu ∙ (r.each u hu).place_is in
    let b : pv.place ≡ r.place v = ap (λ (q : Position). q.place) ev ∙ (r.each v hv).place_is in
    let n : r.place u ≢ r.place v = λ e. d (r.apart u v hu hv e) in
    elim (cases_eq (r.place u) (r.place v)) [ inl e ↦ absurd (n e) | inr e ↦ omega arith ]

pub only_root : (u : ℕ) → is_in (0 ∷ []) u ≡ true → 0 ≡ u
only_root u i = elim (in_cases 0 u [] i) [ inl e ↦ e | inr e ↦ absurd (false≢true e) ]
