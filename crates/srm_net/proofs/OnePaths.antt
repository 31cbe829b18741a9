-- Trees are the networks that have exactly one path between any two nodes.
use Rattle.std.proofs.Common.{◌≡◌, ◌≢◌, ℕ, ◌+◌, ◌-◌, ◌<◌, ◌≤◌, true, false, not, cond, List, [], ◌∷◌, length, Some, All, refl, sym, ap, ◌∙◌}
use Rattle.std.proofs.Common.{subst, inl, inr, arith, eq-eqb, slice_get, slice_set}
use Rattle.std.proofs.lemmas.Bool.{cases_Bool, both_ways}
use Rattle.srm_net.specs.declared.link.LinkSpec.{LinkSpec}
use Rattle.srm_net.specs.declared.attaching.Attaching.{Attaching}
use Rattle.srm_net.specs.Growth.{attached, used, Grows}
use Rattle.srm_net.specs.Laws.{JoinsTwo, HasOnePathEach, TreesHaveOnePath}
use Rattle.srm_net.specs.Network.{Network, Joins, IsWalk, IsPath, IsWithin, IsConnected, IsTree}
use Rattle.srm_net.specs.Paths.{is_in, route}
use Rattle.srm_net.proofs.Growing.{used_length, used_apart, used_below, all_attached, grows_in, tree_cuts}
use Rattle.srm_net.proofs.Lists.{below_get, index_get, all_get, get_set_same, get_set_other}
use Rattle.srm_net.proofs.Numbers.{Apart, in_head, not_head, not_tail, not_in_cons, few_apart, one_missing, apart_from_distinct}
use Rattle.srm_net.proofs.Numbers.{distinct_from_apart}
use Rattle.srm_net.proofs.RouteLemmas.{route_path, route_only}
use Rattle.srm_net.proofs.TreeWays.{both_ways_grown}
use Rattle.srm_net.proofs.Walks.{walk_first, flips}

-- ---- in a tree

pub joins_others : (w : Network) → IsTree w → (l : ℕ) (k : LinkSpec) → slice_get w.links l ≡ Some k → k.a ≢ k.b
joins_others w t l k g e =
    let cut = tree_cuts w t l in
    let over : cut.0 k.b ≡ not (cut.0 k.a) = cut.1 l k k.a k.b g (inl (refl, refl))
    ∙ ap (λ b. cond b (not (cut.0 k.a)) (cut.0 k.a)) (eq-eqb l l refl) in
    flips (cut.0 k.a) (sym over ∙ ap cut.0 (sym e))

one_path_from_tree : (w : Network) → IsTree w → HasOnePathEach w
one_path_from_tree w t = record {
  some_nodes = t.some_nodes;
  few_nodes = t.few_nodes;
  ends = λ i d h. let p = t.ends i d h in (p.0, p.1, joins_others w t i _ (index_get w.links i d h));
  one_path = λ u v hu hv.
      let r = route_path w t u v hu hv in
      (route w u v, (r.0, r.1.0, distinct_from_apart r.0 r.1.1), λ ms p. route_only w t u v hu hv ms p.0 p.1 (apart_from_distinct p.0 p.2));
}

-- ---- a link that the growth of a tree leaves out

-- a link from a node to itself
abbrev loop_of : LinkSpec → LinkSpec
loop_of k = record { a = k.a; b = k.a; delay = k.delay; back = k.back }

-- the links, with a loop in place of link l
abbrev looped : List LinkSpec → ℕ → LinkSpec → List LinkSpec
looped links l k = slice_set links l (loop_of k)

grows_looped : (links : List LinkSpec) (l : ℕ) (k : LinkSpec) (ss : List Attaching) → is_in (used ss) l ≡ false → Grows links ss
    → Grows (looped links l k) ss
grows_looped links l k [] n g = tt
grows_looped links l k (s ∷ ss) n g = (
  record {
    spec = g.0.spec;
    link = get_set_other links l s.link (loop_of k) (λ e. not_head s.link l (used ss) n (sym e)) ∙ g.0.link;
    joins = g.0.joins;
    parent = g.0.parent;
    node = g.0.node;
  },
  grows_looped links l k ss (not_tail s.link l (used ss) n) g.1,
)

loop_stays : (k j : LinkSpec) (u x : ℕ) → j ≡ loop_of k → Joins j u x → u ≡ x
loop_stays k j u x e (inl p) = sym p.0 ∙ ap (λ (i : LinkSpec). i.a) e ∙ sym (ap (λ (i : LinkSpec). i.b) e) ∙ p.1
loop_stays k j u x e (inr p) = sym p.0 ∙ ap (λ (i : LinkSpec). i.b) e ∙ sym (ap (λ (i : LinkSpec). i.a) e) ∙ p.1

-- a path takes no loop
walk_unlooped : (links : List LinkSpec) (l : ℕ) (k : LinkSpec) → l < length links → (u : ℕ) (ls : List ℕ) (v : ℕ) (ns : List ℕ)
    → IsWalk (looped links l k) u ls v ns → Apart ns → IsWalk links u ls v ns × (is_in ls l ≡ false)
walk_unlooped links l k h u [] v ns w a = (w, refl)
walk_unlooped links l k h u (m ∷ ls) v ns w a =
    let b : Apart (u ∷ w.2) = subst Apart w.5 a in
    let rest = walk_unlooped links l k h w.1 ls v w.2 w.6 b.1 in
    let other : m ≢ l = λ e.
    let at : slice_get (looped links l k) l ≡ Some w.0 = subst (λ t. slice_get (looped links l k) t ≡ Some w.0) e w.3 in
    let there : Some w.0 ≡ Some (loop_of k) = sym at ∙ get_set_same links l (loop_of k) h in
    let same : w.0 ≡ loop_of k = cc in
    both_ways _ b.0 (subst (λ t. is_in w.2 t ≡ true) (sym (loop_stays k w.0 u w.1 same w.4))
    (walk_first (looped links l k) w.1 ls v w.2 w.6)) in (
      (w.0, w.1, w.2, sym (get_set_other links l m (loop_of k) (λ e. other (sym e))) ∙ w.3, w.4, w.5, rest.0),
      not_in_cons m l ls other rest.1,
    )

-- the path over one link
pub link_path : (links : List LinkSpec) (l : ℕ) (k : LinkSpec) → slice_get links l ≡ Some k → k.a ≢ k.b → IsPath links k.a (l ∷ []) k.b
link_path links l k g d = (
  k.a ∷ k.b ∷ [],
  (k, k.b, k.b ∷ [], g, inl (refl, refl), refl, (refl, refl)),
  distinct_from_apart (k.a ∷ k.b ∷ []) (not_in_cons k.b k.a [] (λ e. d (sym e)) refl, (refl, tt)),
)

-- ---- where there is one path

ends_within : (w : Network) → HasOnePathEach w → All (IsWithin w.nodes) w.links
ends_within w h = λ i d lt. let p = h.ends i d lt in (p.0, p.1)

-- a tree that has grown to all nodes has each link
needed : (w : Network) → HasOnePathEach w → (ss : List Attaching) → Grows w.links ss → length ss + 1 ≡ w.nodes → (l : ℕ)
    → l < length w.links → is_in (used ss) l ≡ true
needed w h ss g all l lt =
    elim (cases_Bool (is_in (used ss) l)) [
      | inl e ↦ e
      | inr n ↦
          (let k = below_get w.links l lt in
          let ends = all_get (JoinsTwo w.nodes) w.links l k.0 h.ends k.1 in
          let in_all : (x : ℕ) → x < w.nodes → is_in (attached ss) x ≡ true =
          λ x lx. all_attached w.nodes w.links ss h.some_nodes (ends_within w h) g all x lx in
          let way = both_ways_grown (looped w.links l k.0) ss (grows_looped w.links l k.0 ss n g) k.0.a k.0.b (in_all k.0.a ends.0)
          (in_all k.0.b ends.1) in
          let there = way.there in
          let round = walk_unlooped w.links l k.0 lt k.0.a there.path k.0.b there.nodes there.walk there.apart in
          let one = h.one_path k.0.a k.0.b ends.0 ends.1 in
          let long : there.path ≡ one.0 = one.2 there.path (there.nodes, round.0, distinct_from_apart there.nodes there.apart) in
          let short : l ∷ [] ≡ one.0 = one.2 (l ∷ []) (link_path w.links l k.0 k.1 ends.2) in
          absurd (both_ways _ round.1 (subst (λ t. is_in t l ≡ true) (short ∙ sym long) (in_head l []))))
    ]

tree_from_one_path : (w : Network) → HasOnePathEach w → IsTree w
tree_from_one_path w h =
    let some : 1 ≤ w.nodes = h.some_nodes in
    let connected : IsConnected w = λ u v hu hv. (let p = h.one_path u v hu hv in (p.0, p.1)) in
    let grown = grows_in w some connected (w.nodes - 1) (omega arith) in
    let size : length grown.0 ≡ w.nodes - 1 = grown.2 in
    let all : length grown.0 + 1 ≡ w.nodes = omega arith in
    let count : length (used grown.0) ≡ length grown.0 = used_length grown.0 in
    let at_most : length (used grown.0) ≤ length w.links = few_apart (length w.links) (used grown.0) (used_apart w.links grown.0 grown.1)
    (used_below w.links grown.0 grown.1) in
    let no_fewer : length (used grown.0) < length w.links → ⊥ = λ lt.
    (let m = one_missing (length w.links) (used grown.0) lt in both_ways _ m.2 (needed w h grown.0 grown.1 all m.0 m.1)) in
    record {
      some_nodes = some;
      few_nodes = h.few_nodes;
      ends = ends_within w h;
      one_fewer = omega arith;
      connected = connected;
    }

pub trees_have_one_path : TreesHaveOnePath
trees_have_one_path w = (one_path_from_tree w, tree_from_one_path w)
