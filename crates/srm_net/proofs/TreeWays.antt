-- The ways between the nodes of a growing tree.
use Rattle.std.proofs.Common.{◌≡◌, ℕ, ◌+◌, ◌<◌, true, false, cond, List, [], ◌∷◌, ◌++◌, length, take}
use Rattle.std.proofs.Common.{reverse, Some, refl, sym, ap, ◌∙◌, subst, inl, inr, arith, eqb, slice_get}
use Rattle.std.proofs.Common.{All, get_or}
use Rattle.std.proofs.lemmas.Bool.{both_ways, false≢true}
use Rattle.std.proofs.lemmas.List.{reverse-append, take_more}
use Rattle.srm_net.specs.declared.link.LinkSpec.{LinkSpec}
use Rattle.srm_net.specs.declared.attaching.Attaching.{Attaching}
use Rattle.srm_net.specs.Network.{Joins, IsWalk, IsAlike}
use Rattle.srm_net.specs.Paths.{is_in, delay_from, delay_of, delay_along}
use Rattle.srm_net.specs.Growth.{Attaches, attached, Grows}
use Rattle.srm_net.proofs.Lists.{all_get}
use Rattle.srm_net.proofs.Numbers.{Apart, in_head, in_tail, in_cases, not_in, in_append_cases, apart_push}
use Rattle.srm_net.proofs.Walks.{turned}
use Rattle.srm_net.proofs.PathLaws.{along_first}

-- a path among these nodes with this delay
pub record IsWay (links : List LinkSpec) (inside : List ℕ) (u x delay : ℕ) : Type 0 where
  pub path : List ℕ
  pub nodes : List ℕ
  pub walk : IsWalk links u path x nodes
  pub apart : Apart nodes
  pub within : (n : ℕ) → is_in nodes n ≡ true → is_in inside n ≡ true
  pub delay_is : delay_along links u path ≡ delay

-- ---- a walk and one link more

pub walk_push : (links : List LinkSpec) (u : ℕ) (ls : List ℕ) (p : ℕ) (ns : List ℕ) (l : ℕ) (k : LinkSpec) (v : ℕ) → IsWalk links u ls p ns
    → slice_get links l ≡ Some k → Joins k p v → IsWalk links u (ls ++ l ∷ []) v (ns ++ v ∷ [])
walk_push links u [] p ns l k v w g j =
    (k, v, v ∷ [], g, subst (λ t. Joins k t v) (sym w.0) j, ap (λ t. t ++ v ∷ []) w.1, (refl, refl))
walk_push links u (m ∷ ls) p ns l k v w g j =
    (w.0, w.1, w.2 ++ v ∷ [], w.3, w.4, ap (λ t. t ++ v ∷ []) w.5, walk_push links w.1 ls p w.2 l k v w.6 g j)

pub delay_push : (links : List LinkSpec) (u : ℕ) (ls : List ℕ) (p : ℕ) (ns : List ℕ) (l : ℕ) → IsWalk links u ls p ns
    → delay_along links u (ls ++ l ∷ []) ≡ delay_along links u ls + delay_of p (slice_get links l)
delay_push links u [] p ns l w = let e : delay_of u (slice_get links l)
    ≡ delay_of p (slice_get links l) = ap (λ y. delay_of y (slice_get links l)) w.0 in omega arith
delay_push links u (m ∷ ls) p ns l w =
    let k = delay_push links w.1 ls p w.2 l w.6 in
    along_first links u m w.1 (ls ++ l ∷ []) w.0 w.3 w.4 ∙ ap (λ n. delay_from u w.0 + n) k
    ∙ omega arith ∙ ap (λ n. n + delay_of p (slice_get links l)) (sym (along_first links u m w.1 ls w.0 w.3 w.4))

-- ---- a new node

pub way_stay : (links : List LinkSpec) (inside : List ℕ) (u : ℕ) → is_in inside u ≡ true → IsWay links inside u u 0
way_stay links inside u i = grind arith

pub way_kept : (links : List LinkSpec) (inside : List ℕ) (n u x delay : ℕ) → IsWay links inside u x delay
    → IsWay links (n ∷ inside) u x delay
way_kept links inside n u x delay w = grind arith

pub way_there : (links : List LinkSpec) (inside : List ℕ) (s : Attaching) (a : Attaches links inside s) (u delay : ℕ)
    → IsWay links inside u s.parent delay
    → IsWay links (s.node ∷ inside) u s.node (delay + delay_from s.parent a.spec)
way_there links inside s a u delay w =
    let new : is_in w.nodes s.node ≡ false = not_in w.nodes s.node (λ i. both_ways _ a.node (w.within s.node i)) in
    let d = delay_push links u w.path s.parent w.nodes s.link w.walk in
    record {
      path = w.path ++ s.link ∷ [];
      nodes = w.nodes ++ s.node ∷ [];
      walk = walk_push links u w.path s.parent w.nodes s.link a.spec s.node w.walk a.link a.joins;
      apart = apart_push w.nodes s.node w.apart new;
      within = λ n h. elim (in_append_cases w.nodes (s.node ∷ []) n h) [
        | inl i ↦ in_tail s.node n inside (w.within n i)
        | inr i ↦ elim (in_cases s.node n [] i) [
          | inl f ↦ subst (λ t. is_in (s.node ∷ inside) t ≡ true) f (in_head s.node inside)
          | inr f ↦
              absurd (false≢true f)
        ]
      ];
      delay_is = d ∙ ap (λ n. n + delay_of s.parent (slice_get links s.link)) w.delay_is
          ∙ ap (λ n. delay + n) (ap (delay_of s.parent) a.link);
    }

pub way_back : (links : List LinkSpec) (inside : List ℕ) (s : Attaching) (a : Attaches links inside s) (x delay : ℕ)
    → IsWay links inside s.parent x delay
    → IsWay links (s.node ∷ inside) s.node x (delay + delay_from s.node a.spec)
way_back links inside s a x delay w =
    let new : is_in w.nodes s.node ≡ false = not_in w.nodes s.node (λ i. both_ways _ a.node (w.within s.node i)) in
    let joins = turned a.spec s.parent s.node a.joins in
    record {
      path = s.link ∷ w.path;
      nodes = s.node ∷ w.nodes;
      walk = (a.spec, s.parent, w.nodes, a.link, joins, refl, w.walk);
      apart = (new, w.apart);
      within = λ n h. elim (in_cases s.node n w.nodes h) [
        | inl f ↦ subst (λ t. is_in (s.node ∷ inside) t ≡ true) f (in_head s.node inside)
        | inr i ↦ in_tail s.node n inside (w.within n i)
      ];
      delay_is = along_first links s.node s.link s.parent w.path a.spec a.link joins ∙ ap (λ n. delay_from s.node a.spec + n) w.delay_is
          ∙ omega arith;
    }

-- ---- both ways between any two nodes of a grown tree

from_either : (k : LinkSpec) → IsAlike k → (u : ℕ) → delay_from u k ≡ k.delay
from_either k same u = elim (eqb k.a u) as (λ b. cond b k.delay k.back ≡ k.delay) [ true ↦ refl | false ↦ sym same ]

pub record BothWays (links : List LinkSpec) (inside : List ℕ) (u x : ℕ) : Type 0 where
  pub delay : ℕ
  pub home : ℕ
  -- where links take as long in both directions, so do the ways
  pub same : All IsAlike links → delay ≡ home
  pub there : IsWay links inside u x delay
  pub back : IsWay links inside x u home

pub both_ways_grown : (links : List LinkSpec) (ss : List Attaching) → Grows links ss → (u x : ℕ) → is_in (attached ss) u ≡ true
    → is_in (attached ss) x ≡ true → BothWays links (attached ss) u x
both_ways_grown links [] g u x i j =
    let zero_in : (y : ℕ) → is_in (0 ∷ []) y ≡ true → 0 ≡ y = λ y h. elim
    (in_cases 0 y [] h) [ inl e ↦ e | inr e ↦ absurd (false≢true e) ] in
    let same : u ≡ x = sym (zero_in u i) ∙ zero_in x j in
    subst (λ t. BothWays links (0 ∷ []) u t) same
    (record {
      delay = 0;
      home = 0;
      same = λ _. refl;
      there = way_stay links (0 ∷ []) u i;
      back =
          way_stay links (0 ∷ []) u i;
    })
both_ways_grown links (s ∷ ss) g u x i j =
    let from : All IsAlike links → (u : ℕ) → delay_from u g.0.spec ≡ g.0.spec.delay =
    λ alike. from_either g.0.spec (all_get IsAlike links s.link g.0.spec alike g.0.link) in
    elim (in_cases s.node u (attached ss) i) [
      | inl e ↦ elim (in_cases s.node x (attached ss) j) [
        | inl f ↦ subst (λ t. BothWays links (s.node ∷ attached ss) u t)
            (sym e ∙ f) (record {
              delay = 0;
              home = 0;
              same = λ _. refl;
              there =
                  way_stay links (s.node ∷ attached ss) u i;
              back = way_stay links (s.node ∷ attached ss) u i;
            })
        | inr f ↦
            (let b = both_ways_grown links ss g.1 s.parent x g.0.parent f in
            subst (λ t. BothWays links (s.node ∷ attached ss) t x) e
            (record {
              delay = b.delay + delay_from s.node g.0.spec;
              home = b.home + delay_from s.parent g.0.spec;
              same = λ alike. ap (λ n. n + delay_from s.node g.0.spec) (b.same alike)
                  ∙ ap (λ n. b.home + n) (from alike s.node ∙ sym (from alike s.parent));
              there = way_back links (attached ss) s g.0 x b.delay b.there;
              back = way_there links (attached ss) s g.0 x b.home b.back;
            }))
      ]
      | inr e ↦ elim (in_cases s.node x (attached ss) j) [
        | inl f ↦
            (let b = both_ways_grown links ss g.1 u s.parent e g.0.parent in
            subst (λ t. BothWays links (s.node ∷ attached ss) u t) f
            (record {
              delay = b.delay + delay_from s.parent g.0.spec;
              home = b.home + delay_from s.node g.0.spec;
              same = λ alike. ap (λ n. n + delay_from s.parent g.0.spec) (b.same alike)
                  ∙ ap (λ n. b.home + n) (from alike s.parent ∙ sym (from alike s.node));
              there = way_there links (attached ss) s g.0 u b.delay b.there;
              back = way_back links (attached ss) s g.0 u b.home b.back;
            }))
        | inr f ↦
            (let b = both_ways_grown links ss g.1 u x e f in
            record {
              delay = b.delay;
              home = b.home;
              same = b.same;
              there = way_kept links (attached ss) s.node u x b.delay b.there;
              back =
                  way_kept links (attached ss) s.node x u b.home b.back;
            })
      ]
    ]

-- ---- steps one by one

pub grows_tail : (links : List LinkSpec) (xs ys : List Attaching) → Grows links (xs ++ ys) → Grows links ys
grows_tail links [] ys g = g
grows_tail links (x ∷ xs) ys g = grows_tail links xs ys g.1

pub reverse_more : (steps : List Attaching) (i : ℕ) (d : Attaching) → i < length steps → reverse (take (i + 1) steps)
    ≡ get_or steps i d ∷ reverse (take i steps)
reverse_more steps i d h = ap reverse (take_more steps i d h) ∙ reverse-append (take i steps) (get_or steps i d ∷ [])

-- a step of no use but as a default
abbrev pub no_step : Attaching
no_step = record { node = 0; parent = 0; link = 0 }
