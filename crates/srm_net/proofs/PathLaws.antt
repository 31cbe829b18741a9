-- Members' ways: their delays, and what crosses and is dropped on them.
use Rattle.std.proofs.Common.{◌≡◌, ◌≢◌, ℕ, zero, suc, ◌+◌, ◌*◌, ◌<◌, ◌≤◌, Bool, true, false, not, cond, ◌&&◌, ◌||◌, List, [], ◌∷◌, ◌++◌}
use Rattle.std.proofs.Common.{length, Some, refl, sym, ap, ◌∙◌, subst, inl, inr, arith, eqb, ◌==◌, eq-eqb, eqb-true, slice_get, slice_index}
use Rattle.std.proofs.Common.{All, unwrap_or, None}
use Rattle.std.specs.List.{list_any}
use Rattle.std.proofs.lemmas.Bool.{eqb-false, cases_Bool, both_ways, false≢true, or_parts}
use Rattle.srm_net.specs.declared.link.LinkSpec.{LinkSpec}
use Rattle.srm_net.specs.declared.packet.PacketId.{PacketId}
use Rattle.srm_net.specs.Network.{Network, Joins, IsWalk, IsWithin, IsTree, IsLinkDelay, HasDelays, IsNetwork}
use Rattle.srm_net.specs.Paths.{is_in, route_within, route, host, member_route, delay_from, delay_of, end_of, delay_along, distance, Stop}
use Rattle.srm_net.specs.Paths.{stop, stops, takes_out, member_stops, crossed_on, dropped_on, some_below, crosses, drops_at}
use Rattle.srm_net.specs.DropRules.{DropRules}
use Rattle.srm_net.specs.Tables.{is_beyond, near_end, some_beyond}
use Rattle.srm_net.proofs.Lists.{all_get}
use Rattle.srm_net.proofs.Numbers.{Apart, Below, in_head, in_tail, in_cases, not_in, not_in_cons, few_apart, apart_from_distinct}
use Rattle.srm_net.proofs.Walks.{IsCut, way_crosses, walk_ends, same_link}
use Rattle.srm_net.proofs.Growing.{joins_below, tree_cuts}
use Rattle.srm_net.proofs.RouteLemmas.{route_path, route_only, path_length}
use Rattle.srm_net.specs.Limits.{most_nodes, greatest_link_delay, greatest_distance}

-- ---- members' nodes

pub host_below : (w : Network) → IsNetwork w → (m : ℕ) → m < length w.hosts → host w m < w.nodes
host_below w n m h = n.hosts.0 m 0 h

pub index_in : (xs : List ℕ) (i : ℕ) → i < length xs → is_in xs (slice_index xs i) ≡ true
index_in [] i h = absurd (omega arith)
index_in (x ∷ xs) zero h = in_head x xs
index_in (x ∷ xs) (suc i) h = in_tail x (slice_index xs i) xs (index_in xs i (omega arith))

pub apart_index : (xs : List ℕ) → Apart xs → (i j : ℕ) → i < length xs → j < length xs → slice_index xs i ≡ slice_index xs j → i ≡ j
apart_index [] a i j h g e = absurd (omega arith)
apart_index (x ∷ xs) a zero zero h g e = refl
apart_index (x ∷ xs) a zero (suc j) h g e = absurd (both_ways _ a.0 (subst (λ t. is_in xs t ≡ true) (sym e) (index_in xs j (omega arith))))
apart_index (x ∷ xs) a (suc i) zero h g e = absurd (both_ways _ a.0 (subst (λ t. is_in xs t ≡ true) e (index_in xs i (omega arith))))
apart_index (x ∷ xs) a (suc i) (suc j) h g e = ap suc (apart_index xs a.1 i j (omega arith) (omega arith) e)

pub hosts_apart : (w : Network) → IsNetwork w → (a b : ℕ) → a < length w.hosts → b < length w.hosts → a ≢ b → host w a ≢ host w b
hosts_apart w n a b ha hb d e = d (apart_index w.hosts (apart_from_distinct w.hosts n.hosts.1) a b ha hb e)

pub hosts_in : (nodes : ℕ) (xs : List ℕ) → All (λ n. n < nodes) xs → Below nodes xs
hosts_in nodes [] a x i = absurd (false≢true i)
hosts_in nodes (y ∷ ys) a x i =
    elim (in_cases y x ys i) [
      | inl e ↦ subst (λ t. t < nodes) e (a 0 0 (omega arith))
      | inr e ↦
          hosts_in nodes ys (λ k d h. a (suc k) d (omega arith)) x e
    ]

pub few_members : (w : Network) → IsNetwork w → length w.hosts ≤ most_nodes
few_members w n =
    let few : w.nodes ≤ most_nodes = n.tree.few_nodes in
    let k = few_apart w.nodes w.hosts (apart_from_distinct w.hosts n.hosts.1) (hosts_in w.nodes w.hosts n.hosts.0) in
    omega arith

-- ---- delays

-- links that begin with this one take its delay from there, and then theirs from its other end
pub along_first : (links : List LinkSpec) (u l x : ℕ) (ls : List ℕ) (k : LinkSpec) → slice_get links l ≡ Some k → Joins k u x
    → delay_along links u (l ∷ ls) ≡ delay_from u k + delay_along links x ls
along_first links u l x ls k g j = grind arith

pub from_fits : (u : ℕ) (k : LinkSpec) → HasDelays k → IsLinkDelay (delay_from u k)
from_fits u k h = elim (eqb k.a u) as (λ b. IsLinkDelay (cond b k.delay k.back)) [ true ↦ h.0 | false ↦ h.1 ]

pub delay_at_most : (links : List LinkSpec) → All HasDelays links → (u : ℕ) (ls : List ℕ) (v : ℕ) (ns : List ℕ) → IsWalk links u ls v ns
    → delay_along links u ls ≤ greatest_link_delay * length ls
delay_at_most links d u [] v ns w = omega arith
delay_at_most links d u (l ∷ ls) v ns w =
    let k = delay_at_most links d w.1 ls v w.2 w.6 in
    let h : delay_from u w.0 ≤ greatest_link_delay = (from_fits u w.0 (all_get HasDelays links l w.0 d w.3)).1 in
    subst (λ n. n ≤ greatest_link_delay * suc (length ls)) (sym (along_first links u l w.1 ls w.0 w.3 w.4)) (omega arith)

pub delay_at_least : (links : List LinkSpec) → All HasDelays links → (u : ℕ) (ls : List ℕ) (v : ℕ) (ns : List ℕ) → IsWalk links u ls v ns
    → u ≢ v → 1 ≤ delay_along links u ls
delay_at_least links d u [] v ns w n = absurd (n w.0)
delay_at_least links d u (l ∷ ls) v ns w n =
    let h : 1 ≤ delay_from u w.0 = (from_fits u w.0 (all_get HasDelays links l w.0 d w.3)).0 in
    subst (λ n. 1 ≤ n) (sym (along_first links u l w.1 ls w.0 w.3 w.4)) (omega arith)

pub delay_bounded : (w : Network) → IsNetwork w → (u v : ℕ) → u < w.nodes → v < w.nodes
    → delay_along w.links u (route w u v) ≤ greatest_distance
delay_bounded w n u v hu hv =
    let r = route_path w n.tree u v hu hv in
    let k = delay_at_most w.links n.delays u (route w u v) v r.0 r.1.0 in
    let l : length (route w u v) ≤ length w.links = path_length w n.tree u (route w u v) v r.0 r.1.0 r.1.1 hu in
    let few : w.nodes ≤ most_nodes = n.tree.few_nodes in
    let one : length w.links + 1 ≡ w.nodes = n.tree.one_fewer in
    omega arith

pub distance_bounded : (w : Network) → IsNetwork w → (a b : ℕ) → a < length w.hosts → b < length w.hosts
    → distance w a b ≤ greatest_distance
unfolding distance
distance_bounded w n a b ha hb = delay_bounded w n (host w a) (host w b) (host_below w n a ha) (host_below w n b hb)

pub distance_apart : (w : Network) → IsNetwork w → (a b : ℕ) → a < length w.hosts → b < length w.hosts → a ≢ b → 1 ≤ distance w a b
unfolding distance
distance_apart w n a b ha hb d =
    let r = route_path w n.tree (host w a) (host w b) (host_below w n a ha) (host_below w n b hb) in
    delay_at_least w.links n.delays (host w a) (member_route w a b) (host w b) r.0 r.1.0 (hosts_apart w n a b ha hb d)

-- ---- the first link of a route, and the rest

pub record Begins (w : Network) (u v l : ℕ) (rest : List ℕ) : Type 0 where
  pub spec : LinkSpec
  pub next : ℕ
  pub link : slice_get w.links l ≡ Some spec
  pub joins : Joins spec u next
  pub below : next < w.nodes
  pub rest_is : rest ≡ route w next v

pub route_begins : (w : Network) → IsTree w → (u v : ℕ) → u < w.nodes → v < w.nodes → (l : ℕ) (rest : List ℕ) → route w u v ≡ l ∷ rest
    → Begins w u v l rest
route_begins w t u v hu hv l rest e =
    let r = route_path w t u v hu hv in
    let k : IsWalk w.links u (l ∷ rest) v r.0 = subst (λ ls. IsWalk w.links u ls v r.0) e r.1.0 in
    let a : Apart (u ∷ k.2) = subst Apart k.5 r.1.1 in
    let b : k.1 < w.nodes = (joins_below w.nodes k.0 u k.1 (all_get (IsWithin w.nodes) w.links l k.0 t.ends k.3) k.4).1 in
    record { spec = k.0; next = k.1; link = k.3; joins = k.4; below = b; rest_is = route_only w t k.1 v b hv rest k.2 k.6 a.1 }

nowhere_within : (n : ℕ) (links : List LinkSpec) (u : ℕ) → unwrap_or (route_within n links [] u u) [] ≡ []
unfolding route_within
nowhere_within zero links u = rw (eq-eqb u u refl) refl
nowhere_within (suc n) links u = rw (eq-eqb u u refl) refl

-- the route from a node to itself is empty in any network
pub route_nowhere : (w : Network) (u : ℕ) → route w u u ≡ []
unfolding route
route_nowhere w u = nowhere_within (length w.links) w.links u

-- a route from an end of a link takes that link first or not at all
pub first_or_never : (w : Network) → IsTree w → (u v : ℕ) → u < w.nodes → v < w.nodes → (l f y : ℕ) (k : LinkSpec) (rest : List ℕ)
    → slice_get w.links l ≡ Some k → Joins k u y → route w u v ≡ f ∷ rest → is_in (route w u v) l ≡ (eqb f l)
first_or_never w t u v hu hv l f y k rest g j e =
    let r = route_path w t u v hu hv in
    let q : IsWalk w.links u (f ∷ rest) v r.0 = subst (λ ls. IsWalk w.links u ls v r.0) e r.1.0 in
    let a : Apart (u ∷ q.2) = subst Apart q.5 r.1.1 in
    let n : is_in rest l ≡ false = not_in rest l (λ i. both_ways _ a.0 (walk_ends w.links q.1 rest v q.2 l k u y q.6 i g j)) in
    ap (λ ls. is_in ls l) e ∙ elim (cases_Bool (eqb f l)) [ inl h ↦ rw h refl | inr h ↦ rw (h, n) refl ]

-- ---- a path parted at a link

pub record Parts (links : List LinkSpec) (u : ℕ) (ls : List ℕ) (ns : List ℕ) (l : ℕ) : Type 0 where
  pub before : List ℕ
  pub after : List ℕ
  pub near : ℕ
  pub far : ℕ
  pub spec : LinkSpec
  pub nodes : List ℕ
  pub is : ls ≡ before ++ l ∷ after
  pub fresh : is_in before l ≡ false
  pub fresh_after : is_in after l ≡ false
  pub walk : IsWalk links u before near nodes
  pub apart : Apart nodes
  pub within : (n : ℕ) → is_in nodes n ≡ true → is_in ns n ≡ true
  pub link : slice_get links l ≡ Some spec
  pub joins : Joins spec near far

pub parted : (links : List LinkSpec) (l : ℕ) (u : ℕ) (ls : List ℕ) (v : ℕ) (ns : List ℕ) → IsWalk links u ls v ns → Apart ns → is_in ls l
    ≡ true → Parts links u ls ns l
parted links l u [] v ns w a i = absurd (false≢true i)
parted links l u (m ∷ ls) v ns w a i =
    let b : Apart (u ∷ w.2) = subst Apart w.5 a in
    elim (cases_Bool (eqb m l)) [
      | inl e ↦
          record {
            before = [];
            after = ls;
            near = u;
            far = w.1;
            spec = w.0;
            nodes = u ∷ [];
            is = ap (λ t. t ∷ ls) (eqb-true m l e);
            fresh = refl;
            fresh_after = subst (λ t. is_in ls t ≡ false) (eqb-true m l e)
                (not_in ls m (λ j. both_ways _ b.0 (walk_ends links w.1 ls v w.2 m w.0 u w.1 w.6 j w.3 w.4)));
            walk = (refl, refl);
            apart = (refl, tt);
            within = λ n j. elim (in_cases u n [] j) [
              | inl q ↦ subst (λ t. is_in t n ≡ true) (sym w.5)
                  (subst (λ t. is_in (u ∷ w.2) t ≡ true) q (in_head u w.2))
              | inr q ↦ absurd (false≢true q)
            ];
            link = subst (λ t. slice_get links t ≡ Some w.0) (eqb-true m l e) w.3;
            joins = w.4;
          }
      | inr e ↦
          (let j : is_in ls l ≡ true = elim (in_cases m l ls i) [ inl q ↦ absurd (eqb-false m l e q) | inr q ↦ q ] in
          let r = parted links l w.1 ls v w.2 w.6 b.1 j in
          record {
            before = m ∷ r.before;
            after = r.after;
            near = r.near;
            far = r.far;
            spec = r.spec;
            nodes = u ∷ r.nodes;
            is = ap (λ t. m ∷ t) r.is;
            fresh = not_in_cons m l r.before (eqb-false m l e) r.fresh;
            fresh_after = r.fresh_after;
            walk = (w.0, w.1, r.nodes, w.3, w.4, refl, r.walk);
            apart = (not_in r.nodes u (λ q. both_ways _ b.0 (r.within u q)), r.apart);
            within = λ n q. subst (λ t. is_in t n ≡ true) (sym w.5)
                (elim (in_cases u n r.nodes q) [
                  | inl p ↦ subst (λ t. is_in (u ∷ w.2) t ≡ true) p (in_head u w.2)
                  | inr p ↦
                      in_tail u n w.2 (r.within n p)
                ]);
            link = r.link;
            joins = r.joins;
          })
    ]

-- ---- the two sides of a link

xor_is : (i s h e c d : Bool) → c ≡ cond s (not e) e → d ≡ cond h (not e) e → d ≡ cond i (not c) c → i ≡ cond s (not h) h
xor_is true true true true c d p q r = cc
xor_is true true true false c d p q r = cc
xor_is true true false e c d p q r = refl
xor_is true false true e c d p q r = refl
xor_is true false false true c d p q r = cc
xor_is true false false false c d p q r = cc
xor_is false true true e c d p q r = refl
xor_is false true false true c d p q r = cc
xor_is false true false false c d p q r = cc
xor_is false false true true c d p q r = cc
xor_is false false true false c d p q r = cc
xor_is false false false e c d p q r = refl

never_flipped : (b : Bool) → b ≡ not b → ⊥
never_flipped true e = cc
never_flipped false e = cc

-- what is known of a link in a tree
pub record LinkOf (w : Network) (l : ℕ) (k : LinkSpec) : Type 0 where
  pub tree : IsTree w
  pub link : slice_get w.links l ≡ Some k

pub ends_below : (w : Network) (l : ℕ) (k : LinkSpec) → LinkOf w l k → (k.a < w.nodes) × (k.b < w.nodes)
ends_below w l k o = all_get (IsWithin w.nodes) w.links l k o.tree.ends o.link

beyond_cut : (w : Network) (l : ℕ) (k : LinkSpec) (o : LinkOf w l k) (side : ℕ → Bool) → IsCut w.links l side → (x : ℕ) → x < w.nodes
    → side x ≡ cond (is_beyond w l k x) (not (side k.a)) (side k.a)
beyond_cut w l k o side cut x h =
    let a = (ends_below w l k o).0 in
    let r = route_path w o.tree k.a x a h in
    way_crosses w.links l side cut k.a (route w k.a x) x r.0 r.1.0 r.1.1

-- a link is on the route between two nodes where they are on two sides of it
pub on_route : (w : Network) (l : ℕ) (k : LinkSpec) → LinkOf w l k → (u v : ℕ) → u < w.nodes → v < w.nodes → is_in (route w u v) l
    ≡ cond (is_beyond w l k u) (not (is_beyond w l k v)) (is_beyond w l k v)
on_route w l k o u v hu hv =
    let cut = tree_cuts w o.tree l in
    let r = route_path w o.tree u v hu hv in
    xor_is (is_in (route w u v) l) (is_beyond w l k u) (is_beyond w l k v) (cut.0 k.a) (cut.0 u) (cut.0 v)
    (beyond_cut w l k o cut.0 cut.1 u hu) (beyond_cut w l k o cut.0 cut.1 v hv)
    (way_crosses w.links l cut.0 cut.1 u (route w u v) v r.0 r.1.0 r.1.1)

near_is : (w : Network) (l : ℕ) (k : LinkSpec) → LinkOf w l k → (u : ℕ) → u < w.nodes → (ls ns : List ℕ) (p : Parts w.links u ls ns l)
    → p.near ≡ near_end w l k u
near_is w l k o u hu ls ns p =
    let cut = tree_cuts w o.tree l in
    let same : p.spec ≡ k = same_link w.links l l p.spec k refl p.link o.link in
    let joins : Joins k p.near p.far = subst (λ t. Joins t p.near p.far) same p.joins in
    let here : cut.0 p.near ≡ cut.0 u = way_crosses w.links l cut.0 cut.1 u p.before p.near p.nodes p.walk p.apart
    ∙ ap (λ b. cond b (not (cut.0 u)) (cut.0 u)) p.fresh in
    let over : cut.0 k.b ≡ not (cut.0 k.a) = cut.1 l k k.a k.b o.link (inl (refl, refl))
    ∙ ap (λ b. cond b (not (cut.0 k.a)) (cut.0 k.a)) (eq-eqb l l refl) in
    let side : cut.0 u ≡ cond (is_beyond w l k u) (not (cut.0 k.a)) (cut.0 k.a) = beyond_cut w l k o cut.0 cut.1 u hu in
    elim (cases_Bool (is_beyond w l k u)) [
      | inl e ↦ (let s : cut.0 u ≡ not (cut.0 k.a) = rw e at side in
          rw e (elim joins [
            | inl j ↦ absurd (never_flipped (cut.0 k.a) (ap cut.0 j.0 ∙ here ∙ s))
            | inr j ↦ sym j.0
          ]))
      | inr e ↦ (let s : cut.0 u ≡ cut.0 k.a = rw e at side in
          rw e (elim joins [
            | inl j ↦ sym j.0
            | inr j ↦ absurd (never_flipped (cut.0 k.a) (sym s ∙ sym here ∙ sym (ap cut.0 j.0) ∙ over))
          ]))
    ]

-- ---- the stops of a way

-- whether link l is among the stops
abbrev pub stops_at : List Stop → ℕ → Bool
stops_at ss l = list_any (λ s. s.link == l) ss

pub stops_in : (links : List LinkSpec) (u t : ℕ) (ls : List ℕ) (l : ℕ) → stops_at (stops links u t ls) l ≡ is_in ls l
stops_in links u t [] l = refl
stops_in links u t (k ∷ ks) l = ap (λ b. (k == l) || b)
    (stops_in links (end_of u (slice_get links k)) (t + delay_of u (slice_get links k)) ks l)

-- a packet comes to a link of its way after the delays of the earlier ones
pub record SplitsAt (links : List LinkSpec) (u t : ℕ) (xs ys : List ℕ) (l : ℕ) : Type 0 where
  pub after : List Stop
  pub in_after : (k : ℕ) → stops_at after k ≡ is_in ys k
  pub is : stops links u t (xs ++ l ∷ ys) ≡ stops links u t xs ++ stop l (t + delay_along links u xs) ∷ after

pub split_at : (links : List LinkSpec) (u t : ℕ) (xs ys : List ℕ) (l : ℕ) → SplitsAt links u t xs ys l
split_at links u t [] ys l =
    let v = end_of u (slice_get links l) in
    let d = t + delay_of u (slice_get links l) in
    let e : t ≡ t + 0 = omega arith in
    record { after = stops links v d ys; in_after = λ k. stops_in links v d ys k; is = ap (λ n. stop l n ∷ stops links v d ys) e }
split_at links u t (x ∷ xs) ys l =
    let v = end_of u (slice_get links x) in
    let d = delay_of u (slice_get links x) in
    let r = split_at links v (t + d) xs ys l in
    let e : (t + d) + delay_along links v xs ≡ t + (d + delay_along links v xs) = omega arith in
    record {
      after = r.after;
      in_after = r.in_after;
      is = ap (λ ss. stop x t ∷ ss)
          (r.is ∙ ap (λ n. stops links v (t + d) xs ++ stop l n ∷ r.after) e);
    }

-- ---- crossed and dropped on a way

pub crossed_absent : (f : Stop → Bool) (ss : List Stop) (l : ℕ) → stops_at ss l ≡ false → crossed_on f ss l ≡ false
crossed_absent f [] l n = refl
crossed_absent f (s ∷ ss) l n =
    let p = or_parts (s.link == l) (stops_at ss l) n in
    rw (p.0, crossed_absent f ss l p.1) (elim (f s) as (λ b. (not b && false) ≡ false) [ true ↦ refl | false ↦ refl ])

pub dropped_absent : (f : Stop → Bool) (ss : List Stop) (l : ℕ) → stops_at ss l ≡ false → dropped_on f ss l ≡ false
dropped_absent f [] l n = refl
dropped_absent f (s ∷ ss) l n =
    let p = or_parts (s.link == l) (stops_at ss l) n in
    rw (p.0, dropped_absent f ss l p.1) (elim (f s) as (λ b. cond b false false ≡ false) [ true ↦ refl | false ↦ refl ])

crossed_parts : (f : Stop → Bool) (xs : List Stop) (s : Stop) (ys : List Stop) → stops_at xs s.link ≡ false
    → crossed_on f (xs ++ s ∷ ys) s.link ≡ (not (f s) && not (list_any f xs))
crossed_parts f [] s ys n = rw (eq-eqb s.link s.link refl) refl
crossed_parts f (x ∷ xs) s ys n =
    let p = or_parts (x.link == s.link) (stops_at xs s.link) n in
    rw (p.0, crossed_parts f xs s ys p.1) (turn (f x) (f s) (list_any f xs))
  where
    turn : (a b c : Bool) → (not a && (not b && not c)) ≡ (not b && not (a || c))
    turn true true c = refl
    turn true false c = refl
    turn false b c = refl

dropped_parts : (f : Stop → Bool) (xs : List Stop) (s : Stop) (ys : List Stop) → stops_at xs s.link ≡ false → stops_at ys s.link ≡ false
    → dropped_on f (xs ++ s ∷ ys) s.link ≡ (f s && not (list_any f xs))
dropped_parts f [] s ys n m =
    elim (cases_Bool (f s)) [ inl e ↦ rw (e, eq-eqb s.link s.link refl) refl | inr e ↦ rw e (dropped_absent f ys s.link m) ]
dropped_parts f (x ∷ xs) s ys n m =
    let p = or_parts (x.link == s.link) (stops_at xs s.link) n in
    rw (p.0, dropped_parts f xs s ys p.1 m) (turn (f x) (f s) (list_any f xs))
  where
    turn : (a b c : Bool) → cond a false (b && not c) ≡ (b && not (a || c))
    turn true true c = refl
    turn true false c = refl
    turn false b c = refl

-- where a link is on a route, the route goes to its near end first
pub record Reached (w : Network) (l : ℕ) (k : LinkSpec) (u v : ℕ) : Type 0 where
  pub before : List ℕ
  pub after : List ℕ
  pub is : route w u v ≡ before ++ l ∷ after
  pub fresh : is_in before l ≡ false
  pub fresh_after : is_in after l ≡ false
  pub before_is : before ≡ route w u (near_end w l k u)

near_below : (w : Network) (l : ℕ) (k : LinkSpec) → LinkOf w l k → (u : ℕ) → near_end w l k u < w.nodes
near_below w l k o u = let e = ends_below w l k o in elim (is_beyond w l k u) as (λ b. cond b k.b k.a < w.nodes)
    [ true ↦ e.1 | false ↦ e.0 ]

pub reached : (w : Network) (l : ℕ) (k : LinkSpec) → LinkOf w l k → (u v : ℕ) → u < w.nodes → v < w.nodes → is_in (route w u v) l ≡ true
    → Reached w l k u v
reached w l k o u v hu hv i =
    let r = route_path w o.tree u v hu hv in
    let p = parted w.links l u (route w u v) v r.0 r.1.0 r.1.1 i in
    let e = near_is w l k o u hu (route w u v) r.0 p in
    let n : IsWalk w.links u p.before (near_end w l k u) p.nodes = subst (λ t. IsWalk w.links u p.before t p.nodes) e p.walk in
    record {
      before = p.before;
      after = p.after;
      is = p.is;
      fresh = p.fresh;
      fresh_after = p.fresh_after;
      before_is = route_only w o.tree u (near_end w l k u) hu (near_below w l k o u) p.before p.nodes n p.apart;
    }

-- the stop at a link of a packet that is at node u at tick t
abbrev pub near_stop : Network → ℕ → LinkSpec → ℕ → ℕ → Stop
near_stop w l k u t = stop l (t + delay_along w.links u (route w u (near_end w l k u)))

-- whether no stop on the way to the near end of a link passes a test
abbrev pub is_free : Network → ℕ → LinkSpec → (Stop → Bool) → ℕ → ℕ → Bool
is_free w l k f u t = not (list_any f (stops w.links u t (route w u (near_end w l k u))))

module _ (w : Network) (l : ℕ) (k : LinkSpec) (o : LinkOf w l k) (f : Stop → Bool) (u v t : ℕ) (hu : u < w.nodes) (hv : v < w.nodes) where
  absent : is_in (route w u v) l ≡ false → stops_at (stops w.links u t (route w u v)) l ≡ false
  absent n = stops_in w.links u t (route w u v) l ∙ n

  pub crossed_is : crossed_on f (stops w.links u t (route w u v)) l
      ≡ (not (f (near_stop w l k u t)) && (is_in (route w u v) l && is_free w l k f u t))
  crossed_is =
      elim (cases_Bool (is_in (route w u v) l)) [
        | inl i ↦ (let r = reached w l k o u v hu hv i in
            let s = split_at w.links u t r.before r.after l in
            let n = stops_in w.links u t r.before l ∙ r.fresh in
            ap (λ ls. crossed_on f (stops w.links u t ls) l) r.is ∙ ap (λ ss. crossed_on f ss l) s.is
            ∙ crossed_parts f (stops w.links u t r.before) (stop l (t + delay_along w.links u r.before)) s.after n
            ∙ ap (λ ls. not (f (stop l (t + delay_along w.links u ls))) && not (list_any f (stops w.links u t ls))) r.before_is
            ∙ ap (λ b. not (f (near_stop w l k u t)) && (b && is_free w l k f u t)) (sym i))
        | inr n ↦ crossed_absent f (stops w.links u t (route w u v)) l (absent n)
            ∙ rw n (elim (f (near_stop w l k u t)) as (λ b. false ≡ (not b && false)) [ true ↦ refl | false ↦ refl ])
      ]

  pub dropped_is : dropped_on f (stops w.links u t (route w u v)) l
      ≡ (f (near_stop w l k u t) && (is_in (route w u v) l && is_free w l k f u t))
  dropped_is =
      elim (cases_Bool (is_in (route w u v) l)) [
        | inl i ↦ (let r = reached w l k o u v hu hv i in
            let s = split_at w.links u t r.before r.after l in
            let n = stops_in w.links u t r.before l ∙ r.fresh in
            let m = s.in_after l ∙ r.fresh_after in
            ap (λ ls. dropped_on f (stops w.links u t ls) l) r.is ∙ ap (λ ss. dropped_on f ss l) s.is
            ∙ dropped_parts f (stops w.links u t r.before) (stop l (t + delay_along w.links u r.before)) s.after n m
            ∙ ap (λ ls. f (stop l (t + delay_along w.links u ls)) && not (list_any f (stops w.links u t ls))) r.before_is
            ∙ ap (λ b. f (near_stop w l k u t) && (b && is_free w l k f u t)) (sym i))
        | inr n ↦ dropped_absent f (stops w.links u t (route w u v)) l (absent n)
            ∙ rw n (elim (f (near_stop w l k u t)) as (λ b. false ≡ (b && false)) [ true ↦ refl | false ↦ refl ])
      ]

-- ---- some member

pub some_same : (f g : ℕ → Bool) (n : ℕ) → ((m : ℕ) → m < n → f m ≡ g m) → some_below f n ≡ some_below g n
some_same f g zero h = refl
some_same f g (suc n) h = let a : f n ≡ g n = h n (omega arith) in let b : some_below f n
    ≡ some_below g n = some_same f g n (λ m l. h m (omega arith)) in rw (a, b) refl

some_and : (a b : Bool) (f : ℕ → Bool) (n : ℕ) → some_below (λ m. a && (f m && b)) n ≡ (a && (some_below f n && b))
some_and a b f zero = elim a as (λ t. false ≡ (t && false)) [ true ↦ refl | false ↦ refl ]
some_and a b f (suc n) = ap (λ t. (a && (f n && b)) || t) (some_and a b f n) ∙ spread a b (f n) (some_below f n)
  where
    spread : (a b c d : Bool) → ((a && (c && b)) || (a && (d && b))) ≡ (a && ((c || d) && b))
    spread false b c d = refl
    spread true b true true = elim b as (λ t. (t || t) ≡ t) [ true ↦ refl | false ↦ refl ]
    spread true b true false = elim b as (λ t. (t || false) ≡ t) [ true ↦ refl | false ↦ refl ]
    spread true b false d = refl

module _ (w : Network) (n : IsNetwork w) (l : ℕ) (k : LinkSpec) (g : slice_get w.links l ≡ Some k) (rules : DropRules) (p : PacketId)
    (sent : ℕ) (h : p.sender < length w.hosts) where
  link_of : LinkOf w l k
  link_of = record { tree = n.tree; link = g }

  abbrev pub out : Stop → Bool
  out = takes_out rules p

  abbrev pub u : ℕ
  u = host w p.sender

  -- whether member m is on the other side of the link
  abbrev is_over : ℕ → Bool
  is_over m = cond (is_beyond w l k u) (not (is_beyond w l k (host w m))) (is_beyond w l k (host w m))

  pub crosses_is : crosses w rules p sent None l ≡ (not (out (near_stop w l k u sent)) && (some_beyond w l k u && is_free w l k out u sent))
  unfolding crosses
  crosses_is =
      some_same (λ m. crossed_on out (member_stops w p.sender sent m) l)
      (λ m. not (out (near_stop w l k u sent)) && (is_over m && is_free w l k out u sent)) (length w.hosts)
      (λ m lt. let hv = host_below w n m lt in
      crossed_is w l k link_of out u (host w m) sent (host_below w n p.sender h) hv
      ∙ ap (λ b. not (out (near_stop w l k u sent)) && (b && is_free w l k out u sent))
      (on_route w l k link_of u (host w m) (host_below w n p.sender h) hv))
      ∙ some_and (not (out (near_stop w l k u sent))) (is_free w l k out u sent) is_over (length w.hosts)

  pub drops_is : drops_at w rules p sent None l ≡ (out (near_stop w l k u sent) && (some_beyond w l k u && is_free w l k out u sent))
  unfolding drops_at
  drops_is =
      some_same (λ m. dropped_on out (member_stops w p.sender sent m) l)
      (λ m. out (near_stop w l k u sent) && (is_over m && is_free w l k out u sent)) (length w.hosts)
      (λ m lt. let hv = host_below w n m lt in
      dropped_is w l k link_of out u (host w m) sent (host_below w n p.sender h) hv
      ∙ ap (λ b. out (near_stop w l k u sent) && (b && is_free w l k out u sent))
      (on_route w l k link_of u (host w m) (host_below w n p.sender h) hv))
      ∙ some_and (out (near_stop w l k u sent)) (is_free w l k out u sent) is_over (length w.hosts)

-- ---- what no stop takes out

pub none_below : (f : ℕ → Bool) (n : ℕ) → ((m : ℕ) → f m ≡ false) → some_below f n ≡ false
none_below f zero h = refl
none_below f (suc n) h = rw (h n) (none_below f n h)
