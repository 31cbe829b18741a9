-- Hops: how many links there are on the ways between nodes.
use Rattle.std.proofs.Common.{◌≡◌, ◌≢◌, ◌⊎◌, ℕ, suc, ◌+◌, ◌<◌, ◌≤◌, List, [], ◌∷◌, length, refl, sym, ap, ◌∙◌, subst}
use Rattle.std.proofs.Common.{inl, inr, arith, eq-eqb}
use Rattle.std.proofs.lemmas.Bool.{ne_eqb, cases_Bool}
use Rattle.std.proofs.lemmas.List.{length-append}
use Rattle.srm_net.specs.declared.link.LinkSpec.{LinkSpec}
use Rattle.srm_net.specs.Network.{Network, Joins, IsWalk, IsTree}
use Rattle.srm_net.specs.Paths.{route, host, hops_between, hops}
use Rattle.srm_net.specs.Tables.{is_beyond, near_end, far_from}
use Rattle.srm_net.specs.Laws.{HopsTurn, HopsMeetTheTriangle, HopsFit}
use Rattle.srm_net.specs.Limits.{most_nodes}
use Rattle.srm_net.proofs.RouteLemmas.{route_path, path_length}
use Rattle.srm_net.proofs.PathLaws.{LinkOf, host_below, hosts_apart, route_nowhere, route_begins}
use Rattle.srm_net.proofs.OnePaths.{joins_others}
use Rattle.srm_net.proofs.SpreadLemmas.{end_joined, route_there, ends_told}

-- a node from which no link leads to another is that one
at_home : (w : Network) → IsTree w → (u v : ℕ) → u < w.nodes → v < w.nodes → route w u v ≡ [] → u ≡ v
at_home w t u v hu hv e =
    let r = route_path w t u v hu hv in
    let k : IsWalk w.links u [] v r.0 = subst (λ ls. IsWalk w.links u ls v r.0) e r.1.0 in
    k.0

-- ---- both ways

turns_by : (w : Network) → IsTree w → (u x : ℕ) → u < w.nodes → x < w.nodes → (ls : List ℕ) → route w x u ≡ ls
    → hops_between w u x ≡ length ls
turns_by w t u x hu hx [] e =
    subst (λ y. hops_between w u y ≡ 0) (sym (at_home w t x u hx hu e)) (ap length (route_nowhere w u))
turns_by w t u x hu hx (l ∷ ls) e =
    let b = route_begins w t x u hx hu l ls e in
    let on : route w x u ≡ l ∷ route w b.next u = e ∙ ap (λ ms. l ∷ ms) b.rest_is in
    let way = route_there w t u x b.next l hu hx b.below on (end_joined w.links l b.spec x b.next b.link b.joins) in
    let k = turns_by w t u b.next hu b.below ls (sym b.rest_is) in
    ap length way ∙ length-append (route w u b.next) (l ∷ []) ∙ (omega arith)

-- as many links there as back
pub links_turn : (w : Network) → IsTree w → (u v : ℕ) → u < w.nodes → v < w.nodes → hops_between w u v ≡ hops_between w v u
links_turn w t u v hu hv = turns_by w t u v hu hv (route w v u) refl

-- ---- over a third node

-- of the two ends of a link one is a link farther from any node than the other
ends_differ : (w : Network) (l : ℕ) (k : LinkSpec) → LinkOf w l k → (u : ℕ) → u < w.nodes
    → (hops_between w k.a u ≡ suc (hops_between w k.b u)) ⊎ (hops_between w k.b u ≡ suc (hops_between w k.a u))
ends_differ w l k o u hu =
    let apart : k.a ≢ k.b = joins_others w o.tree l k o.link in
    let back : route w (far_from k (near_end w l k u)) u ≡ l ∷ route w (near_end w l k u) u = (ends_told w l k o u hu).back in
    elim (cases_Bool (is_beyond w l k u)) [
      | inl e ↦ (let b : route w (far_from k k.b) u ≡ l ∷ route w k.b u = rw e at back in
          let c : route w k.a u ≡ l ∷ route w k.b u = rw (ne_eqb k.a k.b apart) at b in
          inl (ap length c))
      | inr e ↦ (let b : route w (far_from k k.a) u ≡ l ∷ route w k.a u = rw e at back in
          let c : route w k.b u ≡ l ∷ route w k.a u = rw (eq-eqb k.a k.a refl) at b in
          inr (ap length c))
    ]

over_link : (w : Network) (l : ℕ) (k : LinkSpec) → LinkOf w l k → (u x y : ℕ) → u < w.nodes → Joins k x y
    → hops_between w x u ≤ suc (hops_between w y u)
over_link w l k o u x y hu j = grind (arith, ends_differ)

within_by : (w : Network) → IsTree w → (u v x : ℕ) → u < w.nodes → v < w.nodes → x < w.nodes → (ls : List ℕ) → route w u v ≡ ls
    → hops_between w u x ≤ length ls + hops_between w v x
within_by w t u v x hu hv hx [] e =
    let k = ap (λ y. hops_between w y x) (at_home w t u v hu hv e) in
    omega arith
within_by w t u v x hu hv hx (l ∷ ls) e =
    let b = route_begins w t u v hu hv l ls e in
    let rest : hops_between w b.next x ≤ length ls + hops_between w v x = within_by w t b.next v x b.below hv hx ls (sym b.rest_is) in
    let first : hops_between w u x ≤ suc (hops_between w b.next x) =
    over_link w l b.spec (record { tree = t; link = b.link }) x u b.next hx b.joins in
    omega arith

-- no more links than by way of a third node
pub links_within : (w : Network) → IsTree w → (u v x : ℕ) → u < w.nodes → v < w.nodes → x < w.nodes
    → hops_between w u x ≤ hops_between w u v + hops_between w v x
links_within w t u v x hu hv hx = within_by w t u v x hu hv hx (route w u v) refl

-- at least one between different nodes
far_by : (w : Network) → IsTree w → (u v : ℕ) → u < w.nodes → v < w.nodes → u ≢ v → (ls : List ℕ) → route w u v ≡ ls → 1 ≤ length ls
far_by w t u v hu hv d [] e = absurd (d (at_home w t u v hu hv e))
far_by w t u v hu hv d (l ∷ ls) e = omega arith

far_apart : (w : Network) → IsTree w → (u v : ℕ) → u < w.nodes → v < w.nodes → u ≢ v → 1 ≤ hops_between w u v
far_apart w t u v hu hv d = far_by w t u v hu hv d (route w u v) refl

-- and fewer than there are nodes
pub few_links : (w : Network) → IsTree w → (u v : ℕ) → u < w.nodes → v < w.nodes → hops_between w u v < w.nodes
few_links w t u v hu hv =
    let r = route_path w t u v hu hv in
    let k = path_length w t u (route w u v) v r.0 r.1.0 r.1.1 hu in
    let one : length w.links + 1 ≡ w.nodes = t.one_fewer in
    omega arith

-- ---- of members

pub hops_turn : HopsTurn
unfolding hops
hops_turn w n a b ha hb = links_turn w n.tree (host w a) (host w b) (host_below w n a ha) (host_below w n b hb)

pub hops_meet_the_triangle : HopsMeetTheTriangle
unfolding hops
hops_meet_the_triangle w n a b c ha hb hc =
    links_within w n.tree (host w a) (host w b) (host w c) (host_below w n a ha) (host_below w n b hb) (host_below w n c hc)

pub hops_fit : HopsFit
unfolding hops
hops_fit w n a b ha hb =
    let k = few_links w n.tree (host w a) (host w b) (host_below w n a ha) (host_below w n b hb) in
    let few : w.nodes ≤ most_nodes = n.tree.few_nodes in (
      λ d. far_apart w n.tree (host w a) (host w b) (host_below w n a ha) (host_below w n b hb) (hosts_apart w n a b ha hb d),
      ap length (route_nowhere w (host w a)),
      omega arith,
    )
