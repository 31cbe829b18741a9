-- What is beyond a link, told by the places of nodes in the rooted tree.
use Rattle.std.proofs.Common.{◌≡◌, ◌≢◌, ℕ, ◌<◌, ◌≤◌, Bool, true, false, not, cond, List, [], ◌∷◌, Some, refl, sym, ap, ◌∙◌, subst}
use Rattle.std.proofs.Common.{inl, inr, arith, slice_get}
use Rattle.std.proofs.lemmas.Bool.{cases_Bool, cases_eq}
use Rattle.srm_net.specs.declared.link.LinkSpec.{LinkSpec}
use Rattle.srm_net.specs.declared.position.Position.{Position}
use Rattle.srm_net.specs.Network.{Network, Joins, IsTree}
use Rattle.srm_net.specs.Paths.{is_in, route}
use Rattle.srm_net.specs.Rooting.{at, IsSubtree, IsRooted, IsHeld}
use Rattle.srm_net.specs.Tables.{is_beyond}
use Rattle.srm_net.proofs.Numbers.{not_in_cons}
use Rattle.srm_net.proofs.RouteLemmas.{route_only}
use Rattle.srm_net.proofs.PathLaws.{LinkOf, ends_below, on_route, route_nowhere}
use Rattle.srm_net.proofs.OnePaths.{joins_others}
use Rattle.srm_net.proofs.Basics.{same_tests}

not_twice : (b : Bool) → not (not b) ≡ b
not_twice true = refl
not_twice false = refl

module _ (w : Network) (ps : List Position) (r : IsRooted w ps) (l : ℕ) (k : LinkSpec) (g : slice_get w.links l ≡ Some k) where
  link_of : LinkOf w l k
  link_of = record { tree = r.tree; link = g }

  apart : k.a ≢ k.b
  apart = joins_others w r.tree l k g

  -- the link leads up from its end of the later place
  lower : (u v : ℕ) → u < w.nodes → v < w.nodes → Joins k u v → u ≢ v → (at ps v).place < (at ps u).place
      → IsSubtree w r.place u l (at ps u).end
  lower u v hu hv j d lt =
      let t : IsTree w = r.tree in
      let eu = (r.each u hu).place_is in
      let ev = (r.each v hv).place_is in
      let h = (r.each u hu).parent (omega arith) in
      let way : route w u v ≡ (at ps u).link ∷ route w (at ps u).parent v = h.route v hv (omega arith) in
      let one : l ∷ [] ≡ route w u v =
      route_only w t u v hu hv (l ∷ []) (u ∷ v ∷ []) (k, v, v ∷ [], g, j, refl, (refl, refl))
      (not_in_cons v u [] (λ e. d (sym e)) refl, (refl, tt)) in
      let both : (at ps u).link ∷ route w (at ps u).parent v ≡ l ∷ [] = sym way ∙ sym one in
      let same : (at ps u).link ≡ l = cc in
      subst (λ n. IsSubtree w r.place u n (at ps u).end) same ((r.each u hu).subtree (omega arith))

  over_from_root : (x : ℕ) → x < w.nodes → is_in (route w 0 x) l ≡ cond (is_beyond w l k 0) (not (is_beyond w l k x)) (is_beyond w l k x)
  over_from_root x hx = on_route w l k link_of 0 x r.tree.some_nodes hx

  end_a : is_beyond w l k k.a ≡ false
  end_a = ap (λ ls. is_in ls l) (route_nowhere w k.a)

  root_as_a : is_in (route w 0 k.a) l ≡ is_beyond w l k 0
  root_as_a =
      over_from_root k.a (ends_below w l k link_of).0 ∙ ap (λ b. cond (is_beyond w l k 0) (not b) b) end_a
      ∙ elim (is_beyond w l k 0) as (λ b. cond b true false ≡ b) [ true ↦ refl | false ↦ refl ]

  held : (u : ℕ) → u < w.nodes → IsSubtree w r.place u l (at ps u).end → (x : ℕ) → x < w.nodes → (h : Bool)
      → (h ≡ true → IsHeld (at ps u) (at ps x)) → ((at ps u).place ≤ (at ps x).place → (at ps x).place < (at ps u).end → h ≡ true)
      → h ≡ is_in (route w 0 x) l
  held u hu sub x hx h f b =
      let eu = (r.each u hu).place_is in
      let ex = (r.each x hx).place_is in
      same_tests h (is_in (route w 0 x) l)
      (λ t. let p = f t in
      let p0 : (at ps u).place ≤ (at ps x).place = p.0 in
      let p1 : (at ps x).place < (at ps u).end = p.1 in
      sub.whole x hx (omega arith) (omega arith))
      (λ t. let p = sub.within x hx t in
      let p0 : r.place u ≤ r.place x = p.0 in
      let p1 : r.place x < (at ps u).end = p.1 in
      b (omega arith) (omega arith))

  -- where the end b is the lower one, the nodes beyond the link are those that it holds
  pub b_holds : (at ps k.a).place < (at ps k.b).place → (x : ℕ) → x < w.nodes → (h : Bool)
      → (h ≡ true → IsHeld (at ps k.b) (at ps x))
      → ((at ps k.b).place ≤ (at ps x).place → (at ps x).place < (at ps k.b).end → h ≡ true)
      → h ≡ is_beyond w l k x
  b_holds lt x hx h f b =
      let ends = ends_below w l k link_of in
      let ea = (r.each k.a ends.0).place_is in
      let eb = (r.each k.b ends.1).place_is in
      let sub = lower k.b k.a ends.1 ends.0 (inr (refl, refl)) (λ e. apart (sym e)) lt in
      let root : is_beyond w l k 0 ≡ false =
      elim (cases_Bool (is_beyond w l k 0)) [
        | inl e ↦ (let low : r.place k.b ≤ r.place k.a = (sub.within k.a ends.0 (root_as_a ∙ e)).0 in absurd (omega arith))
        | inr e ↦ e
      ] in
      held k.b ends.1 sub x hx h f b ∙ over_from_root x hx
      ∙ ap (λ c. cond c (not (is_beyond w l k x)) (is_beyond w l k x)) root

  -- and where the end a is, all others
  pub a_holds : (at ps k.b).place ≤ (at ps k.a).place → (x : ℕ) → x < w.nodes → (h : Bool)
      → (h ≡ true → IsHeld (at ps k.a) (at ps x))
      → ((at ps k.a).place ≤ (at ps x).place → (at ps x).place < (at ps k.a).end → h ≡ true)
      → not h ≡ is_beyond w l k x
  a_holds le x hx h f b =
      let ends = ends_below w l k link_of in
      let ea = (r.each k.a ends.0).place_is in
      let eb = (r.each k.b ends.1).place_is in
      let other : r.place k.b ≢ r.place k.a = λ e. apart (sym (r.apart k.b k.a ends.1 ends.0 e)) in
      let lt : (at ps k.b).place < (at ps k.a).place =
      elim (cases_eq (r.place k.b) (r.place k.a)) [ inl e ↦ absurd (other e) | inr d ↦ omega arith ] in
      let sub = lower k.a k.b ends.0 ends.1 (inl (refl, refl)) apart lt in
      let own : r.place k.a < (at ps k.a).end = sub.own in
      let root : is_beyond w l k 0 ≡ true = sym root_as_a ∙ sub.whole k.a ends.0 (omega arith) own in
      ap not (held k.a ends.0 sub x hx h f b ∙ over_from_root x hx
      ∙ ap (λ c. cond c (not (is_beyond w l k x)) (is_beyond w l k x)) root)
      ∙ not_twice (is_beyond w l k x)

  -- the same of positions that are read
  pub read_b : (x : ℕ) → x < w.nodes → (near far here : Position) → near ≡ at ps k.a → far ≡ at ps k.b → here ≡ at ps x
      → near.place < far.place → (h : Bool) → (h ≡ true → IsHeld far here)
      → (far.place ≤ here.place → here.place < far.end → h ≡ true) → h ≡ is_beyond w l k x
  read_b x hx near far here en ef eh lt h f b =
      b_holds
      (subst (λ (q : Position). q.place < (at ps k.b).place) en (subst (λ (q : Position). near.place < q.place) ef lt)) x hx h
      (λ t. subst (λ (q : Position). IsHeld q (at ps x)) ef (subst (λ (q : Position). IsHeld far q) eh (f t)))
      (subst (λ (q : Position). q.place ≤ (at ps x).place → (at ps x).place < q.end → h ≡ true) ef
      (subst (λ (q : Position). far.place ≤ q.place → q.place < far.end → h ≡ true) eh b))

  pub read_a : (x : ℕ) → x < w.nodes → (near far here : Position) → near ≡ at ps k.a → far ≡ at ps k.b → here ≡ at ps x
      → far.place ≤ near.place → (h : Bool) → (h ≡ true → IsHeld near here)
      → (near.place ≤ here.place → here.place < near.end → h ≡ true) → not h ≡ is_beyond w l k x
  read_a x hx near far here en ef eh le h f b =
      a_holds
      (subst (λ (q : Position). (at ps k.b).place ≤ q.place) en (subst (λ (q : Position). q.place ≤ near.place) ef le)) x hx h
      (λ t. subst (λ (q : Position). IsHeld q (at ps x)) en (subst (λ (q : Position). IsHeld near q) eh (f t)))
      (subst (λ (q : Position). q.place ≤ (at ps x).place → (at ps x).place < q.end → h ≡ true) en
      (subst (λ (q : Position). near.place ≤ q.place → q.place < near.end → h ≡ true) eh b))
