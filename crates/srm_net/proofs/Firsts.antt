-- The first link of the way between two nodes, told by their positions.
use Rattle.std.proofs.Common.{◌≡◌, ◌≢◌, ◌⊎◌, ℕ, zero, suc, ◌+◌, ◌<◌, ◌≤◌, Bool, true, false, not, cond, List, [], ◌∷◌, refl, sym, ap, ◌∙◌}
use Rattle.std.proofs.Common.{subst, inl, inr, arith, unwrap_or, length}
use Rattle.std.proofs.lemmas.Bool.{cases_eq, false≢true}
use Rattle.srm_net.specs.declared.link.LinkSpec.{LinkSpec}
use Rattle.srm_net.specs.declared.position.Position.{Position}
use Rattle.srm_net.specs.Network.{Network, Joins}
use Rattle.srm_net.specs.Paths.{is_in, route, hops_between, end_of, far_end}
use Rattle.srm_net.specs.Rooting.{takes, at, IsRooted, IsFirstLink, IsHeld, IsChildAbove}
use Rattle.srm_net.specs.Tables.{is_beyond}
use Rattle.srm_net.proofs.Lists.{below_get}
use Rattle.srm_net.proofs.Numbers.{in_cases, in_append_cases, not_in}
use Rattle.srm_net.proofs.Walks.{turned}
use Rattle.srm_net.proofs.PathLaws.{LinkOf, on_route, route_nowhere}
use Rattle.srm_net.proofs.Rootings.{takes_nothing, parent_there, parent_back, parent_links}
use Rattle.srm_net.proofs.SpreadLemmas.{end_joined, route_there, first_of}

-- the two ends of a link by which a node is below another
leads_joins : (k : LinkSpec) (u p : ℕ) → u ≢ p → unwrap_or (far_end k u) u ≡ p → Joins k u p
leads_joins k u p d e = grind arith

-- where one of two nodes is on the same side as a third, and the other is not, the two are on different sides
parted : (b u v : Bool) → cond b (not u) u ≡ false → cond b (not v) v ≡ true → cond u (not v) v ≡ true
parted true true true e f = cc
parted true true false e f = refl
parted true false v e f = cc
parted false true v e f = cc
parted false false true e f = refl
parted false false false e f = cc

parted_back : (b u v : Bool) → cond b (not u) u ≡ true → cond b (not v) v ≡ false → cond u (not v) v ≡ true
parted_back true true v e f = cc
parted_back true false true e f = refl
parted_back true false false e f = cc
parted_back false true true e f = cc
parted_back false true false e f = refl
parted_back false false v e f = cc

module _ (w : Network) (ps : List Position) (r : IsRooted w ps) where
  -- the link of a node, with its ends
  link_up : (u : ℕ) → u < w.nodes → 1 ≤ r.place u
      → (k : LinkSpec) × LinkOf w (at ps u).link k × Joins k u (at ps u).parent
  link_up u hu h =
      let p = (r.each u hu).parent h in
      let low : r.place (at ps u).parent < r.place u = p.earlier in
      let k = below_get w.links (at ps u).link p.link in
      let d : u ≢ (at ps u).parent = λ e. (let q = ap r.place e in absurd (omega arith)) in
      let leads : unwrap_or (far_end k.0 u) u ≡ (at ps u).parent = sym (ap (end_of u) k.1) ∙ p.leads in
      (k.0, record { tree = r.tree; link = k.1 }, leads_joins k.0 u (at ps u).parent d leads)

  -- a node and those below it are those to which the way from the root takes its link
  under : (u x : ℕ) → u < w.nodes → x < w.nodes → 1 ≤ r.place u → IsHeld (at ps u) (at ps x)
      → is_in (route w 0 x) (at ps u).link ≡ true
  under u x hu hx h held =
      let eu = (r.each u hu).place_is in
      let ex = (r.each x hx).place_is in
      let h0 : (at ps u).place ≤ (at ps x).place = held.0 in
      let h1 : (at ps x).place < (at ps u).end = held.1 in
      ((r.each u hu).subtree h).whole x hx (omega arith) (omega arith)

  not_under : (u x : ℕ) → u < w.nodes → x < w.nodes → 1 ≤ r.place u → (IsHeld (at ps u) (at ps x) → ⊥)
      → is_in (route w 0 x) (at ps u).link ≡ false
  not_under u x hu hx h n =
      not_in (route w 0 x) (at ps u).link (λ i.
      let eu = (r.each u hu).place_is in
      let ex = (r.each x hx).place_is in
      let p = ((r.each u hu).subtree h).within x hx i in
      let p0 : r.place u ≤ r.place x = p.0 in
      let p1 : r.place x < (at ps u).end = p.1 in
      n (omega arith, omega arith))

  own : (u : ℕ) → u < w.nodes → 1 ≤ r.place u → is_in (route w 0 u) (at ps u).link ≡ true
  own u hu h =
      let s = (r.each u hu).subtree h in
      let t : r.place u < (at ps u).end = s.own in
      s.whole u hu (omega arith) t

  -- a node below another is next to it, or its parent is below that too
  pub parent_held : (u x : ℕ) → u < w.nodes → x < w.nodes → u ≢ x → IsHeld (at ps u) (at ps x)
      → (1 ≤ r.place x) × ((at ps x).parent < w.nodes) × IsHeld (at ps u) (at ps (at ps x).parent)
      × ((at ps (at ps x).parent).place < (at ps x).place)
  parent_held u x hu hx d held =
      let eu = (r.each u hu).place_is in
      let ex = (r.each x hx).place_is in
      let h0 : (at ps u).place ≤ (at ps x).place = held.0 in
      let h1 : (at ps x).place < (at ps u).end = held.1 in
      let other : r.place u ≢ r.place x = λ e. d (r.apart u x hu hx e) in
      let less : r.place u < r.place x = elim (cases_eq (r.place u) (r.place x)) [ inl e ↦ absurd (other e) | inr e ↦ omega arith ] in
      let p = (at ps x).parent in
      let l = (at ps x).link in
      let up = (r.each x hx).parent (omega arith) in
      let ep = (r.each p up.node).place_is in
      let low : r.place p < r.place x = up.earlier in
      let root : r.place 0 ≡ 0 = r.root in
      let first : r.place u ≤ r.place p =
      elim (cases_eq (r.place u) 0) [
        | inl z ↦ omega arith
        | inr z ↦ (let su = (r.each u hu).subtree (omega arith) in
            let sx = (r.each x hx).subtree (omega arith) in
            let i = under u x hu hx (omega arith) held in
            let way = route_there w r.tree 0 x p l r.tree.some_nodes hx up.node (up.route 0 r.tree.some_nodes (omega arith)) up.leads in
            elim (in_append_cases (route w 0 p) (l ∷ []) (at ps u).link (subst (λ ls. is_in ls (at ps u).link ≡ true) way i)) [
              | inl j ↦ (su.within p up.node j).0
              | inr j ↦ elim (in_cases l (at ps u).link [] j) [
                | inl same ↦ (let k : r.place x ≤ r.place u =
                    (sx.within u hu (subst (λ n. is_in (route w 0 u) n ≡ true) (sym same) (own u hu (omega arith)))).0 in
                    absurd (omega arith))
                | inr f ↦ absurd (false≢true f)
              ]
            ])
      ] in
      (omega arith, up.node, (omega arith, omega arith), omega arith)

  -- where a node holds another, so does its parent
  pub held_by_parent : (x v : ℕ) → x < w.nodes → v < w.nodes → 1 ≤ r.place x → IsHeld (at ps x) (at ps v)
      → IsHeld (at ps (at ps x).parent) (at ps v)
  held_by_parent x v hx hv h held = grind arith

  -- down to a child that is the other node or above it
  pub first_down : (u v x : ℕ) → u < w.nodes → v < w.nodes → IsChildAbove w ps u v x → IsFirstLink w u v (at ps x).link x
  first_down u v x hu hv c =
      let l = (at ps x).link in
      let ex = (r.each x c.node).place_is in
      let eu = (r.each u hu).place_is in
      let below : (at ps u).place < (at ps x).place = c.below in
      let h : 1 ≤ r.place x = omega arith in
      let k = link_up x c.node h in
      let up = (r.each x c.node).parent h in
      let joins : Joins k.0 x u = subst (λ p. Joins k.0 x p) c.parent k.2 in
      let there : Joins k.0 u x = turned k.0 x u joins in
      let i = under x v c.node hv h c.held in
      let n = not_under x u c.node hu h (λ z. (let z0 : (at ps x).place ≤ (at ps u).place = z.0 in absurd (omega arith))) in
      let bu = on_route w l k.0 k.1 0 u r.tree.some_nodes hu in
      let bv = on_route w l k.0 k.1 0 v r.tree.some_nodes hv in
      let on : is_in (route w u v) l ≡ true = on_route w l k.0 k.1 u v hu hv
      ∙ parted (is_beyond w l k.0 0) (is_beyond w l k.0 u) (is_beyond w l k.0 v) (sym bu ∙ n) (sym bv ∙ i) in
      record {
        link = up.link;
        leads = end_joined w.links l k.0 u x k.1.link there;
        node = c.node;
        route = first_of w l k.0 k.1 v u x hv hu there (route w u v) refl on;
      }

  -- and up to the parent, if the other node is not below
  pub first_up : (u v : ℕ) → u < w.nodes → v < w.nodes → (IsHeld (at ps u) (at ps v) → ⊥)
      → IsFirstLink w u v (at ps u).link (at ps u).parent
  first_up u v hu hv n =
      let l = (at ps u).link in
      let eu = (r.each u hu).place_is in
      let ev = (r.each v hv).place_is in
      let root : r.place 0 ≡ 0 = r.root in
      let h : 1 ≤ r.place u =
      elim (cases_eq (r.place u) 0) [
        | inl z ↦ (let same : u ≡ 0 = r.apart u 0 hu r.tree.some_nodes (z ∙ sym root) in
            let all : r.place v < (at ps u).end = subst (λ y. r.place v < (at ps y).end) (sym same) (r.whole v hv) in
            absurd (n (omega arith, omega arith)))
        | inr z ↦ omega arith
      ] in
      let k = link_up u hu h in
      let up = (r.each u hu).parent h in
      let i = own u hu h in
      let o = not_under u v hu hv h n in
      let bu = on_route w l k.0 k.1 0 u r.tree.some_nodes hu in
      let bv = on_route w l k.0 k.1 0 v r.tree.some_nodes hv in
      let on : is_in (route w u v) l ≡ true = on_route w l k.0 k.1 u v hu hv
      ∙ parted_back (is_beyond w l k.0 0) (is_beyond w l k.0 u) (is_beyond w l k.0 v) (sym bu ∙ i) (sym bv ∙ o) in
      record {
        link = up.link;
        leads = up.leads;
        node = up.node;
        route = first_of w l k.0 k.1 v u (at ps u).parent hv hu k.2 (route w u v) refl on;
      }

  pub held_itself : (u : ℕ) → u < w.nodes → IsHeld (at ps u) (at ps u)
  held_itself u hu =
      let eu = (r.each u hu).place_is in
      let root : r.place 0 ≡ 0 = r.root in
      elim (cases_eq (r.place u) 0) [
        | inl z ↦ (let same : u ≡ 0 = r.apart u 0 hu r.tree.some_nodes (z ∙ sym root) in
            let all : r.place u < (at ps u).end = subst (λ y. r.place u < (at ps y).end) (sym same) (r.whole u hu) in
            (omega arith, omega arith))
        | inr z ↦ (let own : r.place u < (at ps u).end = ((r.each u hu).subtree (omega arith)).own in
            (omega arith, omega arith))
      ]

  -- a node that is held by another one has a later place
  pub held_later : (u x : ℕ) → u < w.nodes → x < w.nodes → u ≢ x → IsHeld (at ps u) (at ps x) → (at ps u).place < (at ps x).place
  held_later u x hu hx d held =
      let eu = (r.each u hu).place_is in
      let ex = (r.each x hx).place_is in
      let h0 : (at ps u).place ≤ (at ps x).place = held.0 in
      let other : r.place u ≢ r.place x = λ e. d (r.apart u x hu hx e) in
      elim (cases_eq (r.place u) (r.place x)) [ inl e ↦ absurd (other e) | inr e ↦ omega arith ]

  -- one step up from node x, which is below node u and holds node v
  pub climb : (u v x y : ℕ) → u < w.nodes → v < w.nodes → x < w.nodes → u ≢ x → IsHeld (at ps u) (at ps x) → IsHeld (at ps x) (at ps v)
      → (at ps x).parent ≢ u
      → ((y ≡ (at ps x).jump) × ((at ps x).jump ≢ u) × IsHeld (at ps u) (at ps (at ps x).jump) × IsHeld (at ps (at ps x).jump) (at ps v))
      ⊎ (y ≡ (at ps x).parent)
      → (y < w.nodes) × (u ≢ y) × IsHeld (at ps u) (at ps y) × IsHeld (at ps y) (at ps v) × ((at ps y).place < (at ps x).place)
  climb u v x y hu hv hx d below held n which =
      let later = held_later u x hu hx d below in
      let ex = (r.each x hx).place_is in
      let one : 1 ≤ r.place x = omega arith in
      elim which [
        | inl c ↦ (let j = (at ps x).jump in
            let jn = (r.each x hx).jump.node in
            let ej = (r.each j jn).place_is in
            let low : r.place j < r.place x = (r.each x hx).jump_earlier one in
            subst (λ z. (z < w.nodes) × (u ≢ z) × IsHeld (at ps u) (at ps z) × IsHeld (at ps z) (at ps v)
            × ((at ps z).place < (at ps x).place)) (sym c.0)
            (jn, λ e. c.1 (sym e), c.2, c.3, omega arith))
        | inr c ↦ (let p = parent_held u x hu hx d below in
            subst (λ z. (z < w.nodes) × (u ≢ z) × IsHeld (at ps u) (at ps z) × IsHeld (at ps z) (at ps v)
            × ((at ps z).place < (at ps x).place)) (sym c)
            (p.1, λ e. n (sym e), p.2, held_by_parent x v hx hv one held, p.3))
      ]

  -- on the way between the root and node z a packet comes by node u
  abbrev pub IsBelow : ℕ → ℕ → Type 0
  IsBelow u z =
      (takes w 0 z ≡ takes w 0 u + takes w u z) × (takes w z 0 ≡ takes w z u + takes w u 0)
      × (hops_between w z 0 ≡ hops_between w z u + hops_between w u 0)

  below_itself : (u : ℕ) → IsBelow u u
  below_itself u =
      let none = takes_nothing w u in
      let no_link : hops_between w u u ≡ 0 = ap length (route_nowhere w u) in
      (omega arith, omega arith, omega arith)

  -- as it does to a node that node u holds
  by_steps : (n u v : ℕ) → u < w.nodes → v < w.nodes → (at ps v).place ≤ n → IsHeld (at ps u) (at ps v)
      → IsBelow u v
  by_steps zero u v hu hv le held =
      let eu = (r.each u hu).place_is in
      let ev = (r.each v hv).place_is in
      let h0 : (at ps u).place ≤ (at ps v).place = held.0 in
      let same : u ≡ v = r.apart u v hu hv (omega arith) in
      subst (IsBelow u) same (below_itself u)
  by_steps (suc n) u v hu hv le held =
      elim (cases_eq u v) [
        | inl same ↦ subst (IsBelow u) same (below_itself u)
        | inr d ↦ (let p = (at ps v).parent in
            let l = (at ps v).link in
            let up = parent_held u v hu hv d held in
            let low : (at ps p).place < (at ps v).place = up.3 in
            let k0 : (at ps u).place ≤ (at ps p).place = up.2.0 in
            let rest = by_steps n u p hu up.1 (omega arith) up.2 in
            let rest0 : takes w 0 p ≡ takes w 0 u + takes w u p = rest.0 in
            let rest1 : takes w p 0 ≡ takes w p u + takes w u 0 = rest.1 in
            let eu = (r.each u hu).place_is in
            let ev = (r.each v hv).place_is in
            let ep = (r.each p up.1).place_is in
            let root : r.place 0 ≡ 0 = r.root in
            let h = (r.each v hv).parent up.0 in
            let a = parent_back w r.tree r.place v p l hv h 0 r.tree.some_nodes (omega arith) in
            let b = parent_back w r.tree r.place v p l hv h u hu (omega arith) in
            let c = parent_there w r.place v p l h 0 r.tree.some_nodes (omega arith) in
            let e = parent_there w r.place v p l h u hu (omega arith) in
            let rest2 : hops_between w p 0 ≡ hops_between w p u + hops_between w u 0 = rest.2 in
            let f = parent_links w r.place v p l h 0 r.tree.some_nodes (omega arith) in
            let g = parent_links w r.place v p l h u hu (omega arith) in
            (omega arith, omega arith, omega arith))
      ]

  -- so the delays to and from the root tell those between the two
  pub down_held : (u v : ℕ) → u < w.nodes → v < w.nodes → IsHeld (at ps u) (at ps v) → (at ps v).down ≡ (at ps u).down + takes w u v
  down_held u v hu hv held = grind (arith, by_steps)

  pub up_held : (u v : ℕ) → u < w.nodes → v < w.nodes → IsHeld (at ps u) (at ps v) → (at ps v).up ≡ takes w v u + (at ps u).up
  up_held u v hu hv held = grind (arith, by_steps)

  pub depth_held : (u v : ℕ) → u < w.nodes → v < w.nodes → IsHeld (at ps u) (at ps v)
      → (at ps v).depth ≡ hops_between w v u + (at ps u).depth
  depth_held u v hu hv held =
      let k = by_steps (at ps v).place u v hu hv (omega arith) held in
      (r.each v hv).depth ∙ k.2 ∙ ap (λ n. hops_between w v u + n) (sym (r.each u hu).depth)
