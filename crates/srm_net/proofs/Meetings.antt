-- Where the ways up from two nodes meet.
use Rattle.std.proofs.Common.{◌≡◌, ◌≢◌, ℕ, ◌+◌, ◌*◌, ◌<◌, ◌≤◌, List, refl, sym, ◌∙◌, subst, inl, inr, arith}
use Rattle.std.proofs.lemmas.Bool.{cases_eq, cases_lt}
use Rattle.srm_net.specs.declared.position.Position.{Position}
use Rattle.srm_net.specs.Limits.{greatest_distance}
use Rattle.srm_net.specs.Network.{Network, IsTree, IsNetwork}
use Rattle.srm_net.specs.Paths.{hops_between}
use Rattle.srm_net.specs.Rooting.{takes, at, IsRooted, IsHeld, IsMeeting}
use Rattle.srm_net.proofs.Firsts.{down_held, up_held, depth_held}
use Rattle.srm_net.proofs.HopLemmas.{links_turn}
use Rattle.srm_net.proofs.PathLaws.{delay_bounded, route_nowhere}
use Rattle.srm_net.proofs.Rootings.{takes_nothing, Hop, hop}

module _ (w : Network) (ps : List Position) where
  -- the other way round
  pub meeting_back : IsTree w → (u v : ℕ) (q : Position) → u < w.nodes → v < w.nodes → IsMeeting w ps u v q → IsMeeting w ps v u q
  meeting_back t u v q hu hv m = grind (arith, links_turn)

  pub meeting_itself : (u : ℕ) → IsMeeting w ps u u (at ps u)
  meeting_itself u = grind (arith, takes_nothing, route_nowhere)

  -- over a hop towards the other node
  pub meeting_hop : (u v x : ℕ) (q : Position) → Hop w ps u v x → IsMeeting w ps x v q → IsMeeting w ps u v q
  meeting_hop u v x q h m = grind arith

  -- how many links there are, told by positions that are read
  pub hops_read : (u v : ℕ) (p q m : Position) → p ≡ at ps u → q ≡ at ps v → IsMeeting w ps u v m
      → hops_between w u v + 2 * m.depth ≡ p.depth + q.depth
  hops_read u v p q m e f h = grind arith

module _ (w : Network) (ps : List Position) (r : IsRooted w ps) where
  up_bounded : IsNetwork w → (u : ℕ) → u < w.nodes → (at ps u).up ≤ greatest_distance
  up_bounded n u hu = subst (λ t. t ≤ greatest_distance) (sym (r.each u hu).up) (delay_bounded w n u 0 hu r.tree.some_nodes)

  down_bounded : IsNetwork w → (u : ℕ) → u < w.nodes → (at ps u).down ≤ greatest_distance
  down_bounded n u hu = subst (λ t. t ≤ greatest_distance) (sym (r.each u hu).down) (delay_bounded w n 0 u r.tree.some_nodes hu)

  -- the ways there and back, told by positions that are read, and sums that fit
  pub record Ways (u v : ℕ) (p q m : Position) : Type 0 where
    pub there : takes w u v + (m.up + m.down) ≡ p.up + q.down
    pub back : takes w v u + (m.up + m.down) ≡ q.up + p.down
    pub few : IsNetwork w → (p.up + q.down ≤ 2 * greatest_distance) × (q.up + p.down ≤ 2 * greatest_distance)

  pub ways_read : {u v : ℕ} {p q m : Position} → u < w.nodes → v < w.nodes → p ≡ at ps u → q ≡ at ps v → IsMeeting w ps u v m
      → Ways u v p q m
  ways_read {u} {v} {p} {q} {m} hu hv e f h =
      let P : Position → Type 0 = λ a. (b : Position) → b ≡ at ps v → Ways u v a b m in
      let own : P (at ps u) = λ b g. subst (λ (k : Position). Ways u v (at ps u) k m) (sym g) (record {
        there = h.there;
        back = h.back;
        few = λ n. (
          (let x = up_bounded n u hu in let y = down_bounded n v hv in omega arith),
          (let x = up_bounded n v hv in let y = down_bounded n u hu in omega arith),
        );
      }) in
      subst P (sym e) own q f

  -- where one node is below the other
  pub meeting_held : (u v : ℕ) → u < w.nodes → v < w.nodes → IsHeld (at ps u) (at ps v) → IsMeeting w ps u v (at ps u)
  meeting_held u v hu hv held = grind (arith, down_held, up_held, depth_held, links_turn)

  -- a node is below itself, and below the root
  own_end : (u : ℕ) → u < w.nodes → r.place u < (at ps u).end
  own_end u hu =
      elim (cases_eq (r.place u) 0) [
        | inl z ↦ (let e : u ≡ 0 = r.apart u 0 hu r.tree.some_nodes (z ∙ sym r.root) in
            subst (λ x. r.place u < (at ps x).end) (sym e) (r.whole u hu))
        | inr z ↦ ((r.each u hu).subtree (omega arith)).own
      ]

  apart : (u v : ℕ) → u < w.nodes → v < w.nodes → (IsHeld (at ps u) (at ps v) → ⊥) → r.place u ≢ r.place v
  apart u v hu hv n e =
      let pu = (r.each u hu).place_is in
      let pv = (r.each v hv).place_is in
      let low : r.place u < (at ps u).end = own_end u hu in
      n (omega arith, omega arith)

  under_root : (u v : ℕ) → u < w.nodes → v < w.nodes → (IsHeld (at ps u) (at ps v) → ⊥) → 1 ≤ r.place u
  under_root u v hu hv n =
      elim (cases_eq (r.place u) 0) [
        | inl z ↦ (let e : u ≡ 0 = r.apart u 0 hu r.tree.some_nodes (z ∙ sym r.root) in
            let pu = (r.each u hu).place_is in
            let pv = (r.each v hv).place_is in
            let low : r.place v < (at ps u).end = subst (λ x. r.place v < (at ps x).end) (sym e) (r.whole v hv) in
            absurd (n (omega arith, omega arith)))
        | inr z ↦ omega arith
      ]

  pub parent_below : (u v : ℕ) → u < w.nodes → v < w.nodes → (IsHeld (at ps u) (at ps v) → ⊥) → (at ps u).parent < w.nodes
  parent_below u v hu hv n = ((r.each u hu).parent (under_root u v hu hv n)).node

  next : (v : ℕ) → v < w.nodes → 1 ≤ r.place v → IsMeeting w ps (at ps v).parent v (at ps (at ps v).parent)
  next v hv h =
      let p = (at ps v).parent in
      let up = (r.each v hv).parent h in
      let pv = (r.each v hv).place_is in
      let pp = (r.each p up.node).place_is in
      let low : r.place p < r.place v = up.earlier in
      meeting_back w ps r.tree v p (at ps p) hv up.node
      (meeting_hop w ps v p p (at ps p) (hop w ps r v p p hv up.node (omega arith) (inr refl)) (meeting_itself w ps p))

  siblings : (u v : ℕ) → u < w.nodes → v < w.nodes → 1 ≤ r.place v → r.place v < r.place u → (at ps u).parent ≡ (at ps v).parent
      → IsMeeting w ps u v (at ps (at ps u).parent)
  siblings u v hu hv h lt e =
      let p = (at ps u).parent in
      let pu = (r.each u hu).place_is in
      let pv = (r.each v hv).place_is in
      meeting_hop w ps u v p (at ps p) (hop w ps r u v p hu hv (omega arith) (inr refl))
      (subst (λ x. IsMeeting w ps x v (at ps x)) (sym e) (next v hv h))

  -- where both are next below one node
  pub meeting_siblings : (u v : ℕ) → u < w.nodes → v < w.nodes → (IsHeld (at ps u) (at ps v) → ⊥) → (IsHeld (at ps v) (at ps u) → ⊥)
      → (at ps u).parent ≡ (at ps v).parent → IsMeeting w ps u v (at ps (at ps u).parent)
  meeting_siblings u v hu hv nu nv e =
      let d = apart u v hu hv nu in
      let fu = under_root u v hu hv nu in
      let fv = under_root v u hv hu nv in
      elim (cases_lt (r.place u) (r.place v)) [
        | inl lt ↦ meeting_back w ps r.tree v u (at ps (at ps u).parent) hv hu
            (subst (λ x. IsMeeting w ps v u (at ps x)) (sym e) (siblings v u hv hu fu lt (sym e)))
        | inr le ↦ siblings u v hu hv fv (omega arith) e
      ]
