-- How many hops the nodes of a tree are from one of them.
use Rattle.std.proofs.Common.{◌≡◌, ◌≢◌, ℕ, suc, ◌+◌, ◌-◌, ◌<◌, ◌≤◌, false, List, Some, length, sym, ap, ◌∙◌, subst, inl, inr, arith}
use Rattle.std.proofs.Common.{slice_get, slice_set}
use Rattle.std.proofs.lemmas.Bool.{cases_eq}
use Rattle.std.proofs.lemmas.List.{length-set}
use Rattle.srm_net.specs.declared.position.Position.{Position}
use Rattle.srm_net.specs.Network.{Network}
use Rattle.srm_net.specs.Paths.{hops_between}
use Rattle.srm_net.specs.Rooting.{at, IsRooted, IsHeld, IsInOrder}
use Rattle.srm_net.specs.Spreads.{TellsHops}
use Rattle.srm_net.proofs.Lists.{get_below, get_set_same, get_set_other}
use Rattle.srm_net.proofs.HopLemmas.{links_turn, few_links}
use Rattle.srm_net.proofs.Firsts.{first_up, depth_held}
use Rattle.srm_net.proofs.Arrivals.{less_of, downwards, same_place}

module _ (w : Network) (ps : List Position) (r : IsRooted w ps) where
  -- it is told of the nodes at the first i places
  pub record Counted (u i : ℕ) (hops : List ℕ) : Type 0 where
    pub size : length hops ≡ w.nodes
    pub told : (x : ℕ) → x < w.nodes → (at ps x).place < i → slice_get hops x ≡ Some (hops_between w u x)

  pub counted_more : (u i x : ℕ) (hops : List ℕ) (v : ℕ) → x < w.nodes → (at ps x).place ≡ i → Counted u i hops
      → v ≡ hops_between w u x → Counted u (i + 1) (slice_set hops x v)
  counted_more u i x hops v hx e c f =
      let size : length hops ≡ w.nodes = c.size in
      let here : slice_get (slice_set hops x v) x ≡ Some (hops_between w u x) = get_set_same hops x v (omega arith) ∙ ap Some f in
      record {
        size = length-set hops x v ∙ size;
        told = λ y hy lt.
            elim (cases_eq x y) [
              | inl same ↦ subst (λ z. slice_get (slice_set hops x v) z ≡ Some (hops_between w u z)) same here
              | inr other ↦ (let n : (at ps y).place ≢ i = λ g. other (same_place w ps r x y hx hy (e ∙ sym g)) in
                  get_set_other hops x y v other ∙ c.told y hy (less_of (at ps y).place i n lt))
            ];
      }

  pub counted_all : (u i : ℕ) (order hops : List ℕ) → IsInOrder w ps order → length order ≤ i → Counted u i hops → TellsHops w u hops
  counted_all u i order hops o h c = record {
    nodes = c.size;
    each = λ x hx.
        let within = get_below order (at ps x).place x (o.each x hx) in
        c.told x hx (omega arith);
  }

  -- up to a node that is above the sender, or the sender's own
  pub record Above (u x : ℕ) : Type 0 where
    pub low : (at ps x).depth ≤ (at ps u).depth
    pub is : (at ps u).depth - (at ps x).depth ≡ hops_between w u x

  pub hops_above : (u x : ℕ) → u < w.nodes → x < w.nodes → IsHeld (at ps x) (at ps u) → Above u x
  hops_above u x hu hx held =
      let e : (at ps u).depth ≡ hops_between w u x + (at ps x).depth = depth_held w ps r x u hx hu held in
      record { low = omega arith; is = omega arith }

  -- down to another one, from its parent
  pub record Below (u x : ℕ) : Type 0 where
    pub node : (at ps x).parent < w.nodes
    pub lower : (at ps (at ps x).parent).place < (at ps x).place
    pub few : hops_between w u (at ps x).parent + 1 < w.nodes
    pub is : hops_between w u (at ps x).parent + 1 ≡ hops_between w u x

  pub hops_below : (u x : ℕ) → u < w.nodes → x < w.nodes → (IsHeld (at ps x) (at ps u) → ⊥) → Below u x
  hops_below u x hu hx n =
      let down = downwards w ps r (λ s. false) u 0 x hu hx n in
      let p = (at ps x).parent in
      let f = first_up w ps r x u hx hu n in
      let up : hops_between w x u ≡ suc (hops_between w p u) = ap length f.route in
      let there : hops_between w u x ≡ hops_between w x u = links_turn w r.tree u x hu hx in
      let here : hops_between w u p ≡ hops_between w p u = links_turn w r.tree u p hu down.node in
      let few : hops_between w u x < w.nodes = few_links w r.tree u x hu hx in
      record { node = down.node; lower = down.lower; few = omega arith; is = omega arith }
