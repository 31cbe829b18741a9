-- The nodes of a tree in the order of their places.
use Rattle.std.proofs.Common.{◌≡◌, ◌≢◌, ℕ, zero, suc, ◌+◌, ◌<◌, true, List, [], ◌∷◌, ◌++◌, length, Some, refl, sym, ap}
use Rattle.std.proofs.Common.{◌∙◌, subst, inl, inr, arith, eq-eqb, slice_get, reverse}
use Rattle.std.proofs.lemmas.Bool.{ne_eqb, cases_eq, both_ways, false≢true}
use Rattle.std.proofs.lemmas.List.{length-append, length-reverse, reverse-append}
use Rattle.srm_net.specs.declared.link.LinkSpec.{LinkSpec}
use Rattle.srm_net.specs.declared.position.Position.{Position}
use Rattle.srm_net.specs.declared.attaching.Attaching.{Attaching}
use Rattle.srm_net.specs.Growth.{attached, Grows, place_in}
use Rattle.srm_net.specs.Network.{Network}
use Rattle.srm_net.specs.Paths.{is_in}
use Rattle.srm_net.specs.Rooting.{at, IsInOrder}
use Rattle.srm_net.proofs.Lists.{get_below, get_push_old, get_push_new}
use Rattle.srm_net.proofs.Numbers.{in_head, in_tail, in_cases}
use Rattle.srm_net.proofs.Growing.{attached_length}
use Rattle.srm_net.proofs.Rootings.{place_most}

newest_last : (s : Attaching) (ss : List Attaching) → reverse (s.node ∷ attached ss) ≡ reverse (attached ss) ++ s.node ∷ []
newest_last s ss = reverse-append (s.node ∷ []) (attached ss)

so_many : (ss : List Attaching) → length (reverse (attached ss)) ≡ length ss + 1
so_many ss = length-reverse (attached ss) ∙ attached_length ss

-- each attached node stands at its place
pub stands_at : (ss : List Attaching) (u : ℕ) → is_in (attached ss) u ≡ true → slice_get (reverse (attached ss)) (place_in ss u) ≡ Some u
stands_at [] u i = elim (in_cases 0 u [] i) [ inl e ↦ ap Some e | inr e ↦ absurd (false≢true e) ]
stands_at (s ∷ ss) u i =
    elim (cases_eq s.node u) [
      | inl e ↦ rw (eq-eqb s.node u e) (ap (λ ns. slice_get ns (length ss + 1)) (newest_last s ss)
          ∙ get_push_new (reverse (attached ss)) s.node (length ss + 1) (so_many ss) ∙ ap Some e)
      | inr d ↦ (let j : is_in (attached ss) u ≡ true =
          elim (in_cases s.node u (attached ss) i) [ inl e ↦ absurd (d e) | inr k ↦ k ] in
          let most = place_most ss u in
          let many = so_many ss in
          rw (ne_eqb s.node u d) (ap (λ ns. slice_get ns (place_in ss u)) (newest_last s ss)
          ∙ get_push_old (reverse (attached ss)) s.node (place_in ss u) (omega arith) ∙ stands_at ss u j))
    ]

-- and what stands somewhere is an attached node of that place
pub standing : (links : List LinkSpec) (ss : List Attaching) → Grows links ss → (i u : ℕ) → slice_get (reverse (attached ss)) i ≡ Some u
    → (is_in (attached ss) u ≡ true) × (place_in ss u ≡ i)
standing links [] g zero u h = (let e : 0 ≡ u = cc in subst (λ z. is_in (0 ∷ []) z ≡ true) e refl, refl)
standing links [] g (suc i) u h = absurd (let k = get_below (0 ∷ []) (suc i) u h in omega arith)
standing links (s ∷ ss) g i u h =
    let f : slice_get (reverse (attached ss) ++ s.node ∷ []) i ≡ Some u = ap (λ ns. slice_get ns i) (sym (newest_last s ss)) ∙ h in
    let within = get_below (reverse (attached ss) ++ s.node ∷ []) i u f in
    let all = length-append (reverse (attached ss)) (s.node ∷ []) in
    let many = so_many ss in
    elim (cases_eq i (length ss + 1)) [
      | inl e ↦ (let last : Some s.node ≡ Some u =
          sym (get_push_new (reverse (attached ss)) s.node i (many ∙ sym e)) ∙ f in
          let same : s.node ≡ u = cc in
          (subst (λ z. is_in (s.node ∷ attached ss) z ≡ true) same (in_head s.node (attached ss)), rw (eq-eqb s.node u same) (sym e)))
      | inr d ↦ (let rest = standing links ss g.1 i u
          (sym (get_push_old (reverse (attached ss)) s.node i (omega arith)) ∙ f) in
          let other : s.node ≢ u = λ e. both_ways _ g.0.node (subst (λ z. is_in (attached ss) z ≡ true) (sym e) rest.0) in
          (in_tail s.node u (attached ss) rest.0, rw (ne_eqb s.node u other) rest.1))
    ]

pub in_places : (w : Network) (ps : List Position) (links : List LinkSpec) (ss : List Attaching) → Grows links ss
    → ((u : ℕ) → u < w.nodes → is_in (attached ss) u ≡ true) → ((u : ℕ) → is_in (attached ss) u ≡ true → u < w.nodes)
    → ((u : ℕ) → u < w.nodes → (at ps u).place ≡ place_in ss u) → IsInOrder w ps (reverse (attached ss))
in_places w ps links ss g inside below place = record {
  node = λ i u h. let s = standing links ss g i u h in (below u s.0, place u (below u s.0) ∙ s.1);
  each = λ u hu. subst (λ n. slice_get (reverse (attached ss)) n ≡ Some u) (sym (place u hu)) (stands_at ss u (inside u hu));
}
