-- What holds of local recovery.
use Rattle.std.proofs.Common.{◌≡◌, ◌⊎◌, inl, inr, ℕ, ◌+◌, ◌-◌, ◌<◌, ◌≤◌, Bool, true, false, ◌||◌, not, ◌==◌, refl, sym, subst}
use Rattle.std.proofs.Common.{arith, eqb-true, leb-true, nat_le, ◌&&◌}
use Rattle.std.proofs.lemmas.Bool.{and_parts}
use Rattle.srm_member.specs.declared.fixed.Fixed.{Fixed}
use Rattle.srm_member.specs.declared.steps.Steps.{Steps}
use Rattle.srm_member.specs.declared.steps.Steps.TheVariants.{One, Two}
use Rattle.srm_member.specs.LocalRecovery.{hops_to, scope_of_repair}
use Rattle.srm_member.specs.LocalLaws.{TenBackoffsGoToAll, AreHops, KnowsHops, WhoHeardIsReached, IsReached, ServingIsSound}

pub ten_backoffs_go_to_all : TenBackoffsGoToAll
ten_backoffs_go_to_all f h = grind arith

pub who_heard_is_reached : WhoHeardIsReached
who_heard_is_reached members h metric f knows r m w rs ms near =
    let b = f.member in
    let bs = knows.member in
    let own : hops_to f r ≡ h b r = knows.hops r rs in
    let way : h b m ≤ h b r + h r m = metric.over b r m bs rs ms in
    omega arith

either_test : (a b : Bool) → (a || b) ≡ true → (a ≡ true) ⊎ (b ≡ true)
either_test true b e = inl refl
either_test false b e = inr e

module _ (members : ℕ) (h : ℕ → ℕ → ℕ) (metric : AreHops members h) (x m : Fixed)
    (knows_x : KnowsHops members h x) (knows_m : KnowsHops members h m)
    (q v r w y : ℕ) (qs : q < members) (rs : r < members) (ys : y < members)
    (heard : h x.member q ≤ v) (near : h r y ≤ w) where
  -- what was meant for the request: in one step y is within the repair, in two within the second step
  reached_meant : (steps : Steps) → x.steps ≡ steps → q ≡ r → w ≤ v → IsReached h x q v y
  reached_meant One e same wide = inl (
      let own : hops_to x q ≡ h x.member q = knows_x.hops q qs in
      let way : h x.member y ≤ h x.member q + h q y = metric.over x.member q y knows_x.member qs ys in
      let there : h q y ≤ w = subst (λ k. h k y ≤ w) (sym same) near in
      subst (λ s. h x.member y ≤ scope_of_repair x s q v) (sym e) (omega arith))
  reached_meant Two e same wide = inr (
    e,
    subst (λ s. h x.member q ≤ scope_of_repair x s q v) (sym e) heard,
    (let there : h q y ≤ w = subst (λ k. h k y ≤ w) (sym same) near in omega arith),
  )

  -- who heard the request is within what the repair had left
  reached_around : (g : ℕ) → h x.member m.member ≤ g → hops_to m r + w ≤ g - hops_to m x.member → h x.member y ≤ g
  reached_around g comes left =
      let there : hops_to m x.member ≡ h m.member x.member = knows_m.hops x.member knows_x.member in
      let back : h x.member m.member ≡ h m.member x.member = metric.either_way x.member m.member knows_x.member knows_m.member in
      let own : hops_to m r ≡ h m.member r = knows_m.hops r rs in
      let first : h x.member y ≤ h x.member m.member + h m.member y = metric.over x.member m.member y knows_x.member knows_m.member ys in
      let second : h m.member y ≤ h m.member r + h r y = metric.over m.member r y knows_m.member rs ys in
      omega arith

  reached : (g : ℕ) → g ≡ scope_of_repair x x.steps q v → h x.member m.member ≤ g
      → (((q == r) && (not (r == m.member) && nat_le w v)) || nat_le (hops_to m r + w) (g - hops_to m x.member)) ≡ true
      → IsReached h x q v y
  reached g is comes serves = elim (either_test _ _ serves) [
    | inl meant ↦ reached_meant x.steps refl (eqb-true _ _ (and_parts (q == r) _ meant).0)
        (leb-true _ _ (and_parts (not (r == m.member)) _ (and_parts (q == r) _ meant).1).1)
    | inr around ↦ inl (subst (λ s. h x.member y ≤ s) is (reached_around g comes (leb-true _ _ around)))
  ]

pub serving_is_sound : ServingIsSound
serving_is_sound members h metric x m knows_x knows_m q v r w y qs rs ys heard comes serving near =
    reached members h metric x m knows_x knows_m q v r w y qs rs ys heard near (scope_of_repair x x.steps q v) refl comes serving
