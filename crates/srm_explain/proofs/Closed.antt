-- Where each link has both of its ends marked or neither, every node is marked to which there is a way from a marked one.
use Rattle.std.proofs.Common.{◌≡◌, ◌∙◌, ℕ, Bool, true, false, List, [], ◌∷◌, length, Option, Some, None, is_some}
use Rattle.std.proofs.Common.{slice_get, not, refl, sym, ap, inl, inr}
use Rattle.std.proofs.lemmas.Bool.{and_parts, cases_Bool, false≢true}
use Rattle.std.specs.List.{list_all, AllByRecursion}
use Rattle.std.specs.Prelude.{◌&&◌, ◌||◌, ◌++◌, ◌<◌}
use Rattle.srm_net.specs.declared.link.LinkSpec.{LinkSpec}
use Rattle.srm_net.specs.Network.{Joins, IsWalk, plain_network}
use Rattle.srm_net.specs.Paths.{route_within}
use Rattle.srm_net.proofs.RouteLemmas.{found_path}
use Rattle.srm_scenario.specs.Trees.{has_way}
use Rattle.srm_scenario.proofs.Placed.{all_append}
use Rattle.srm_explain.specs.Flaws.{is_closed, is_even, is_reached, IsUnreached}
use Rattle.srm_scenario.proofs.KeyRanges.{all_at}

both_same : (a b : Bool) → ((not a || b) && (not b || a)) ≡ true → a ≡ b
both_same true true h = refl
both_same true false h = absurd (false≢true h)
both_same false true h = absurd (false≢true h)
both_same false false h = refl

module _ (reached : List Bool) (links : List LinkSpec) (closed : list_all (is_even reached) links ≡ true) where
  both_ends : (i : ℕ) (k : LinkSpec) → slice_get links i ≡ Some k → is_reached reached k.a ≡ is_reached reached k.b
  both_ends i k at = both_same (is_reached reached k.a) (is_reached reached k.b) (all_at (is_even reached) links i k closed at)

  over_link : (i u x : ℕ) (k : LinkSpec) → slice_get links i ≡ Some k → Joins k u x → is_reached reached u ≡ is_reached reached x
  over_link i u x k at (inl j) =
      ap (is_reached reached) (sym j.0) ∙ both_ends i k at ∙ ap (is_reached reached) j.1
  over_link i u x k at (inr j) =
      ap (is_reached reached) (sym j.0) ∙ sym (both_ends i k at) ∙ ap (is_reached reached) j.1

  over_walk : (u : ℕ) (ls : List ℕ) (v : ℕ) (ns : List ℕ) → IsWalk links u ls v ns → is_reached reached u ≡ is_reached reached v
  over_walk u [] v ns w = ap (is_reached reached) w.0
  over_walk u (l ∷ ls) v ns w = over_link l u w.1 w.0 w.3 w.4 ∙ over_walk w.1 ls v w.2 w.6

found : (o : Option (List ℕ)) → is_some o ≡ true → (ls : List ℕ) × (o ≡ Some ls)
found None h = absurd (false≢true h)
found (Some ls) h = (ls, refl)

-- there is no way from node 0 to a node that is not marked
pub unmarked_unreached : (reached : List Bool) (links : List LinkSpec) (nodes v : ℕ) → is_closed reached links ≡ true
    → is_reached reached v ≡ false → has_way (plain_network nodes links []) 0 v ≡ false
unmarked_unreached reached links nodes v closed unmarked =
    elim (cases_Bool (has_way (plain_network nodes links []) 0 v)) [
      | inl way ↦
          (let (first, rest) = and_parts (is_reached reached 0) _ closed in
          let f = found (route_within (length links) links [] 0 v) way in
          let p = found_path (length links) links [] 0 v f.0 refl f.1 in
          absurd (false≢true (sym unmarked ∙ sym (over_walk reached links rest 0 f.0 v p.0 p.1) ∙ first)))
      | inr none ↦ none
    ]

-- one more node that is not marked
pub one_more : (nodes : ℕ) (links : List LinkSpec) (vs : List ℕ) (reached : List Bool) (v : ℕ) → AllByRecursion (IsUnreached nodes links) vs
    → is_closed reached links ≡ true → v < nodes → is_reached reached v ≡ false → AllByRecursion (IsUnreached nodes links) (vs ++ v ∷ [])
one_more nodes links vs reached v before closed lt unmarked =
    all_append (IsUnreached nodes links) vs (v ∷ []) before ((lt, unmarked_unreached reached links nodes v closed unmarked), tt)
