-- Links that join each node to an earlier one make a tree.
use Rattle.std.proofs.Common.{◌≡◌, ℕ, zero, suc, ◌+◌, ◌<◌, ◌≤◌, true, false, List, [], ◌∷◌, length, Some, All, slice_get, refl, ap, ◌∙◌}
use Rattle.std.proofs.Common.{arith, inl, inr}
use Rattle.std.proofs.lemmas.Bool.{cases_Bool}
use Rattle.std.proofs.lemmas.Bool.Decides.{nat_tests}
use Rattle.std.specs.Prelude.{◌||◌, ◌==◌}
use Rattle.srm_net.specs.declared.link.LinkSpec.{LinkSpec}
use Rattle.srm_net.specs.declared.attaching.Attaching.{Attaching}
use Rattle.srm_net.specs.Growth.{attached, Grows}
use Rattle.srm_net.specs.Limits.{most_nodes}
use Rattle.srm_net.specs.Network.{IsWithin, IsTree, plain_network}
use Rattle.srm_net.specs.Paths.{is_in}
use Rattle.srm_net.proofs.OrderLemmas.{whole_tree}

-- link i joins node i + 1 to its parent
pub record JoinsParents (parent : ℕ → ℕ) (links : List LinkSpec) : Type 0 where
  pub below : (v : ℕ) → 1 ≤ v → parent v < v
  pub delay : ℕ → ℕ
  pub back : ℕ → ℕ
  pub link : (i : ℕ) → i < length links → slice_get links i ≡ Some
      (record { a = parent (i + 1); b = i + 1; delay = delay i; back = back i })

module _ (parent : ℕ → ℕ) where
  -- the steps that attach nodes 1 to n, the newest first
  steps : ℕ → List Attaching
  steps zero = []
  steps (suc n) = record { link = n; parent = parent (n + 1); node = n + 1 } ∷ steps n

  steps_length : (n : ℕ) → length (steps n) ≡ n
  unfolding steps
  steps_length zero = refl
  steps_length (suc n) = ap suc (steps_length n)

  has_node : (n x : ℕ) → x ≤ n → is_in (attached (steps n)) x ≡ true
  unfolding steps
  has_node zero x le = grind (arith, nat_tests)
  has_node (suc n) x le =
      elim (cases_Bool ((n + 1) == x)) [
        | inl same ↦ ap (λ b. b || is_in (attached (steps n)) x) same
        | inr other ↦ (let less : x ≤ n = grind (arith, nat_tests) in ap (λ b. b || is_in (attached (steps n)) x) other ∙ has_node n x less)
      ]

  no_node : (n x : ℕ) → n < x → is_in (attached (steps n)) x ≡ false
  unfolding steps
  no_node zero x lt = grind (arith, nat_tests)
  no_node (suc n) x lt =
      let other : ((n + 1) == x) ≡ false = grind (arith, nat_tests) in
      ap (λ b. b || is_in (attached (steps n)) x) other ∙ no_node n x (omega arith)

  grows : (links : List LinkSpec) (n : ℕ) → JoinsParents parent links → n ≤ length links → Grows links (steps n)
  unfolding steps
  grows links zero h le = tt
  grows links (suc n) h le =
      let below : parent (n + 1) < n + 1 = h.below (n + 1) (omega arith) in (
        record {
          spec = record { a = parent (n + 1); b = n + 1; delay = h.delay n; back = h.back n };
          link = h.link n (omega arith);
          joins = inl (refl, refl);
          parent = has_node n (parent (n + 1)) (omega arith);
          node = no_node n (n + 1) (omega arith);
        },
        grows links n h (omega arith),
      )

  pub parents_tree : (nodes : ℕ) (links : List LinkSpec) → 1 ≤ nodes → nodes ≤ most_nodes → All (IsWithin nodes) links
      → length links + 1 ≡ nodes
      → JoinsParents parent links → IsTree (plain_network nodes links [])
  parents_tree nodes links some few ends many h =
      let taken : length (steps (length links)) + 1 ≡ nodes = omega (arith, steps_length (length links)) in
      whole_tree nodes links (steps (length links)) some few ends many (grows links (length links) h (omega arith)) taken
