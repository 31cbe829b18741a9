-- The test of a tree, and what a tree is.
use Rattle.std.proofs.Common.{◌≡◌, ℕ, zero, suc, ◌+◌, ◌<◌, Bool, true, false, List, [], ◌∷◌, length, Option, is_some, nat_le}
use Rattle.std.proofs.Common.{nat_lt, refl, ap, arith, inl, inr, eqb}
use Rattle.std.proofs.lemmas.Bool.{and_parts, cases_Bool, and_from}
use Rattle.std.proofs.lemmas.Bool.Decides.{nat_tests}
use Rattle.std.proofs.lemmas.List.Elements.{recursion_from_All, All-from_recursion}
use Rattle.std.specs.List.{list_all, AllByRecursion}
use Rattle.std.specs.Prelude.{◌&&◌, ◌==◌}
use Rattle.srm_net.specs.declared.link.LinkSpec.{LinkSpec}
use Rattle.srm_net.specs.Limits.{most_nodes}
use Rattle.srm_net.specs.Network.{Network, IsWithin, IsPath, IsTree, plain_network}
use Rattle.srm_net.proofs.Numbers.{apart_from_distinct, distinct_from_apart}
use Rattle.srm_net.proofs.RouteLemmas.{Found, found_path, path_found, path_length}
use Rattle.srm_scenario.specs.Trees.{all_below, has_way, is_tree}

below_all : (test : ℕ → Bool) (n k : ℕ) → all_below test n ≡ true → k < n → test k ≡ true
below_all test zero k h lt = absurd (omega arith)
below_all test (suc n) k h lt =
    let (last, rest) = and_parts (test n) (all_below test n) h in
    elim (cases_Bool (eqb k n)) [
      | inl same ↦ (let e : k ≡ n = grind (arith, nat_tests) in rw e last)
      | inr other ↦ (let less : k < n = grind (arith, nat_tests) in below_all test n k rest less)
    ]

all_from_below : (test : ℕ → Bool) (n : ℕ) → ((k : ℕ) → k < n → test k ≡ true) → all_below test n ≡ true
all_from_below test zero h = refl
all_from_below test (suc n) h = and_from _ _ (h n (omega arith)) (all_from_below test n (λ k lt. h k (omega arith)))

within_both : (n : ℕ) (k : LinkSpec) → (nat_lt k.a n && nat_lt k.b n) ≡ true → IsWithin n k
within_both n k h = let (p, q) = and_parts (nat_lt k.a n) (nat_lt k.b n) h in (grind (arith, nat_tests), grind (arith, nat_tests))

both_within : (n : ℕ) (k : LinkSpec) → IsWithin n k → (nat_lt k.a n && nat_lt k.b n) ≡ true
both_within n k h = let p = h.0 in let q = h.1 in
    and_from (nat_lt k.a n) (nat_lt k.b n) (grind (arith, nat_tests)) (grind (arith, nat_tests))

ends_all : (n : ℕ) (ks : List LinkSpec) → list_all (λ k. nat_lt k.a n && nat_lt k.b n) ks ≡ true → AllByRecursion (IsWithin n) ks
ends_all n [] h = tt
ends_all n (k ∷ ks) h =
    let (p, q) = and_parts (nat_lt k.a n && nat_lt k.b n) (list_all (λ k. nat_lt k.a n && nat_lt k.b n) ks) h in
    (within_both n k p, ends_all n ks q)

all_ends : (n : ℕ) (ks : List LinkSpec) → AllByRecursion (IsWithin n) ks → list_all (λ k. nat_lt k.a n && nat_lt k.b n) ks ≡ true
all_ends n [] h = refl
all_ends n (k ∷ ks) h = and_from _ _ (both_within n k h.0) (all_ends n ks h.1)

found_some : (o : Option (List ℕ)) → Found o → is_some o ≡ true
found_some o f = ap is_some f.1

way_path : (w : Network) (u v : ℕ) → has_way w u v ≡ true → (ls : List ℕ) × IsPath w.links u ls v
way_path w u v h = grind (arith, found_path, distinct_from_apart)

path_way : (w : Network) → IsTree w → (u v : ℕ) → u < w.nodes → v < w.nodes → has_way w u v ≡ true
path_way w t u v hu hv =
    let p = t.connected u v hu hv in
    let apart = apart_from_distinct p.1.0 p.1.2 in
    found_some _ (path_found (length w.links) w.links [] u p.0 v p.1.0 p.1.1 apart (λ m i. refl)
    (path_length w t u p.0 v p.1.0 p.1.1 apart hu))

-- what passes the test is a tree
pub tree_from_test : (w : Network) → is_tree w ≡ true → IsTree w
unfolding is_tree
tree_from_test w h =
    let n = w.nodes in
    let (some, rest) = and_parts (nat_le 1 n) _ h in
    let (few, rest2) = and_parts (nat_le n most_nodes) _ rest in
    let (ends, rest3) = and_parts (list_all (λ k. nat_lt k.a n && nat_lt k.b n) w.links) _ rest2 in
    let (fewer, ways) = and_parts (length w.links + 1 == n) _ rest3 in
    record {
      some_nodes = grind (arith, nat_tests);
      few_nodes = grind (arith, nat_tests);
      ends = All-from_recursion (IsWithin n) w.links (ends_all n w.links ends);
      one_fewer = grind (arith, nat_tests);
      connected = λ u v hu hv. way_path w u v (below_all (has_way w u) n v (below_all (λ u. all_below (has_way w u) n) n u ways hu) hv);
    }

-- a tree passes the test
pub test_from_tree : (w : Network) → IsTree w → is_tree w ≡ true
unfolding is_tree
test_from_tree w t =
    let n = w.nodes in
    let some = t.some_nodes in
    let few = t.few_nodes in
    let fewer = t.one_fewer in
    and_from (nat_le 1 n) _ (grind (arith, nat_tests)) (and_from (nat_le n most_nodes) _
    (grind (arith, nat_tests)) (and_from _ _ (all_ends n w.links (recursion_from_All (IsWithin n) w.links t.ends))
    (and_from (length w.links + 1 == n) _ (grind (arith, nat_tests))
    (all_from_below _ n (λ u hu. all_from_below _ n (λ v hv. path_way w t u v hu hv))))))

-- hosts play no part in it
pub without_hosts : (n : ℕ) (links : List LinkSpec) (a b : List ℕ) → is_tree (plain_network n links a) ≡ is_tree (plain_network n links b)
unfolding is_tree
without_hosts n links a b = refl

-- a test that is not passed, where there is no tree
pub not_tree : (w : Network) → (IsTree w → ⊥) → is_tree w ≡ false
not_tree w h = elim (cases_Bool (is_tree w)) [ inl e ↦ absurd (h (tree_from_test w e)) | inr e ↦ e ]
