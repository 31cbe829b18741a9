-- Vectors as sources of a merge.
use Rattle.std.proofs.Common.{◌≡◌, ◌∙◌, Bool, true, List, [], ◌∷◌, ◌++◌, map, length, All, IsPermutation, Vec, Global, Option}
use Rattle.std.proofs.Common.{Result, Ok, Err, IfOk, refl, sym, ap, subst, append-nil}
use Rattle.std.proofs.lemmas.List.Elements.{All-head, All-tail}
use Rattle.srm_interfaces.specs.Grouped.{all_in}
use Rattle.std.specs.Iterator.{DrainsIf}
use Rattle.std.specs.Iterator.Runs.{Run, WholeRun, EveryRun, ItemsAre, YieldsRun}
use Rattle.std.specs.List.Sorted.{IsSortedBy}
use Rattle.std.specs.Vec.Iter.{into_iter_items, into_iter_steps}
use Rattle.std.specs.declared.vec.IntoIter.{IntoIter}
use Rattle.std.proofs.lemmas.Iterator.Adapters.{YieldsList-from_vec}
use Rattle.itertools.specs.KMerge.{SourcesGive, MergeGivesAll, MergeInOrder, kmerge_steps, joined_lists}
use Rattle.itertools.specs.declared.kmerge_impl.KMergeBy.{KMergeBy}

-- each vector gives its items
pub sources : {A Z : Type 0} (gives : Vec A Z → IntoIter A Z → Type 0)
    → ((v : Vec A Z) (j : IntoIter A Z) → gives v j → into_iter_items j ≡ v.items)
    → (vs : List (Vec A Z)) → SourcesGive gives (into_iter_steps {X = A} {Z = Z}) vs (map (λ (v : Vec A Z). v.items) vs)
sources gives h [] = tt
sources gives h (v ∷ vs) =
    (λ j g. (YieldsList-from_vec v.items (h v j g) (j.rest.ok.0 ∙ ap length (h v j g))).runs, sources gives h vs)

-- what holds of the items of a whole run of a vector holds of the vector's
pub at_items : {A Z : Type 0} (vs : List A) (s : IntoIter A Z) (P : List A → Type 0) → into_iter_items s ≡ vs
    → EveryRun (into_iter_steps {X = A} {Z = Z}) (λ p. ItemsAre p (into_iter_items p.from))
    → WholeRun (into_iter_steps {X = A} {Z = Z}) s (λ p. P p.items) → P vs
at_items vs s P e every w = subst P ((every w.0 w.0.seen).4 w.2 ∙ ap into_iter_items w.1 ∙ e) w.3

drains : {S A : Type 0} {steps : S → Option A → S → Type 0} (p : Run steps) → DrainsIf steps (p.whole ≡ true) p.from p.items
unfolding YieldsRun
drains p = p.gave.0

-- what is collected came in a run that ended
collected : {S A : Type 0} {steps : S → Option A → S → Type 0} (s : S) (xs : List A) → WholeRun steps s (λ p. xs ≡ p.items)
    → DrainsIf steps (true ≡ true) s xs
collected {steps = steps} s xs w =
    subst (λ b. DrainsIf steps (b ≡ true) s xs) w.2
    (subst (λ t. DrainsIf steps (w.0.whole ≡ true) t xs) w.1 (subst (DrainsIf steps (w.0.whole ≡ true) w.0.from) (sym w.3) (drains w.0)))

module _ {S F Z A X E : Type 0} (steps : S → Option A → S → Type 0) (computes : F → (A → A → Bool) → Type 0) (m : KMergeBy S F Z A) where
  -- a merge that is collected has all items
  pub all_collected : (ls : List (List A)) (r : Result (Vec A X) E)
      → IfOk r (λ (v : Vec A X). WholeRun (kmerge_steps steps computes) m (λ p. v.items ≡ p.items)) → MergeGivesAll steps computes m ls
      → IfOk r (λ (v : Vec A X). IsPermutation (joined_lists ls) v.items)
  all_collected ls (Ok v) w h =
      let gave = h v.items true (collected m v.items w) in
      subst (IsPermutation (joined_lists ls)) (ap (λ l. v.items ++ l) (gave.2 refl) ∙ append-nil v.items) gave.1
  all_collected ls (Err e) w h = tt

  -- and has them in order
  pub collected_in_order : (first : A → A → Bool) (r : Result (Vec A X) E)
      → IfOk r (λ (v : Vec A X). WholeRun (kmerge_steps steps computes) m (λ p. v.items ≡ p.items)) → MergeInOrder steps computes first m
      → IfOk r (λ (v : Vec A X). IsSortedBy first v.items)
  collected_in_order first (Ok v) w h = h v.items true (collected m v.items w)
  collected_in_order first (Err e) w h = tt

-- the items of vectors, as one list
pub joined_all : {A : Type 0} (vs : List (Vec A Global)) → joined_lists (map (λ (v : Vec A Global). v.items) vs) ≡ all_in vs
joined_all [] = refl
joined_all (v ∷ vs) = ap (λ l. v.items ++ l) (joined_all vs)

-- what holds of each list holds of the last
pub of_last : {A Z : Type 0} (P : List A → Type 0) (vs : List (Vec A Z)) (v : Vec A Z)
    → All P (map (λ (l : Vec A Z). l.items) (vs ++ v ∷ [])) → P v.items
of_last P [] v h = All-head P v.items [] h
of_last P (u ∷ vs) v h = of_last P vs v (All-tail P u.items (map (λ (l : Vec _ _). l.items) (vs ++ v ∷ [])) h)
