-- Finite maps as lists of entries, and the words of a `BTreeMap` for them.
use Rattle.std.proofs.Common.{◌≡◌, Bool, true, false, cond, not, List, [], ◌∷◌, Some, None, refl, sym, ap, ◌∙◌}
use Rattle.std.specs.Prelude.{filter}
use Rattle.std.specs.declared.cmp.Ordering.{Ordering}
use Rattle.std.specs.declared.cmp.Ordering.TheVariants.{Less, Equal, Greater}
use Rattle.std.specs.Ordering.{eq_by_cmp, is_eq, match_ordering}
use Rattle.std.specs.FinMap.Entries.{put, find, by_order}
use Rattle.std.specs.Map.{lookup, remove_entry}
use Rattle.std.specs.BTreeMap.{insert_entry, is_at}

pub find-lookup : {K V : Type 0} (cmp : K → K → Ordering) (k : K) (es : List (K × V)) → find cmp k es ≡ lookup (is_at (cmp k)) es
find-lookup cmp k [] = refl
find-lookup cmp k (e ∷ es) = ap (cond (is_eq (cmp k e.0)) (Some e.1)) (find-lookup cmp k es)

pub put-insert_entry : {K V : Type 0} (cmp : K → K → Ordering) (k : K) (v : V) (es : List (K × V)) → put cmp k v es
    ≡ insert_entry cmp es k v
put-insert_entry cmp k v [] = refl
put-insert_entry cmp k v (e ∷ es) =
    elim (cmp k e.0) as (λ o. by_order o ((k, v) ∷ e ∷ es) ((e.0, v) ∷ es) (e ∷ put cmp k v es)
    ≡ match_ordering o ((k, v) ∷ e ∷ es) ((e.0, v) ∷ es) (e ∷ insert_entry cmp es k v)) [
      | Less ↦ refl
      | Equal ↦ refl
      | Greater ↦ ap (λ r. e ∷ r) (put-insert_entry cmp k v es)
    ]

abbrev pub without : {K V : Type 0} → (K → K → Ordering) → K → List (K × V) → List (K × V)
without cmp k es = filter (λ e. not (eq_by_cmp cmp k e.0)) es

-- where no key passes the test, all entries stay
pub kept : {K V : Type 0} (p : K → Bool) (es : List (K × V)) → lookup p es ≡ None → filter (λ e. not (p e.0)) es ≡ es
kept p [] h = refl
kept p (e ∷ es) h =
    elim (p e.0) as (λ b. cond b (Some e.1) (lookup p es) ≡ None → cond (not b) (e ∷ filter (λ e. not (p e.0)) es)
    (filter (λ e. not (p e.0)) es) ≡ e ∷ es) [
      | true ↦ λ none. cc
      | false ↦ λ none. ap (λ r. e ∷ r) (kept p es none)
    ] h

-- an entry taken out, after which none is left
pub without-remove_entry : {K V : Type 0} (cmp : K → K → Ordering) (k : K) (es : List (K × V))
    → lookup (is_at (cmp k)) (remove_entry (is_at (cmp k)) es) ≡ None → remove_entry (is_at (cmp k)) es ≡ without cmp k es
without-remove_entry cmp k [] h = refl
without-remove_entry cmp k (e ∷ es) h =
    elim (is_eq (cmp k e.0)) as (λ b. is_eq (cmp k e.0) ≡ b → lookup (is_at (cmp k)) (cond b es (e ∷ remove_entry (is_at (cmp k)) es))
    ≡ None
    → (cond b es (e ∷ remove_entry (is_at (cmp k)) es) ≡ cond (not b) (e ∷ without cmp k es) (without cmp k es))) [
      | true ↦ λ t none. sym (kept (is_at (cmp k)) es none)
      | false ↦ λ t none. ap (λ r. e ∷ r) (without-remove_entry cmp k es
          (sym (ap (λ b. cond b (Some e.1) (lookup (is_at (cmp k)) (remove_entry (is_at (cmp k)) es))) t) ∙ none))
    ] refl h
