-- What is kept of each member's rows goes on, and is handed on.
use Rattle.std.proofs.Common.{ℕ, zero, suc, List, [], ◌∷◌, ◌++◌, ◌==◌, sym, subst}
use Rattle.std.proofs.lemmas.List.Elements.{filter-append}
use Rattle.srm_member.specs.declared.row.Row.{Row}
use Rattle.srm_member.specs.ByMember.{rows_of_member}
use Rattle.srm_model.specs.Laws.{by_member}
use Rattle.srm_model.proofs.StandAlike.{results_by_member}
use Rattle.srm_interfaces.specs.Watches.{KeepEach, KeepMembers}
use Rattle.srm_engine.specs.KeptMembers.{KeptGoesOn}

module _ {K : Type 0} (keeps : K → List Row → Type 0) where
  go_on : (n m : ℕ) (before rows : List Row) (old new : List K) → KeepMembers keeps m old before
      → KeepEach keeps old (by_member m n rows) new → KeepMembers keeps m new (before ++ rows)
  go_on zero m before rows [] [] h k = tt
  go_on zero m before rows [] (b ∷ new) h k = absurd k
  go_on zero m before rows (a ∷ old) new h k = absurd k
  go_on (suc n) m before rows [] new h k = absurd k
  go_on (suc n) m before rows (a ∷ old) [] h k = absurd k
  go_on (suc n) m before rows (a ∷ old) (b ∷ new) h k = (
    subst (keeps b) (sym (filter-append (λ (r : Row). r.key.member == m) before rows)) (k.0 (rows_of_member m before) h.0),
    go_on n (suc m) before rows old new h.1 k.1,
  )

  pub kept_goes_on : KeptGoesOn keeps
  kept_goes_on s w till fit reached within safe results runs rows merge before old new h k =
      go_on s.traffic.members 0 before rows old new h
      (subst (λ l. KeepEach keeps old l new) (results_by_member s w till fit reached within safe results runs rows merge) k)
