use Rattle.std.proofs.Common.{◌∙◌, ℕ, ◌≤◌, List, slice_index, inl, inr, sym, ap, subst, arith}
use Rattle.std.specs.List.{All}
use Rattle.std.specs.Option.{unwrap_or}
use Rattle.std.proofs.lemmas.Option.{unwrap_or-slice_get, slice_get_cases}
use Rattle.srm_net.specs.Limits.{greatest_distance}
use Rattle.srm_member.specs.React.{distance_to}
use Rattle.srm_member.specs.Record.{MemberState}
use Rattle.srm_member.proofs.member_state.MemberState.distance_to.Goals as goal

-- a distance of the list, or 0 where there is none
at_most : (ds : List ℕ) (i : ℕ) → All (λ d. d ≤ greatest_distance) ds → slice_index ds i ≤ greatest_distance
at_most ds i a = subst (λ d. d ≤ greatest_distance) (unwrap_or-slice_get ds i 0) (elim (slice_get_cases ds i).1 [
  | inl q ↦
      let own : q.0 ≤ greatest_distance = subst (λ d. d ≤ greatest_distance) q.3 (a i q.0 q.1) in
      subst (λ o. unwrap_or o 0 ≤ greatest_distance) (sym q.2) own
  | inr q ↦ subst (λ o. unwrap_or o 0 ≤ greatest_distance) (sym q.1) (omega arith)
])

pub returns-clause-value : goal.returns-clause-value
returns-clause-value c = c.to.ensures.value ∙ ap (λ (m : MemberState). distance_to m c.args.who) c.self.view_is

pub returns-clause-bound : goal.returns-clause-bound
returns-clause-bound c =
    subst (λ d. d ≤ greatest_distance) (sym c.to.ensures.value) (at_most c.self.inside.fixed.dist c.args.who c.self.invariant)
