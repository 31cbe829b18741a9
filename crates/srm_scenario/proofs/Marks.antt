-- The order of marks.
use Rattle.std.proofs.Common.{arith}
use Rattle.std.proofs.Common.{◌≡◌, ℕ, Bool, List, [], ◌∷◌, ◌++◌, Some, Ordering, nat_cmp, is_lt}
use Rattle.std.proofs.Common.{ap, ◌∙◌, subst}
use Rattle.std.proofs.lemmas.Cmp.{nat_list_cmp_total}
use Rattle.std.proofs.lemmas.List.Sorted.{ranks_by}
use Rattle.std.specs.Cmp.{IsStrictWeakOrder}
use Rattle.std.specs.List.Sorted.{IsSortedBy, IsStableBy}
use Rattle.std.specs.Ordering.{ordering_then}
use Rattle.std.specs.List.{slice_get}
use Rattle.srm_net.specs.Orders.{ordered, Rises}
use Rattle.srm_net.specs.Keys.{rank_number}
use Rattle.srm_net.specs.contracts.rank.RankOrd.TheImpl as rank_order
use Rattle.srm_net.specs.declared.rank.Rank.TheVariants.{Join}
use Rattle.srm_net.proofs.Basics.{regrouped}
use Rattle.srm_net.proofs.TotalOrders.{ranks_compared}
use Rattle.srm_scenario.specs.declared.mark.Mark.{Mark}
use Rattle.srm_scenario.specs.declared.parts.MemberSpec.{MemberSpec}
use Rattle.srm_scenario.specs.declared.parts.DrawSpec.{DrawSpec}
use Rattle.srm_scenario.specs.declared.parts.SessionSpec.{SessionSpec}
use Rattle.srm_scenario.specs.Plain.{PlainScenario, mark_cmp, plain_mark, draw_marks, report_marks, leave_marks, marks_of, script_of}
use Rattle.srm_scenario.proofs.Sorting.{ordered-from_sort, Rises-ordered}

-- the order of the tuples by which the code sorts
abbrev pub keyed : Mark → Mark → Ordering
keyed x y = ordering_then (ordering_then (nat_cmp x.at y.at) (rank_order.ghosts.cmp x.rank y.rank)) (nat_cmp x.place y.place)

keyed-is : (x y : Mark) → keyed x y ≡ mark_cmp x y
keyed-is x y =
    ap (λ r. ordering_then (ordering_then (nat_cmp x.at y.at) r) (nat_cmp x.place y.place)) (ranks_compared x.rank y.rank)
    ∙ regrouped (nat_cmp x.at y.at) (nat_cmp (rank_number x.rank) (rank_number y.rank)) (nat_cmp x.place y.place)

same_test : ◌≡◌ {A = Mark → Mark → Bool} (λ x y. is_lt (keyed x y)) (λ x y. is_lt (mark_cmp x y))
same_test = λ i x y. is_lt (keyed-is x y i)

-- marks compare as any two numbers do
pub mark_cmp-order : IsStrictWeakOrder (λ x y. is_lt (mark_cmp x y))
mark_cmp-order = ranks_by nat_list_cmp_total (λ (m : Mark). m.at ∷ rank_number m.rank ∷ m.place ∷ [])

-- a stable sort by those tuples gives the marks in the order of their keys
pub marks-from_sort : (xs ys : List Mark) → IsSortedBy (λ x y. is_lt (keyed x y)) ys → IsStableBy (λ x y. is_lt (keyed x y)) xs ys → ys
    ≡ ordered mark_cmp xs
marks-from_sort xs ys sorted stable =
    ordered-from_sort mark_cmp mark_cmp-order xs ys (subst (λ (lt : Mark → Mark → Bool). IsSortedBy lt ys) same_test sorted)
    (subst (λ (lt : Mark → Mark → Bool). IsStableBy lt xs ys) same_test stable)

-- the marks of a script rise
pub scripts_rise : (s : PlainScenario) (m : ℕ) → Rises mark_cmp (script_of s m)
unfolding script_of
scripts_rise s m = Rises-ordered mark_cmp mark_cmp-order (marks_of s m (slice_get s.members m))

-- the script by its member, draws and sessions
pub script_by_parts : (s : PlainScenario) (m : ℕ) (k : MemberSpec) (draws : List DrawSpec) (sessions : List SessionSpec)
    → slice_get s.members m ≡ Some k → draws ≡ s.draws → sessions ≡ s.sessions
    → ordered mark_cmp (plain_mark k.join Join 0 ∷ draw_marks m 0 draws ++ report_marks m 0 sessions ++ leave_marks k.leave) ≡ script_of s m
unfolding script_of
script_by_parts s m k draws sessions at by_draws by_sessions = grind arith
