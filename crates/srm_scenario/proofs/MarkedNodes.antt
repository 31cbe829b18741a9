-- Marks of the nodes on which members are, from one member to the next.
use Rattle.std.proofs.Common.{◌≡◌, ℕ, ◌+◌, ◌<◌, Bool, true, cond, List, [], ◌∷◌, ◌++◌, length, take, get_or, slice_set}
use Rattle.std.proofs.Common.{sym, ap, subst, ◌∙◌, ◌==◌, arith}
use Rattle.std.proofs.lemmas.List.{take_more}
use Rattle.srm_net.proofs.DropLemmas.{any_push}
use Rattle.srm_net.proofs.Marks.{known_set}
use Rattle.srm_scenario.specs.declared.entry.MemberEntry.{MemberEntry}
use Rattle.srm_scenario.specs.Faults.{fits_member}
use Rattle.srm_scenario.specs.Taken.{MarksNodes}

marks_more : (es : List MemberEntry) (e : MemberEntry) (taken : List Bool) → e.spec.node < length taken → MarksNodes es taken
    → MarksNodes (es ++ e ∷ []) (slice_set taken e.spec.node true)
marks_more es e taken lt marks n =
    known_set taken e.spec.node lt n ∙ ap (λ b. cond (e.spec.node == n) true b) (marks n)
    ∙ sym (any_push (λ (x : MemberEntry). x.spec.node == n) es e)

-- where the nodes of the first i members are marked, and then that of the next, those of one member more are
pub marks_next : (es : List MemberEntry) (i : ℕ) (e : MemberEntry) (taken : List Bool) → i < length es → e ≡ get_or es i e
    → e.spec.node < length taken → MarksNodes (take i es) taken → MarksNodes (take (i + 1) es) (slice_set taken e.spec.node true)
marks_next es i e taken lt is node marks =
    subst (λ (l : List MemberEntry). MarksNodes l (slice_set taken e.spec.node true))
    (sym (take_more es i e lt ∙ ap (λ x. take i es ++ x ∷ []) (sym is))) (marks_more (take i es) e taken node marks)

-- a member that fits is on one of the nodes
pub node_within : (until nodes : ℕ) (star : Bool) (earlier : List MemberEntry) (e : MemberEntry)
    → fits_member until nodes star earlier e ≡ true → e.spec.node < nodes
node_within until nodes star earlier e h = grind arith
