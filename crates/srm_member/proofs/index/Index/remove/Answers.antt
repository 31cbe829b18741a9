use Rattle.std.proofs.Common.{◌∷◌, ◌++◌, false, Equal, refl, sym, ap, subst, ◌∙◌}
use Rattle.std.specs.Option.{option_to_list}
use Rattle.std.specs.Ordering.{is_eq}
use Rattle.srm_net.proofs.Basics.{is_Equal}
use Rattle.srm_member.specs.Pending.{Leads}
use Rattle.srm_member.proofs.Compare.{due_update}
use Rattle.srm_member.proofs.Firsts.{Updates, compared, take_first, all_of, next_leads, leads_less, take_behind}
use Rattle.srm_member.proofs.index.Index.remove.Goals as goal

pub invariant_of-self : goal.invariant_of-self
invariant_of-self c =
    let next = c.pop_first-self-inside in
    next_leads next.result c.self.inside.others.keys next.new.self.keys next.ensures.variant next.ensures.unchanged next.ensures.all_above

pub returns-then-is_eq : goal.returns-then-is_eq
returns-then-is_eq c =
    let next = c.pop_first-self-inside in
    let xs = c.self.inside.others.keys in
    let all = ap (λ o. option_to_list o ++ xs) (sym c.in-Some.is) ∙ c.self.view_is in
    let lead = subst (λ o. Leads o xs) c.in-Some.is c.self.invariant in
    let left = option_to_list next.result ++ next.new.self.keys in
    let tie = compared c.args.due c.in-Some.first c.cmp.result Equal c.cmp.ensures (is_Equal _ (sym c.is_eq.ensures ∙ c.if-is_eq.true)) in
    subst (λ l. Updates c.args.due false l left) all
    (subst (λ l. Updates c.args.due false (c.in-Some.first ∷ xs) l)
    (sym (all_of next.result xs next.new.self.keys next.ensures.unchanged next.ensures.removal))
    (take_first c.args.due c.in-Some.first xs lead tie))

pub invariant_of-self-else-is_eq : goal.invariant_of-self-else-is_eq
invariant_of-self-else-is_eq c =
    let xs = c.self.inside.others.keys in
    let lead = subst (λ o. Leads o xs) c.in-Some.is c.self.invariant in
    let ys = c.remove.new.self.keys in
    subst (λ o. Leads o ys) (sym c.in-Some.is)
    (leads_less c.args.due c.in-Some.first xs ys lead (due_update c.args.due false xs ys c.remove.ensures.updates.0))

pub returns-else-is_eq : goal.returns-else-is_eq
returns-else-is_eq c =
    let xs = c.self.inside.others.keys in
    let all = ap (λ o. option_to_list o ++ xs) (sym c.in-Some.is) ∙ c.self.view_is in
    let ys = c.remove.new.self.keys in
    let other = ap is_eq (compared c.args.due c.in-Some.first c.cmp.result c.cmp.result c.cmp.ensures refl)
    ∙ sym c.is_eq.ensures ∙ c.if-is_eq.false in
    subst (λ l. Updates c.args.due false l (option_to_list c.self.inside.first ++ ys)) all
    (subst (λ o. Updates c.args.due false (c.in-Some.first ∷ xs) (option_to_list o ++ ys)) (sym c.in-Some.is)
    (take_behind c.args.due c.in-Some.first xs ys other (due_update c.args.due false xs ys c.remove.ensures.updates.0)))
