use Rattle.std.proofs.Common.{◌∷◌, ◌++◌, true, Less, Equal, Greater, sym, ap, subst, ◌∙◌}
use Rattle.std.specs.Option.{option_to_list}
use Rattle.srm_member.specs.Pending.{Leads}
use Rattle.srm_member.proofs.Compare.{due_update}
use Rattle.srm_member.proofs.Firsts.{Updates, compared, leads_before, put_before, put_again, leads_behind, put_behind}
use Rattle.srm_member.proofs.index.Index.insert.Goals as goal

pub invariant_of-self-in-Less : goal.invariant_of-self-in-Less
invariant_of-self-in-Less c =
    let xs = c.self.inside.others.keys in
    let lead = subst (λ o. Leads o xs) c.in-Some.is c.self.invariant in
    let ys = c.insert.new.self.keys in
    leads_before c.args.due c.in-Some.first xs ys lead (compared c.args.due c.in-Some.first c.cmp.result Less c.cmp.ensures c.in-Less.is)
    (due_update c.in-Some.first true xs ys c.in_ok-insert-in-Less.ensures.updates.0)

pub returns-in_ok-insert-in-Less-clause-ok : goal.returns-in_ok-insert-in-Less-clause-ok
returns-in_ok-insert-in-Less-clause-ok c =
    let xs = c.self.inside.others.keys in
    let all = ap (λ o. option_to_list o ++ xs) (sym c.in-Some.is) ∙ c.self.view_is in
    let ys = c.insert.new.self.keys in
    subst (λ l. Updates c.args.due true l (c.args.due ∷ ys)) all
    (put_before c.args.due c.in-Some.first xs ys (due_update c.in-Some.first true xs ys c.in_ok-insert-in-Less.ensures.updates.0))

pub returns-in-Equal-clause-ok : goal.returns-in-Equal-clause-ok
returns-in-Equal-clause-ok c =
    let xs = c.self.inside.others.keys in
    let all = ap (λ o. option_to_list o ++ xs) (sym c.in-Some.is) ∙ c.self.view_is in
    subst (λ l. Updates c.args.due true l l) all
    (put_again c.args.due c.in-Some.first xs
    (compared c.args.due c.in-Some.first c.cmp.result Equal c.cmp.ensures c.in-Equal.is))

pub invariant_of-self-in_ok-insert-in-Greater : goal.invariant_of-self-in_ok-insert-in-Greater
invariant_of-self-in_ok-insert-in-Greater c =
    let xs = c.self.inside.others.keys in
    let lead = subst (λ o. Leads o xs) c.in-Some.is c.self.invariant in
    let ys = c.insert-in-Greater.new.self.keys in
    subst (λ o. Leads o ys) (sym c.in-Some.is) (leads_behind c.args.due c.in-Some.first xs ys lead
    (compared c.args.due c.in-Some.first c.cmp.result Greater c.cmp.ensures c.in-Greater.is)
    (due_update c.args.due true xs ys c.in_ok-insert-in-Greater.ensures.updates.0))

pub returns-in_ok-insert-in-Greater-clause-ok : goal.returns-in_ok-insert-in-Greater-clause-ok
returns-in_ok-insert-in-Greater-clause-ok c =
    let xs = c.self.inside.others.keys in
    let all = ap (λ o. option_to_list o ++ xs) (sym c.in-Some.is) ∙ c.self.view_is in
    let ys = c.insert-in-Greater.new.self.keys in
    subst (λ l. Updates c.args.due true l (option_to_list c.self.inside.first ++ ys)) all
    (subst (λ o. Updates c.args.due true (c.in-Some.first ∷ xs) (option_to_list o ++ ys)) (sym c.in-Some.is)
    (put_behind c.args.due c.in-Some.first xs ys (due_update c.args.due true xs ys c.in_ok-insert-in-Greater.ensures.updates.0)))
