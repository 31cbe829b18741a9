use Rattle.std.proofs.Common.{◌∙◌, [], ◌∷◌, ◌++◌, sym, ap, subst, T, length, arith}
use Rattle.std.specs.FinMap.Entries.{is_sorted}
use Rattle.srm_net.specs.Names.{name_cmp}
use Rattle.srm_net.proofs.TotalOrders.{name_total, tied_names}
use Rattle.srm_member.proofs.PlaceLemmas.{put_behind, nothing_there, none_there}
use Rattle.srm_member.proofs.TableChanges.{sorted_put}
use Rattle.srm_member.proofs.rising.Rising.replace.Goals as goal

pub returns-then-is_behind-clause-before : goal.returns-then-is_behind-clause-before
returns-then-is_behind-clause-before g c =
    let es = c.args.self.now in
    let sorted = subst (λ xs. T (is_sorted name_cmp xs)) c.self.view_is c.self.invariant in
    sym (nothing_there name_cmp name_total tied_names c.args.name es (length es) sorted (c.is_behind.ensures.0 c.if-is_behind.true)
    (none_there name_cmp c.args.name es (length es) (omega arith)))

pub returns-then-is_behind-clause-ok : goal.returns-then-is_behind-clause-ok
returns-then-is_behind-clause-ok g c = c.in_ok-push.ensures.ok ∙ ap (λ es. es ++ (c.args.name, c.args.value) ∷ []) c.self.view_is
    ∙ sym (put_behind name_cmp name_total tied_names c.args.name c.args.value c.args.self.now (c.is_behind.ensures.0 c.if-is_behind.true))

pub invariant_of-self-then-is_behind : goal.invariant_of-self-then-is_behind
invariant_of-self-then-is_behind g c =
    let sorted = subst (λ es. T (is_sorted name_cmp es)) c.self.view_is c.self.invariant in
    subst (λ es. T (is_sorted name_cmp es)) (sym (returns-then-is_behind-clause-ok g c))
    (sorted_put c.args.name c.args.value c.args.self.now sorted)
