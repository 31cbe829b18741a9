use Rattle.std.proofs.Common.{◌∷◌, ◌++◌, sym, ap, subst, ◌∙◌, T}
use Rattle.std.specs.FinMap.Entries.{put, is_sorted}
use Rattle.std.specs.Option.{option_to_list}
use Rattle.srm_net.specs.declared.packet.Name.{Name}
use Rattle.srm_net.specs.Names.{name_cmp}
use Rattle.srm_member.proofs.Compare.{name_put}
use Rattle.srm_member.proofs.Firsts.{entry_before, entry_behind}
use Rattle.srm_member.proofs.Indexes.{rises-put}
use Rattle.srm_member.proofs.named.Named.put.Goals as goal

pub returns-in_ok-insert-in-Less-clause-ok : goal.returns-in_ok-insert-in-Less-clause-ok
returns-in_ok-insert-in-Less-clause-ok g c =
    let xs = c.self.inside.others.entries in
    let e : Name × g.row.V.Denot = (c.in-Some.first, c.in-Some.before) in
    let rise = subst (λ o. T (is_sorted name_cmp (option_to_list o ++ xs))) c.in-Some.is c.self.invariant.0 in
    ap (λ l. (c.args.name, c.args.value) ∷ l)
    (c.in_ok-insert-in-Less.ensures.entries ∙ sym (name_put c.in-Some.first c.in-Some.before xs))
    ∙ entry_before c.args.name c.args.value e xs rise (sym c.cmp.ensures ∙ c.in-Less.is)
    ∙ ap (λ o. put name_cmp c.args.name c.args.value (option_to_list o ++ xs)) (sym c.in-Some.is)
    ∙ ap (λ l. put name_cmp c.args.name c.args.value l) c.self.view_is

pub invariant_of-self-in-Less : goal.invariant_of-self-in-Less
invariant_of-self-in-Less g c =
    let before = subst (λ l. T (is_sorted name_cmp l)) c.self.view_is c.self.invariant.0 in (
      subst (λ l. T (is_sorted name_cmp l)) (sym (returns-in_ok-insert-in-Less-clause-ok g c))
          (rises-put c.args.name c.args.value c.args.self.now before),
      λ no. cc,
    )

pub returns-in_ok-insert-in-Greater-clause-ok : goal.returns-in_ok-insert-in-Greater-clause-ok
returns-in_ok-insert-in-Greater-clause-ok g c =
    let xs = c.self.inside.others.entries in
    let ys = c.insert-in-Greater.new.self.entries in
    let e : Name × g.row.V.Denot = (c.in-Some.first, c.in-Some.before) in
    ap (λ o. option_to_list o ++ ys) c.in-Some.is
    ∙ ap (λ l. e ∷ l) (c.in_ok-insert-in-Greater.ensures.entries ∙ sym (name_put c.args.name c.args.value xs))
    ∙ entry_behind c.args.name c.args.value e xs (sym c.cmp.ensures ∙ c.in-Greater.is)
    ∙ ap (λ o. put name_cmp c.args.name c.args.value (option_to_list o ++ xs)) (sym c.in-Some.is)
    ∙ ap (λ l. put name_cmp c.args.name c.args.value l) c.self.view_is

pub invariant_of-self-in_ok-insert-in-Greater : goal.invariant_of-self-in_ok-insert-in-Greater
invariant_of-self-in_ok-insert-in-Greater g c =
    let before = subst (λ l. T (is_sorted name_cmp l)) c.self.view_is c.self.invariant.0 in (
      subst (λ l. T (is_sorted name_cmp l)) (sym (returns-in_ok-insert-in-Greater-clause-ok g c))
          (rises-put c.args.name c.args.value c.args.self.now before),
      λ no. let x = sym c.in-Some.is ∙ no in cc,
    )
