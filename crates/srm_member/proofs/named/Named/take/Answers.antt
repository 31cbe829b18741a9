use Rattle.std.proofs.Common.{◌∷◌, ◌++◌, sym, ap, subst, ◌∙◌, T}
use Rattle.std.specs.FinMap.Entries.{is_sorted}
use Rattle.std.specs.Option.{option_to_list}
use Rattle.srm_net.specs.declared.packet.Name.{Name}
use Rattle.srm_net.specs.Names.{name_cmp}
use Rattle.srm_member.specs.React.{without}
use Rattle.srm_member.proofs.Compare.{name_without}
use Rattle.srm_member.proofs.Firsts.{entries_of, without_first, without_other}
use Rattle.srm_member.proofs.Indexes.{rises-without}
use Rattle.srm_member.proofs.named.Named.take.Goals as goal

pub returns-then-eq-clause-rest : goal.returns-then-eq-clause-rest
returns-then-eq-clause-rest g c =
    let next = c.pop_first-self-inside in
    let xs = c.self.inside.others.entries in
    let e : Name × g.row.V.Denot = (c.in-Some.first, c.in-Some.value) in
    let rise = subst (λ o. T (is_sorted name_cmp (option_to_list o ++ xs))) c.in-Some.is c.self.invariant.0 in
    entries_of next.result xs next.new.self.entries next.ensures.unchanged next.ensures.removal
    ∙ without_first c.args.name e xs rise (sym c.eq.ensures ∙ c.if-eq.true)
    ∙ ap (λ o. without c.args.name (option_to_list o ++ xs)) (sym c.in-Some.is)
    ∙ ap (λ l. without c.args.name l) c.self.view_is

pub returns-clause-rest : goal.returns-clause-rest
returns-clause-rest g c =
    let xs = c.self.inside.others.entries in
    let e : Name × g.row.V.Denot = (c.in-Some.first, c.in-Some.value) in
    let none = rw c.remove.ensures.entries at c.remove.ensures.updates.1 in
    ap (λ o. option_to_list o ++ c.remove.new.self.entries) c.in-Some.is
    ∙ ap (λ l. e ∷ l) (c.remove.ensures.entries ∙ name_without c.args.name xs none)
    ∙ without_other c.args.name e xs (sym c.eq.ensures ∙ c.if-eq.false)
    ∙ ap (λ o. without c.args.name (option_to_list o ++ xs)) (sym c.in-Some.is)
    ∙ ap (λ l. without c.args.name l) c.self.view_is

pub invariant_of-self-2 : goal.invariant_of-self-2
invariant_of-self-2 g c =
    let before = subst (λ l. T (is_sorted name_cmp l)) c.self.view_is c.self.invariant.0 in (
      subst (λ l. T (is_sorted name_cmp l)) (sym (returns-clause-rest g c)) (rises-without c.args.name c.args.self.now before),
      λ no. let x = sym c.in-Some.is ∙ no in cc,
    )
