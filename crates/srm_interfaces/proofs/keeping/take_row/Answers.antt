use Rattle.std.proofs.Common.{List, ◌++◌, get_or, subst, arith}
use Rattle.srm_member.specs.declared.row.Row.{Row}
use Rattle.srm_interfaces.proofs.WatchLemmas.{of_later, one_more_row}
use Rattle.srm_interfaces.proofs.keeping.take_row.Goals as goal

pub returns-in_ok-add-clause-kept : goal.returns-in_ok-add-clause-kept
returns-in_ok-add-clause-kept g c before h =
    let keeps = g.W.Watch.keeps c.args.watch.now in
    let i = c.from-member.result in
    let d = c.index-kept-member.result in
    one_more_row keeps 0 i c.args.kept.now before c.args.row.now d c.add.new.kept (omega (arith, c.from-member.ensures))
    c.if-member-kept.true
    (subst (λ (rows : List Row). (own : List Row) → keeps (get_or c.args.kept.now i d) own → keeps c.add.new.kept (own ++ rows))
    c.from_ref.ensures.value c.in_ok-add.ensures) h

pub returns-else-member-kept-clause-kept : goal.returns-else-member-kept-clause-kept
returns-else-member-kept-clause-kept g c before h =
    of_later (g.W.Watch.keeps c.args.watch.now) 0 c.args.kept.now before c.args.row.now
    (omega (arith, c.from-member.ensures, c.if-member-kept.false)) h
