use Rattle.std.proofs.Common.{[], ◌∷◌, ◌++◌, ◌∙◌, take, ap, sym, subst}
use Rattle.std.proofs.lemmas.List.{take_all, take_more}
use Rattle.srm_report.specs.KeptScopes.{KeepsScopes}
use Rattle.srm_report.proofs.scopes.scopes_of.Goals as goal

pub loop-row-preserved : goal.loop-row-preserved
loop-row-preserved c =
    let rows = c.args.rows.now in
    let i = c.loop-row.row-index in
    let r = c.row-item.result in
    subst (λ l. KeepsScopes l c.take_row.new.self)
    (sym (take_more rows i r c.loop-row-test.true ∙ ap (λ q. take i rows ++ q ∷ []) (sym c.row-item.is)))
    (c.in_ok-take_row.ensures (take i rows) c.loop-row.invariant)

pub returns : goal.returns
returns c =
    subst (λ l. KeepsScopes l c.loop-row.all) (take_all c.loop-row.row-index c.args.rows.now c.loop-row-test.false) c.loop-row.invariant
