use Rattle.std.proofs.Common.{◌≡◌, ◌∙◌, ap, List, ℕ, subst}
use Rattle.std.specs.List.{count_by}
use Rattle.std.specs.Result.{IfOk}
use Rattle.srm_report.specs.KeptScopes.{HearMore}
use Rattle.srm_report.proofs.ScopeLemmas.{count_heard, hear_all, table_of}
use Rattle.srm_report.proofs.scopes.scopes_text.Goals as goal
use Rattle.srm_net.specs.Names.{id_cmp}
use Rattle.std.specs.Ordering.{eq_by_cmp}

pub returns : goal.returns
returns c =
    let rows = c.args.rows.now in
    let all = c.in_ok-all.ensures in
    let heard = subst (λ es. HearMore es c.as_slice.result.now c.add.new.self) c.new-heard.ensures c.in_ok-add.ensures in
    subst (λ (l : List ℕ). IfOk c.table_text.result (λ text. text.items ≡ l))
    (table_of rows c.as_slice-2.result.now c.add.new.self (c.as_slice-2.ensures.value ∙ all.sent)
    (λ p. hear_all c.as_slice.result.now c.add.new.self heard p ∙ ap (count_by (eq_by_cmp id_cmp p)) (c.as_slice.ensures.value ∙ all.heard)
    ∙ count_heard p rows))
    c.table_text.ensures
