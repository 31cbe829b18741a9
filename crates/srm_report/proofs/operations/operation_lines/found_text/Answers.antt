use Rattle.std.proofs.Common.{◌≡◌, ◌<◌, List, ℕ, length, sym, subst}
use Rattle.std.specs.Option.{IfSome}
use Rattle.std.specs.Result.{IfOk}
use Rattle.srm_report.specs.Operations.{last_told}
use Rattle.srm_report.proofs.TallyLemmas.{last_among, table_is}
use Rattle.srm_report.proofs.operations.operation_lines.found_text.Goals as goal

pub table_text-requires : goal.table_text-requires
table_text-requires c n =
    let rows = c.requires.0 in
    let found = c.requires.2 in
    let members = length c.args.net.now.hosts in
    let tell = c.in_ok-counted.ensures rows found.lost found.gone in
    subst (λ t. IfSome (last_told t) (λ r. (r.member < members) × (n.source < members))) (sym (tell.counts n))
    (last_among rows members n c.requires.1 _ found.lost)

pub returns : goal.returns
returns c rows o found =
    let tell = c.in_ok-counted.ensures rows found.lost found.gone in
    subst (λ (l : List ℕ). IfOk c.table_text.result (λ text. text.items ≡ l)) (table_is c.args.net.now rows _ _ tell found.asked)
    c.table_text.ensures
