use Rattle.std.proofs.Common.{◌≡◌, [], List, MatchResult, subst}
use Rattle.std.specs.Global.{Vec}
use Rattle.srm_member.specs.declared.row.Row.{Row}
use Rattle.srm_interfaces.specs.InTurn.{KeepInTurn}
use Rattle.srm_interfaces.proofs.GroupedLemmas.{still_so}
use Rattle.srm_engine.proofs.merged_rows.MergedRowsKeptSinkVecRow.kept.Goals as goal

pub returns-in_default-clause-rows : goal.returns-in_default-clause-rows
returns-in_default-clause-rows g c rows turn =
    let sink = c.args.self.now.sink.now in
    g.met.S.RowSink.part_longer sink sink [] rows (g.met.S.RowSink.part_none sink)

pub returns-clause-rows : goal.returns-clause-rows
returns-clause-rows g c rows turn =
    let sink = c.args.self.now.sink.now in
    let new = c.rows.new.self in
    let was = still_so (λ (old new : List (Vec Row)). new ≡ old) (λ old new h. h)
    (λ kept. KeepInTurn (λ (list : Vec Row) own. list.items ≡ own) kept rows) c.args.groups.now turn in
    subst (λ (l : List Row). MatchResult c.rows.result (λ _. g.S.RowSink.took sink l new) (λ _. g.S.RowSink.part sink l new))
    (c.in-Ok.ensures.rows rows was) c.rows.ensures.rows
