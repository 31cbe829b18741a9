use Rattle.std.proofs.Common.{Option, refl, sym, subst}
use Rattle.std.specs.Prelude.{IsSome}
use Rattle.toml.specs.Data.{Data}
use Rattle.toml.specs.View.{view, table_view}
use Rattle.srm_scenario.specs.Keys.{name_of}
use Rattle.srm_scenario.proofs.Tables.{looked_up}
use Rattle.srm_explain.proofs.Found.{broken_at}
use Rattle.srm_explain.proofs.keys.wrong_at.Goals as goal

pub returns-in-Refused : goal.returns-in-Refused
returns-in-Refused c =
    let found = looked_up c.get.result c.name.result.now (name_of c.args.rule.key) c.args.table.now.entries c.name.ensures
    c.get.ensures.value in
    (refl, c.in-Refused.is, subst (λ (o : Option Data). IsSome o) (rw c.in-Some.is at found) refl)

pub returns-else-is_kind : goal.returns-else-is_kind
returns-else-is_kind c =
    let found = looked_up c.get.result c.name.result.now (name_of c.args.rule.key) c.args.table.now.entries c.name.ensures
    c.get.ensures.value in
    broken_at c.args.rule (table_view c.args.table.now) (view c.in-Some.value.now) c.broken_value.result
    (sym (rw c.in-Some.is at found)) c.broken_value.ensures
