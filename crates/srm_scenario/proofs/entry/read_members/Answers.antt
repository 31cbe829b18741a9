use Rattle.std.proofs.Common.{◌∙◌, List, ap, codes, map}
use Rattle.toml.specs.View.{table_view}
use Rattle.srm_scenario.specs.declared.entry.MemberEntry.{MemberEntry}
use Rattle.srm_scenario.specs.Described.{array_at}
use Rattle.srm_scenario.specs.Faults.{or_scope}
use Rattle.srm_scenario.proofs.Repetition.{members_scoped}
use Rattle.srm_scenario.proofs.entry.read_members.Goals as goal

pub returns-clause-read : goal.returns-clause-read
returns-clause-read c =
    c.in_ok-members.ensures ∙ ap (λ (es : List MemberEntry). map (or_scope c.args.scope) es) c.in_ok-own.ensures.read
    ∙ members_scoped c.args.scope (array_at (codes "member") (table_view c.args.table.now))
