use Rattle.std.proofs.Common.{◌∙◌}
use Rattle.srm_report.specs.KeptOperations.{KeepsOperations}
use Rattle.srm_report.proofs.TakingLemmas.{as_seen}
use Rattle.srm_report.proofs.operations.operations_text.Goals as goal

pub operations_kept-requires : goal.operations_kept-requires
operations_kept-requires c =
    let t = as_seen (λ k own. KeepsOperations own k) c.args.rows.now _ _ _ _ c.as_slice.ensures.value c.in_ok-kept.ensures.many
    (c.from.ensures ∙ c.members.ensures.members) c.in_ok-kept.ensures.kept in
    (c.args.rows.now, c.requires, t.0, t.1)

pub returns : goal.returns
returns c =
    let t = as_seen (λ k own. KeepsOperations own k) c.args.rows.now _ _ _ _ c.as_slice.ensures.value c.in_ok-kept.ensures.many
    (c.from.ensures ∙ c.members.ensures.members) c.in_ok-kept.ensures.kept in
    c.operations_kept.ensures c.args.rows.now c.requires t.0 t.1
