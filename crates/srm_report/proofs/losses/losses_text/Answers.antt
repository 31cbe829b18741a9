use Rattle.std.proofs.Common.{◌∙◌}
use Rattle.srm_report.specs.KeptLosses.{KeepsLosses}
use Rattle.srm_report.proofs.TakingLemmas.{as_seen}
use Rattle.srm_report.proofs.losses.losses_text.Goals as goal

pub losses_kept-requires : goal.losses_kept-requires
losses_kept-requires c =
    let t = as_seen (λ k own. KeepsLosses own k) c.args.rows.now _ _ _ _ c.as_slice.ensures.value c.in_ok-kept.ensures.many
    (c.from.ensures ∙ c.members.ensures.members) c.in_ok-kept.ensures.kept in
    (c.args.rows.now, c.requires, t.0, t.1)

pub returns : goal.returns
returns c =
    let t = as_seen (λ k own. KeepsLosses own k) c.args.rows.now _ _ _ _ c.as_slice.ensures.value c.in_ok-kept.ensures.many
    (c.from.ensures ∙ c.members.ensures.members) c.in_ok-kept.ensures.kept in
    c.losses_kept.ensures c.args.rows.now c.requires t.0 t.1
