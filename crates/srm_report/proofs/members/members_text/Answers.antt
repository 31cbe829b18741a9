use Rattle.std.proofs.Common.{◌∙◌}
use Rattle.srm_report.specs.MemberCounts.{IsCountOf}
use Rattle.srm_report.proofs.TakingLemmas.{as_seen}
use Rattle.srm_report.proofs.members.members_text.Goals as goal

pub returns : goal.returns
returns c =
    let t = as_seen (λ k own. IsCountOf own k) c.args.rows.now _ _ _ _ c.as_slice.ensures.value c.in_ok-kept.ensures.many
    (c.from.ensures ∙ c.members.ensures) c.in_ok-kept.ensures.kept in
    c.members_kept.ensures c.args.rows.now t.0 t.1
