use Rattle.std.proofs.Common.{◌≡◌, ◌∙◌, ◌+◌, ap, arith}
use Rattle.srm_member.specs.ByMember.{rows_of_member}
use Rattle.srm_report.specs.Members.{counts_of}
use Rattle.srm_report.proofs.CountLemmas.{kept_counted}
use Rattle.srm_report.proofs.members.members_kept.Goals as goal

pub returns : goal.returns
returns c rows all kept = c.table_text.ensures rows (λ m lt.
    let same : 0 + m ≡ m = omega arith in
    kept_counted rows 0 c.args.kept.now kept m (omega arith) ∙ ap (λ n. counts_of (rows_of_member n rows)) same)
