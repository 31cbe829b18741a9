use Rattle.std.proofs.Common.{◌≡◌, ◌+◌, arith}
use Rattle.srm_report.specs.KeptScopes.{count_in}
use Rattle.srm_report.proofs.ScopeLemmas.{id_put}
use Rattle.srm_report.proofs.scopes.heard_counts.HeardCounts.count.Goals as goal

pub returns : goal.returns
returns c =
    let counted : c.in-Some.count ≡ count_in c.args.self.now c.args.packet + 1 = grind arith in
    rw (← counted, ← c.self.view_is, id_put) c.in_ok-insert.ensures.entries
