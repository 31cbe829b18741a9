use Rattle.std.proofs.Common.{◌≡◌, [], take}
use Rattle.srm_report.specs.KeptScopes.{HearMore}
use Rattle.srm_report.proofs.ScopeLemmas.{heard_of, sent_of}
use Rattle.srm_report.proofs.scopes.scopes_kept.Given as goal

-- what was kept of the members so far was put together
abbrev pub invariant-loop-own : goal.invariant-loop-own
invariant-loop-own l = record {
  sent : l.entries.items ≡ sent_of (take l.own-index l.kept);
  heard : HearMore [] (heard_of (take l.own-index l.kept)) l.heard;
}
