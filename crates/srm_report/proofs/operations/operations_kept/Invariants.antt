use Rattle.std.proofs.Common.{◌≡◌, map, take}
use Rattle.srm_report.specs.declared.operations.member_operations.MemberOperations.{MemberOperations}
use Rattle.srm_report.proofs.KeptLossLemmas.{entries_of}
use Rattle.srm_report.proofs.KeptOperationLemmas.{SentOf}
use Rattle.srm_report.proofs.operations.operations_kept.Given as goal

-- what was kept of the members so far was put together
abbrev pub invariant-loop-own : goal.invariant-loop-own
invariant-loop-own l = record {
  lost : l.losses.items ≡ entries_of (λ (k : MemberOperations). k.losses) (take l.own-index l.kept);
  asked : SentOf l.kept l.own-index l.sent;
  gone : l.left.items ≡ map (λ (k : MemberOperations). k.left) (take l.own-index l.kept);
}
