use Rattle.std.proofs.Common.{◌≡◌, take}
use Rattle.srm_report.specs.declared.losses.member_losses.MemberLosses.{MemberLosses}
use Rattle.srm_report.proofs.KeptLossLemmas.{entries_of}
use Rattle.srm_report.proofs.losses.losses_kept.Given as goal

-- the losses of the members so far were taken
abbrev pub invariant-loop-own : goal.invariant-loop-own
invariant-loop-own l = l.entries.items ≡ entries_of (λ (k : MemberLosses). k.losses) (take l.own-index l.kept)
