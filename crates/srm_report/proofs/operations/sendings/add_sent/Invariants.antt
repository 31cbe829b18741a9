use Rattle.std.proofs.Common.{T, take}
use Rattle.std.specs.FinMap.Entries.{is_sorted}
use Rattle.srm_net.specs.Names.{name_cmp}
use Rattle.srm_report.proofs.KeptSendings.{HasAdded}
use Rattle.srm_report.proofs.operations.sendings.add_sent.Given as goal

-- what was sent for the names so far was added
abbrev pub invariant-loop-name : goal.invariant-loop-name
invariant-loop-name l =
    T (is_sorted name_cmp l.fn.sent) → T (is_sorted name_cmp l.more) → HasAdded l.fn.sent (take l.name-index l.more) l.sent
