use Rattle.std.proofs.Common.{take}
use Rattle.srm_report.specs.KeptScopes.{HearMore}
use Rattle.srm_report.proofs.scopes.heard_counts.HeardCounts.add.Given as goal

-- the packets so far were counted
abbrev pub invariant-loop-packet : goal.invariant-loop-packet
invariant-loop-packet l = HearMore l.fn.self (take l.packet-index l.packets) l.self
