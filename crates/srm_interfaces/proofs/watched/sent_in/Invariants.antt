use Rattle.std.proofs.Common.{◌≡◌, All, take}
use Rattle.srm_cell.specs.Crossings.{joined, packets_of}
use Rattle.srm_cell.specs.Hearing.{IsSent, packets_in}
use Rattle.srm_interfaces.proofs.watched.sent_in.Given as goal

-- these are the packets of the lists so far
abbrev pub invariant-loop-rows : goal.invariant-loop-rows
invariant-loop-rows l =
    (packets_in l.all.items ≡ packets_of (joined (take l.rows-index l.lists)))
    × All (λ x. IsSent l.session.scenario.now l.session.net.now x) l.all.items
