use Rattle.std.proofs.Common.{◌≡◌, ◌++◌, All, take}
use Rattle.srm_cell.specs.Crossings.{packets_of}
use Rattle.srm_cell.specs.Hearing.{IsSent, packets_in}
use Rattle.srm_interfaces.proofs.watched.add_sent.Given as goal

-- the packets of the rows so far were added
abbrev pub invariant-loop-row : goal.invariant-loop-row
invariant-loop-row l =
    (packets_in l.all.items ≡ packets_in l.fn.all.items ++ packets_of (take l.row-index l.rows))
    × All (λ x. IsSent l.session.scenario.now l.session.net.now x) l.all.items
