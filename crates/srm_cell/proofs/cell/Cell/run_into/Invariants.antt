use Rattle.std.proofs.Common.{◌-◌, ◌^◌, vec_len}
use Rattle.srm_cell.specs.Views.{IsSoundCell, GoesOn, plain_cell}
use Rattle.srm_cell.proofs.Leading.{Leads}
use Rattle.srm_cell.proofs.cell.Cell.run_into.Given as goal

abbrev pub invariant-loop-fault : goal.invariant-loop-fault
invariant-loop-fault g l =
    IsSoundCell g.M.Participant.plain l.fn.self
    → Leads l.till l.fn.self.number (plain_cell g.M.Participant.plain l.fn.self) l.rows.items (plain_cell g.M.Participant.plain l.self)
    × GoesOn g.M.Participant.plain l.fn.self l.self

abbrev pub decreases-loop-fault : goal.decreases-loop-fault
decreases-loop-fault g l = 2 ^ 63 - vec_len l.rows
