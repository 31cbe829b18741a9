use Rattle.std.proofs.Common.{◌≡◌, length, take, drop}
use Rattle.srm_cell.specs.Setting.{traffic_of}
use Rattle.srm_cell.specs.Hearing.{packets_in, EachHearsAll}
use Rattle.srm_cell.proofs.hearing.hear_each.Given as goal

-- the cells so far have heard, and the others are as they were
abbrev pub invariant-loop-cell : goal.invariant-loop-cell
invariant-loop-cell g l =
    (length l.cells ≡ length l.fn.cells) × (drop l.cell-index l.cells ≡ drop l.cell-index l.fn.cells)
    × EachHearsAll g.M.Participant.plain (traffic_of l.session.scenario.now l.session.net.now) (packets_in l.sent)
    (take l.cell-index l.fn.cells) (take l.cell-index l.cells)
