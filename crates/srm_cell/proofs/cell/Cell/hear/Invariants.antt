use Rattle.std.proofs.Common.{take}
use Rattle.srm_cell.specs.Setting.{traffic_of}
use Rattle.srm_cell.specs.Hearing.{packets_in, HearsAll}
use Rattle.srm_cell.proofs.cell.Cell.hear.Given as goal

-- the packets so far were heard
abbrev pub invariant-loop-one : goal.invariant-loop-one
invariant-loop-one g l =
    HearsAll g.M.Participant.plain (traffic_of l.session.scenario.now l.session.net.now) (packets_in (take l.one-index l.sent))
    l.fn.self l.self
