use Rattle.std.proofs.Common.{take}
use Rattle.srm_cell.specs.Setting.{traffic_of}
use Rattle.srm_cell.specs.Crossings.{packets_of}
use Rattle.srm_cell.specs.Totalled.{CountsBesides}
use Rattle.srm_cell.proofs.crossings.Crossings.count_rows.Given as goal

abbrev pub invariant-loop-row : goal.invariant-loop-row
invariant-loop-row l =
    CountsBesides (traffic_of l.scenario l.net) (packets_of (take l.row-index l.rows)) l.fn.self l.self
