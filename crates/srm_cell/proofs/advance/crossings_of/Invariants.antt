use Rattle.std.proofs.Common.{◌≡◌, take}
use Rattle.srm_cell.specs.Setting.{traffic_of}
use Rattle.srm_cell.specs.Crossings.{packets_of, joined}
use Rattle.srm_cell.specs.Totalled.{numbers_of}
use Rattle.srm_cell.proofs.advance.crossings_of.Given as goal

abbrev pub invariant-loop-rows : goal.invariant-loop-rows
invariant-loop-rows l =
    l.crossings ≡ numbers_of (traffic_of l.scenario l.net) (packets_of (joined (take l.rows-index l.lists)))
