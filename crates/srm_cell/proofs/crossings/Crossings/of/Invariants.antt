use Rattle.std.proofs.Common.{◌≡◌, take}
use Rattle.srm_cell.specs.Setting.{traffic_of}
use Rattle.srm_cell.specs.Hearing.{packets_in}
use Rattle.srm_cell.specs.Totalled.{numbers_of}
use Rattle.srm_cell.proofs.crossings.Crossings.of.Given as goal

abbrev pub invariant-loop-sent : goal.invariant-loop-sent
invariant-loop-sent l =
    l.crossings ≡ numbers_of (traffic_of l.session.scenario.now l.session.net.now) (packets_in (take l.sent-index l.all))
