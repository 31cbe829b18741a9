use Rattle.std.proofs.Common.{◌≡◌, List}
use Rattle.srm_net.specs.declared.packet.Packet.{Packet}
use Rattle.srm_scenario.specs.Plain.{PlainScenario}
use Rattle.srm_cell.specs.Setting.{traffic_of, IsSpreadOf}
use Rattle.srm_cell.specs.Totalled.{numbers_of}
use Rattle.srm_cell.proofs.Counting.{mixed}
use Rattle.srm_cell.proofs.count.count.Given as goal

abbrev pub invariant-loop-link : goal.invariant-loop-link
invariant-loop-link l =
    (k : PlainScenario) → IsSpreadOf l.net k.drops l.packet l.spread
    → (ps : List Packet) → l.fn.totals ≡ numbers_of (traffic_of k l.net) ps
    → l.totals ≡ mixed (traffic_of k l.net) ps l.packet l.link 0 (traffic_of k l.net).links
