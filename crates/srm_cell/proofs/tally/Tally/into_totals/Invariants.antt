use Rattle.std.proofs.Common.{◌≡◌, List}
use Rattle.srm_net.specs.declared.packet.Packet.{Packet}
use Rattle.srm_scenario.specs.Plain.{PlainScenario}
use Rattle.srm_cell.specs.Setting.{traffic_of}
use Rattle.srm_cell.specs.Totalled.{numbers_of}
use Rattle.srm_cell.proofs.Tallying.{put_below}
use Rattle.srm_cell.proofs.tally.Tally.into_totals.Given as goal

abbrev pub invariant-loop-link : goal.invariant-loop-link
invariant-loop-link l =
    (s : PlainScenario) (some : List Packet) → l.fn.self.stopped ≡ numbers_of (traffic_of s l.net) some
    → l.stopped ≡ put_below (traffic_of s l.net) l.net l.fn.self.everywhere some l.link 0 (traffic_of s l.net).links
