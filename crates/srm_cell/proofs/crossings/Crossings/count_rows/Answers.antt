use Rattle.std.proofs.Common.{◌++◌, ◌^◌, ◌∙◌, ap, take}
use Rattle.srm_cell.specs.Setting.{traffic_of}
use Rattle.srm_cell.specs.Crossings.{packets_of}
use Rattle.srm_cell.specs.Totalled.{numbers_of}
use Rattle.srm_cell.proofs.Pushes.{if_err}
use Rattle.srm_cell.proofs.RowPackets.{some_packets, none_more, one_more, few_packets}
use Rattle.srm_cell.proofs.crossings.Crossings.count_rows.Goals.{in-Some+in_ok-count_packet, in_default}
use Rattle.srm_cell.proofs.crossings.Crossings.count_rows.Goals as goal

pub count_packet-requires-clause-room : goal.count_packet-requires-clause-room
count_packet-requires-clause-room c =
    let k = c.requires.room in
    let i = c.loop-row.row-index in (
      k.0 ++ packets_of (take i c.args.rows.now),
      few_packets k.0 c.args.rows.now i c.row-item.result c.in-Some.packet (2 ^ 64) c.loop-row-test.true c.row-item.is c.in-Some.is k.1,
      c.loop-row.invariant k.0 k.2,
    )

pub returns-in_err-count_packet-clause-asked : goal.returns-in_err-count_packet-clause-asked
returns-in_err-count_packet-clause-asked c =
    if_err c.from_residual.result _ (some_packets c.args.rows.now c.loop-row.row-index c.row-item.result c.in-Some.packet
    c.loop-row-test.true c.row-item.is c.in-Some.is)

pub loop-row-preserved : goal.loop-row-preserved
loop-row-preserved c = λ ps h.
    let s = traffic_of c.args.scenario.now c.args.net.now in
    let i = c.loop-row.row-index in
    let is = c.loop-row.invariant ps h in
    elim c.match-row.branch [
      | in-Some+in_ok-count_packet w ↦ w.self-is ∙ w.in_ok-count_packet.ensures (ps ++ packets_of (take i c.args.rows.now)) is
          ∙ ap (numbers_of s) (one_more ps c.args.rows.now i c.row-item.result w.in-Some.packet c.loop-row-test.true c.row-item.is
          w.in-Some.is)
      | in_default w ↦ w.self-is ∙ is ∙ ap (numbers_of s)
          (none_more ps c.args.rows.now i c.row-item.result c.loop-row-test.true c.row-item.is w.in_default.is)
    ]
