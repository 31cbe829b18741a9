use Rattle.srm_report.specs.Losses.{losses_table}
use Rattle.srm_program.proofs.KeptTables.{hosts_of}
use Rattle.srm_program.proofs.OrderlyRows.{orderly_rows}
use Rattle.srm_program.proofs.kept_tables.FindLossesEndTableMemberLosses.text.Goals as goal

pub losses_kept-requires : goal.losses_kept-requires
losses_kept-requires c =
    let p = c.args.session.scenario.now in
    let of = c.requires.3 in
    rw (hosts_of p c.args.session.net.now c.args.session.network) (
      c.requires.1,
      orderly_rows p c.requires.0 c.requires.1 c.requires.2 _ c.until.ensures.accepted of.outcome,
      of.many,
      of.are,
    )

pub returns : goal.returns
unfolding losses_table
returns c seed rows exits of =
    let p = c.args.session.scenario.now in
    let told = rw (hosts_of p c.args.session.net.now c.args.session.network) at c.losses_kept.ensures in
    let table = told rows (orderly_rows p seed rows exits _ c.until.ensures.accepted of.outcome) of.many of.are in
    rw c.args.session.network at table
