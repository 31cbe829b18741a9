use Rattle.std.proofs.Common.{List, ap, ◌∙◌, sym, subst, length}
use Rattle.srm_net.specs.declared.packet.Packet.{Packet}
use Rattle.srm_cell.specs.Cells.{PlainCell}
use Rattle.srm_scenario.specs.declared.session.Session.{Session}
use Rattle.srm_cell.specs.Crossings.{packets_of}
use Rattle.srm_cell.specs.Tallies.{Tallies}
use Rattle.srm_cell.specs.Setting.{setting_of}
use Rattle.srm_model.specs.World.{opening}
use Rattle.srm_engine.specs.Seen.{AreSeen, ShowCells, plain_cells}
use Rattle.srm_engine.proofs.Opened.{nothing_sent, opening_is}
use Rattle.srm_engine.proofs.simulation.Simulation.open.Goals as goal

pub returns-clause-opened : goal.returns-clause-opened
returns-clause-opened g c = λ seed h.
    let s = setting_of c.args.session.scenario.now seed in
    record {
      seen = subst (λ (qs : List PlainCell). ShowCells g.M.Participant.plain c.in_ok-cells.cells qs)
          (opening_is s) (
          let opened = c.in_ok-open_cells.ensures.opened seed h in
          let index = c.in_ok-cells.ensures opened.0 in (
            subst (λ cs. AreSeen g.M.Participant.plain cs c.in_ok-cells.cells.times) (sym index.1) index.0,
            ap (plain_cells g.M.Participant.plain) index.1 ∙ opened.1,
          )
          );
      counted = subst (λ (at : Session). Tallies at.scenario.now at.net.now (packets_of (opening s).trace) c.in_ok-tally.tally)
          (sym c.new-session.ensures)
          (subst (λ (ps : List Packet). Tallies c.args.session.scenario.now c.args.session.net.now ps c.in_ok-tally.tally)
          (nothing_sent s)
          (c.in_ok-tally.ensures c.args.session.scenario.now c.args.session.net.now (sym (ap length c.links.ensures.links))));
    }
