use Rattle.std.proofs.Common.{◌∙◌, [], ap, length, map, arith}
use Rattle.srm_ledger.specs.Seats.{whole_seat}
use Rattle.srm_engine.specs.Starts.{setting_on}
use Rattle.srm_engine.specs.Openings.{seed_in}
use Rattle.srm_model.specs.World.{opening}
use Rattle.srm_model.specs.WindowChains.{no_window}
use Rattle.srm_engine.specs.Seen.{plain_cells}
use Rattle.srm_engine.proofs.CellLists.{as_many}
use Rattle.srm_engine.proofs.Opened.{opening_is}
use Rattle.srm_engine.proofs.WindowLemmas.{opened_counted}
use Rattle.srm_engine.proofs.window_engine.WindowEngine.open.Goals as goal
use Rattle.srm_model.proofs.OneStep.{length_opening}

pub of-requires-clause-members : goal.of-requires-clause-members
of-requires-clause-members g c =
    let at = c.args.start.session in
    let seed = seed_in (map g.M.Participant.plain c.args.start.members.items) in
    let opened = c.in_ok-cells.ensures.opened _ c.args.start.opening in
    let all = as_many g.M.Participant.plain _ _ opened.1 ∙ length_opening (setting_on at seed) (length at.scenario.now.members) 0 in
    omega (arith, all)

pub returns-clause-opened : goal.returns-clause-opened
returns-clause-opened g c = λ seed h.
    let at = c.args.start.session in
    let s = setting_on at seed in
    let opened = c.in_ok-cells.ensures.opened seed h in record {
      windows = no_window;
      kept = c.in_ok-groups.ensures.kept seed opened.0;
      shown = ap (plain_cells g.M.Participant.plain) c.in_ok-groups.ensures.same ∙ opened.1 ∙ opening_is s;
      counted = opened_counted s c.in-Ok.ledger (length at.net.now.links) c.in-Ok.seat
          (c.in-Ok.ensures.1 ∙ ap (λ n. whole_seat c.in-Ok.ledger.name n) (ap length c.links.ensures.links));
    }

pub returns-clause-stands : goal.returns-clause-stands
returns-clause-stands g c =
    let seed = seed_in (map g.M.Participant.plain c.args.start.members.items) in record {
      accepted = c.until-until.ensures.accepted;
      links = c.in-Ok.ensures.0 ∙ ap length c.links.ensures.links;
      ends = c.requires.cutting.1;
      seed = seed;
      begins = [];
      world = opening (setting_on c.args.start.session seed);
      comes = returns-clause-opened g c seed c.args.start.opening;
    }
