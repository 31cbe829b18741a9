use Rattle.srm_model.specs.Hearing.{heard_below}
use Rattle.srm_engine.specs.Seen.{AreWhole, ShowCells, shown_in}
use Rattle.srm_engine.specs.Engines.{traffic_in}
use Rattle.srm_engine.proofs.simulation.Simulation.deliver.Given as goal

abbrev pub invariant-loop-member : goal.invariant-loop-member
invariant-loop-member g l =
    AreWhole g.M.Participant.plain l.fn.self.cells → ShowCells g.M.Participant.plain l.cells
    (heard_below (traffic_in l.fn.self) l.packet l.member 0 (shown_in g.M.Participant.plain l.fn.self.cells))
