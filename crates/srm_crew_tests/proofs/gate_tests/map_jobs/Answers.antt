use Rattle.std.proofs.Common.{◌∙◌}
use Rattle.srm_crew_tests.proofs.gate_tests.map_jobs.Goals as goal

pub map_with_gate-requires : goal.map_with_gate-requires
map_with_gate-requires g c = (
  c.type_bounds.sync-R,
  (
    c.type_bounds.sync-G,
    record { jobs = c.requires.jobs.jobs; many = c.requires.jobs.few; links = c.requires.links; of_ledger = c.requires.seat },
  ),
)

pub returns-in-Ok : goal.returns-in-Ok
returns-in-Ok g c = c.in-Ok.ensures.1.ledger ∙ c.requires.seat
