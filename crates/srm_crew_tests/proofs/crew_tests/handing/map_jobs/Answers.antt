use Rattle.std.proofs.Common.{◌∙◌}
use Rattle.srm_crew_tests.proofs.crew_tests.handing.map_jobs.Goals as goal

pub map_boxes-requires-clause-may : goal.map_boxes-requires-clause-may
map_boxes-requires-clause-may g c = record {
  jobs = c.requires.jobs.jobs;
  many = c.requires.jobs.few;
  links = c.requires.links;
  of_ledger = c.requires.seat;
}

pub map_boxes-requires-clause-places : goal.map_boxes-requires-clause-places
map_boxes-requires-clause-places g c = c.requires.jobs.places

pub returns-in-Ok-clause-seat : goal.returns-in-Ok-clause-seat
returns-in-Ok-clause-seat g c = c.in-Ok.ensures.done.1.ledger ∙ c.requires.seat
