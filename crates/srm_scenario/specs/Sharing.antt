-- What a scenario is made of.
use Rattle.std.specs.Arc.{arc_value}
use Rattle.srm_scenario.specs.declared.scenario.Scenario.TheInside.{Inside}
use Rattle.srm_scenario.specs.Plain.{PlainScenario}

-- the plain record, whose lists are shared
abbrev pub scenario_inside : Inside → PlainScenario
scenario_inside s = record {
  until = s.until;
  constants = s.constants;
  room = s.room;
  recovery = s.recovery;
  nodes = s.nodes;
  links = (arc_value s.lists).links.items;
  members = (arc_value s.lists).members.items;
  draws = (arc_value s.lists).draws.items;
  sessions = (arc_value s.lists).sessions.items;
  drops = s.drops;
}
