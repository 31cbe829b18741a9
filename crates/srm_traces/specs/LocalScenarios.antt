-- Worked scenarios of local recovery.
use Rattle.std.specs.Prelude.{ℕ, List, [], ◌∷◌}
use Rattle.srm_net.specs.declared.role.Role.TheVariants.{Sender, Receiver}
use Rattle.srm_scenario.specs.declared.parts.DrawSpec.{DrawSpec}
use Rattle.srm_scenario.specs.declared.parts.MemberSpec.{MemberSpec}
use Rattle.srm_scenario.specs.declared.parts.LocalRecovery.{LocalRecovery}
use Rattle.srm_scenario.specs.Plain.{PlainScenario}
use Rattle.srm_traces.specs.Scenarios.{member, draw, drop, link, chain_links, star_links, timed, thousandths}
use Rattle.srm_traces.specs.Scenarios.{fixed_room, lists_alone}

-- these members, whose requests begin with this scope
abbrev pub with_scope : ℕ → List MemberSpec → List MemberSpec
with_scope scope [] = []
with_scope scope (m ∷ ms) = record m { scope = scope } ∷ with_scope scope ms

-- repairs in two steps, for requests that have no scope any more once they backed off
abbrev pub in_two_steps : LocalRecovery
in_two_steps = record { widen = 0; tries = 1; steps = 2 }

-- two operations of member 0 with one ink, the second so many ticks after the first
abbrev pub drawn_twice : ℕ → List DrawSpec
drawn_twice every = draw 0 0 7 0 ∷ draw 0 0 7 every ∷ []

-- requests whose scope grows by a hop with each backoff, until the source hears one. Between it and the other members
-- are two nodes without member. The source's repair reaches the requester alone, which sends it on
abbrev pub scope_that_grows : PlainScenario
scope_that_grows = record {
  until = 1000;
  constants = timed 1000 0;
  room = fixed_room (timed 1000 0);
  recovery = record in_two_steps { widen = 1; tries = 3 };
  nodes = 5;
  links = chain_links 1 0 4;
  members = with_scope 1 (member 0 Sender 1 ∷ member 3 Receiver 2 ∷ member 4 Receiver 3 ∷ []);
  draws = drawn_twice 10;
  sessions = [];
  drops = lists_alone (drop 0 0 0 ∷ []);
}

-- two members answer a request, since the one hears of the other's repair too late. The requester sends the first of
-- both on, and not the second
abbrev pub two_first_steps : PlainScenario
two_first_steps = record {
  until = 1000;
  constants = thousandths 2000 0 500 0;
  room = fixed_room (thousandths 2000 0 500 0);
  recovery = in_two_steps;
  nodes = 5;
  links = link 0 1 5 ∷ link 0 2 12 ∷ link 0 3 5 ∷ link 0 4 15 ∷ [];
  members = with_scope 2 (member 1 Sender 1 ∷ member 2 Receiver 2 ∷ member 3 Receiver 3 ∷ member 4 Receiver 4 ∷ []);
  draws = drawn_twice 100;
  sessions = [];
  drops = lists_alone (drop 2 0 0 ∷ drop 3 0 0 ∷ []);
}

-- a loss on a chain of five, where requests go one hop. The last member hears neither the request nor its repair, and
-- asks by itself. Its neighbour answers: it rests after a repair that does not serve this request
abbrev pub chain_of_five_in_two_steps : PlainScenario
chain_of_five_in_two_steps = record {
  until = 1000;
  constants = timed 1000 0;
  room = fixed_room (timed 1000 0);
  recovery = in_two_steps;
  nodes = 5;
  links = chain_links 1 0 4;
  members = with_scope 1 (member 0 Sender 1 ∷ member 1 Receiver 2 ∷ member 2 Receiver 3 ∷ member 3 Receiver 4
      ∷ member 4 Receiver 5 ∷ []);
  draws = drawn_twice 10;
  sessions = [];
  drops = lists_alone (drop 1 0 0 ∷ []);
}

-- a loss at one member of a star, where all are two hops from each other: three first steps at one tick, and one second
-- step, which the other first steps do not end
abbrev pub star_loss_in_two_steps : PlainScenario
star_loss_in_two_steps = record {
  until = 1000;
  constants = timed 2000 0;
  room = fixed_room (timed 2000 0);
  recovery = in_two_steps;
  nodes = 5;
  links = star_links 5 0 4;
  members = with_scope 2 (member 1 Sender 1 ∷ member 2 Receiver 2 ∷ member 3 Receiver 3 ∷ member 4 Receiver 4 ∷ []);
  draws = drawn_twice 100;
  sessions = [];
  drops = lists_alone (drop 3 0 0 ∷ []);
}
