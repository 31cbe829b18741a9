-- Worked scenarios.
use Rattle.std.specs.Prelude.{ℕ, zero, suc, ◌+◌, List, [], ◌∷◌, Some, None}
use Rattle.srm_net.specs.declared.role.Role.{Role}
use Rattle.srm_net.specs.declared.role.Role.TheVariants.{Sender, Receiver, Late, Listener}
use Rattle.srm_net.specs.declared.link.LinkSpec.{LinkSpec}
use Rattle.srm_net.specs.declared.link.DropSpec.{DropSpec}
use Rattle.srm_net.specs.declared.link.OutageSpec.{OutageSpec}
use Rattle.srm_net.specs.DropRules.{DropRules}
use Rattle.srm_scenario.specs.declared.parts.Constants.{Constants}
use Rattle.srm_scenario.specs.declared.parts.Room.{Room}
use Rattle.srm_scenario.specs.declared.parts.LocalRecovery.{LocalRecovery}
use Rattle.srm_scenario.specs.declared.parts.MemberSpec.{MemberSpec}
use Rattle.srm_scenario.specs.declared.parts.DrawSpec.{DrawSpec}
use Rattle.srm_scenario.specs.declared.parts.SessionSpec.{SessionSpec}
use Rattle.srm_scenario.specs.Plain.{PlainScenario}

-- a link between two nodes, with its delay in both directions
abbrev pub link : ℕ → ℕ → ℕ → LinkSpec
link a b delay = record { a = a; b = b; delay = delay; back = delay }

-- the links of a chain, from node i on
abbrev pub chain_links : ℕ → ℕ → ℕ → List LinkSpec
chain_links delay i zero = []
chain_links delay i (suc n) = link i (suc i) delay ∷ chain_links delay (suc i) n

-- the links of a star, whose hub is node 0, from node i + 1 on
abbrev pub star_links : ℕ → ℕ → ℕ → List LinkSpec
star_links delay i zero = []
star_links delay i (suc n) = link 0 (suc i) delay ∷ star_links delay (suc i) n

-- a member on this node, from the beginning to the end
abbrev pub member : ℕ → Role → ℕ → MemberSpec
member node role stream = record {
  node = node;
  role = role;
  stream = stream;
  join = 0;
  leave = None;
  pages = [];
  scope = 0;
}

-- a drawing operation
abbrev pub draw : ℕ → ℕ → ℕ → ℕ → DrawSpec
draw m page ink at = record { member = m; page = page; ink = ink; at = at }

-- a session message
abbrev pub session : ℕ → ℕ → SessionSpec
session m at = record { member = m; at = at }

-- a link is to drop a packet, by its sender and count
abbrev pub drop : ℕ → ℕ → ℕ → DropSpec
drop l sender count = record { link = l; id = record { sender = sender; count = count } }

-- constants of timers, in thousandths
abbrev pub thousandths : ℕ → ℕ → ℕ → ℕ → Constants
thousandths c1 c2 d1 d2 = record { c1 = c1; c2 = c2; d1 = d1; d2 = d2 }

-- constants of request timers, beside repair timers that last as long as the way from the requester
abbrev pub timed : ℕ → ℕ → Constants
timed c1 c2 = thousandths c1 c2 1000 0

-- constants without room, and backoffs that make timers twice as long
abbrev pub fixed_room : Constants → Room
fixed_room first = record { least = first; most = first; backoff = 2 }

-- what a scenario that says nothing of scopes has for local recovery
abbrev pub without_scopes : LocalRecovery
without_scopes = record { widen = 0; tries = 1; steps = 2 }

-- these drops, and no outage or loss
abbrev pub lists_alone : List DropSpec → DropRules
lists_alone drops = record { listed = drops; outages = []; losses = []; seed = 0 }

-- these outages, and no listed drop or loss
abbrev pub out_alone : List OutageSpec → DropRules
out_alone outages = record { listed = []; outages = outages; losses = []; seed = 0 }

-- one loss on a chain of five: its request, and the repair by the nearest that holds it
abbrev pub chain_of_five_one_loss : PlainScenario
chain_of_five_one_loss = record {
  until = 100;
  constants = timed 1000 0;
  room = fixed_room (timed 1000 0);
  recovery = without_scopes;
  nodes = 5;
  links = chain_links 1 0 4;
  members = member 0 Sender 1 ∷ member 1 Receiver 2 ∷ member 2 Receiver 3 ∷ member 3 Receiver 4
      ∷ member 4 Receiver 5 ∷ [];
  draws = draw 0 0 7 0 ∷ draw 0 0 8 10 ∷ [];
  sessions = [];
  drops = lists_alone (drop 1 0 0 ∷ []);
}

-- a loss on the link of the source: the second request comes at an ignore time, and during a rest
abbrev pub loss_on_the_source_link : PlainScenario
loss_on_the_source_link = record {
  until = 1000;
  constants = timed 1000 0;
  room = fixed_room (timed 1000 0);
  recovery = without_scopes;
  nodes = 3;
  links = chain_links 1 0 2;
  members = member 0 Sender 1 ∷ member 1 Receiver 2 ∷ member 2 Receiver 3 ∷ [];
  draws = draw 0 0 7 0 ∷ draw 0 0 8 10 ∷ [];
  sessions = [];
  drops = lists_alone (drop 0 0 0 ∷ []);
}

-- a repair that arrives at the tick of the request timer ends it
abbrev pub repair_before_the_timer_of_its_tick : PlainScenario
repair_before_the_timer_of_its_tick = record {
  until = 1000;
  constants = timed 1500 0;
  room = fixed_room (timed 1500 0);
  recovery = without_scopes;
  nodes = 2;
  links = chain_links 1 0 1;
  members = member 0 Sender 1 ∷ member 1 Receiver 2 ∷ [];
  draws = draw 0 0 7 0 ∷ draw 0 0 8 10 ∷ [];
  sessions = [];
  drops = lists_alone (drop 0 0 0 ∷ []);
}

-- the same, and the run ends before the repair is sent
abbrev pub stopped_before_the_repair : PlainScenario
stopped_before_the_repair = record repair_before_the_timer_of_its_tick { until = 14 }

-- timers of random length
abbrev pub drawn_timers : PlainScenario
drawn_timers = record {
  until = 1000;
  constants = timed 2000 2000;
  room = fixed_room (timed 2000 2000);
  recovery = without_scopes;
  nodes = 2;
  links = chain_links 10 0 1;
  members = member 0 Sender 1 ∷ member 1 Receiver 54 ∷ [];
  draws = draw 0 0 7 0 ∷ draw 0 0 8 100 ∷ [];
  sessions = [];
  drops = lists_alone (drop 0 0 0 ∷ []);
}

-- a loss at the source of a star: three requests at one tick, one repair
abbrev pub star_loss_at_the_source : PlainScenario
star_loss_at_the_source = record {
  until = 1000;
  constants = timed 1000 0;
  room = fixed_room (timed 1000 0);
  recovery = without_scopes;
  nodes = 5;
  links = star_links 5 0 4;
  members = member 1 Sender 1 ∷ member 2 Receiver 2 ∷ member 3 Receiver 3 ∷ member 4 Receiver 4 ∷ [];
  draws = draw 0 0 7 0 ∷ draw 0 0 8 100 ∷ [];
  sessions = [];
  drops = lists_alone (drop 0 0 0 ∷ []);
}

-- a loss at one member of a star: one request, three repairs
abbrev pub star_loss_at_one_member : PlainScenario
star_loss_at_one_member = record {
  until = 1000;
  constants = timed 1000 0;
  room = fixed_room (timed 1000 0);
  recovery = without_scopes;
  nodes = 5;
  links = star_links 5 0 4;
  members = member 1 Sender 1 ∷ member 2 Receiver 2 ∷ member 3 Receiver 3 ∷ member 4 Receiver 4 ∷ [];
  draws = draw 0 0 7 0 ∷ draw 0 0 8 100 ∷ [];
  sessions = [];
  drops = lists_alone (drop 3 0 0 ∷ []);
}

-- a receiver that leaves hears what arrives at that tick, and nothing more
abbrev pub receiver_that_leaves : PlainScenario
receiver_that_leaves = record {
  until = 1000;
  constants = timed 1000 0;
  room = fixed_room (timed 1000 0);
  recovery = without_scopes;
  nodes = 2;
  links = chain_links 1 0 1;
  members = member 0 Sender 1 ∷ record (member 1 Receiver 2) { leave = Some 1 } ∷ [];
  draws = draw 0 0 7 0 ∷ draw 0 0 8 10 ∷ [];
  sessions = [];
  drops = lists_alone [];
}

-- a late joiner asks for the page that it wants, and not for the other
abbrev pub late_joiner : PlainScenario
late_joiner = record {
  until = 1000;
  constants = timed 1000 0;
  room = fixed_room (timed 1000 0);
  recovery = without_scopes;
  nodes = 2;
  links = chain_links 1 0 1;
  members = member 0 Sender 1 ∷ record (member 1 Late 2) { join = 50; pages = 1 ∷ [] } ∷ [];
  draws = draw 0 0 7 0 ∷ draw 0 1 8 1 ∷ draw 0 0 9 70 ∷ [];
  sessions = session 0 59 ∷ [];
  drops = lists_alone [];
}

-- a session message reveals a loss
abbrev pub session_reveals_a_loss : PlainScenario
session_reveals_a_loss = record {
  until = 1000;
  constants = timed 1000 0;
  room = fixed_room (timed 1000 0);
  recovery = without_scopes;
  nodes = 2;
  links = chain_links 1 0 1;
  members = member 0 Sender 1 ∷ member 1 Receiver 2 ∷ [];
  draws = draw 0 0 7 0 ∷ [];
  sessions = session 0 20 ∷ session 0 40 ∷ [];
  drops = lists_alone (drop 0 0 0 ∷ []);
}

-- a sender and a listener
abbrev pub two_nodes : PlainScenario
two_nodes = record {
  until = 20;
  constants = timed 1000 0;
  room = fixed_room (timed 1000 0);
  recovery = without_scopes;
  nodes = 2;
  links = link 0 1 3 ∷ [];
  members = member 0 Sender 1 ∷ member 1 Listener 2 ∷ [];
  draws = draw 0 0 7 0 ∷ draw 0 0 8 5 ∷ [];
  sessions = [];
  drops = lists_alone [];
}

-- a loss that the data itself mends in the same tick
abbrev pub mended_by_the_data_itself : PlainScenario
mended_by_the_data_itself = record {
  until = 1000;
  constants = timed 1000 0;
  room = fixed_room (timed 1000 0);
  recovery = without_scopes;
  nodes = 3;
  links = chain_links 1 0 2;
  members = member 1 Receiver 1 ∷ member 0 Sender 2 ∷ member 2 Receiver 3 ∷ [];
  draws = draw 1 0 7 0 ∷ [];
  sessions = session 0 1 ∷ [];
  drops = lists_alone [];
}

-- a loss that a request reveals, which backs off at once
abbrev pub loss_learnt_from_a_request : PlainScenario
loss_learnt_from_a_request = record {
  until = 1000;
  constants = timed 1000 0;
  room = fixed_room (timed 1000 0);
  recovery = without_scopes;
  nodes = 3;
  links = chain_links 1 0 2;
  members = member 0 Sender 1 ∷ member 1 Receiver 2 ∷ member 2 Receiver 3 ∷ [];
  draws = draw 0 0 7 0 ∷ draw 0 0 8 10 ∷ [];
  sessions = [];
  drops = lists_alone (drop 0 0 0 ∷ drop 1 0 1 ∷ []);
}

-- an outage of one tick, in which the first of two packets comes to the second link
abbrev pub outage_of_one_tick : PlainScenario
outage_of_one_tick = record {
  until = 100;
  constants = timed 1000 0;
  room = fixed_room (timed 1000 0);
  recovery = without_scopes;
  nodes = 3;
  links = chain_links 5 0 2;
  members = member 0 Sender 1 ∷ member 1 Listener 2 ∷ member 2 Listener 3 ∷ [];
  draws = draw 0 0 7 0 ∷ draw 0 0 8 10 ∷ [];
  sessions = [];
  drops = out_alone (record { link = 1; from = 5; to = 6 } ∷ []);
}

-- an outage of one tick
abbrev pub outage : ℕ → ℕ → OutageSpec
outage l from = record { link = l; from = from; to = from + 1 }

-- two pairs of operations of a source, of which the second is drawn a tick after the first
abbrev pub two_pairs : List DrawSpec
two_pairs = draw 0 0 0 0 ∷ draw 0 0 1 1 ∷ draw 0 0 2 1000 ∷ draw 0 0 3 1001 ∷ []

-- a link loses the packets that come to it in these two ticks
abbrev pub loses_at : ℕ → ℕ → ℕ → DropRules
loses_at l first second = out_alone (outage l first ∷ outage l second ∷ [])

-- a member that alone asks, at two losses: the second time it asks sooner
abbrev pub request_timers_adapted : PlainScenario
request_timers_adapted = record {
  until = 2000;
  constants = timed 2000 0;
  room = record { least = timed 500 0; most = timed 2000 0; backoff = 3 };
  recovery = without_scopes;
  nodes = 3;
  links = chain_links 20 0 2;
  members = member 0 Sender 1 ∷ member 1 Receiver 2 ∷ member 2 Receiver 3 ∷ [];
  draws = two_pairs;
  sessions = [];
  drops = loses_at 1 20 1020;
}

-- two members that answer together, at two losses of another, and a third that hears both: its repair timers get longer
abbrev pub repair_timers_adapted : PlainScenario
repair_timers_adapted = record {
  until = 2000;
  constants = thousandths 1500 0 1500 0;
  room = record { least = thousandths 1500 0 500 0; most = thousandths 1500 0 2000 0; backoff = 3 };
  recovery = without_scopes;
  nodes = 5;
  links = link 0 1 20 ∷ link 0 2 20 ∷ link 0 3 60 ∷ link 0 4 20 ∷ [];
  members = member 1 Sender 1 ∷ member 2 Receiver 2 ∷ member 3 Receiver 3 ∷ member 4 Receiver 4 ∷ [];
  draws = two_pairs;
  sessions = [];
  drops = loses_at 3 20 1020;
}

-- two members that ask together, at two losses, and a third that hears both: its request timers get longer
abbrev pub two_ask_together : PlainScenario
two_ask_together = record {
  until = 2000;
  constants = thousandths 1000 0 500 0;
  room = record { least = thousandths 500 0 500 0; most = thousandths 2000 0 500 0; backoff = 3 };
  recovery = without_scopes;
  nodes = 5;
  links = link 0 1 20 ∷ link 1 2 20 ∷ link 1 3 20 ∷ link 1 4 60 ∷ [];
  members = member 0 Sender 1 ∷ member 2 Receiver 2 ∷ member 3 Receiver 3 ∷ member 4 Receiver 4 ∷ [];
  draws = two_pairs;
  sessions = [];
  drops = loses_at 0 0 1000;
}
