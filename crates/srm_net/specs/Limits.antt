-- The numbers that bound scenarios and runs.
use Rattle.std.specs.Prelude.{ℕ, ◌-◌, ◌*◌, ◌^◌}

-- no scenario runs beyond this tick, and each of its events comes before it
abbrev pub end_of_time : ℕ
end_of_time = 2 ^ 40

-- so many nodes may a network have, and so many members, since each is on a node of its own
abbrev pub most_nodes : ℕ
most_nodes = 65535

-- so many links, which are one fewer than the nodes
abbrev pub most_links : ℕ
most_links = most_nodes - 1

-- so many ticks may a link take in either direction
abbrev pub greatest_link_delay : ℕ
greatest_link_delay = 1000000

-- the longest way of a network, in ticks: over so many links, each of the greatest delay
abbrev pub greatest_distance : ℕ
greatest_distance = most_links * greatest_link_delay

-- each constant of timers, in thousandths, is at most this one in versions 1 and 2 of the scenario format
abbrev pub greatest_constant : ℕ
greatest_constant = 64000

-- so many draws, session messages, drops and outages may a scenario list, of each kind
abbrev pub most_listed : ℕ
most_listed = 65535

-- so many operations may be drawn on a page
abbrev pub most_drawn : ℕ
most_drawn = 4096

-- so many packets may a member send
abbrev pub most_sent : ℕ
most_sent = 2 ^ 48
