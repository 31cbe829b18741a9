-- The limits of a scenario file's numbers and arrays that no other crate has.
use Rattle.std.specs.Prelude.{ℕ}

-- the greatest delay of a link in one direction, in ticks
abbrev pub greatest_delay : ℕ
greatest_delay = 1000000

-- the greatest value of a constant of timers that members adapt, in thousandths
abbrev pub greatest_limit : ℕ
greatest_limit = 1024000

-- the greatest rate of a loss, in millionths
abbrev pub greatest_rate : ℕ
greatest_rate = 1000000

-- the greatest scope of a request, and the most by which each backoff widens it, in hops
abbrev pub greatest_scope : ℕ
greatest_scope = 65535

-- after how many backoffs a request has no scope, at most
abbrev pub most_tries : ℕ
most_tries = 10

-- the last number of a page, of an ink, and of a packet of a sender that a drop names
abbrev pub last_page : ℕ
last_page = 65535

abbrev pub last_ink : ℕ
last_ink = 4294967295

abbrev pub last_count : ℕ
last_count = 4294967295

-- the last stream of random words: below 2^63
abbrev pub last_stream : ℕ
last_stream = 9223372036854775807

-- for how many elements one may stand
abbrev pub most_times : ℕ
most_times = 65535

-- how many pages a late member asks for at most
abbrev pub most_pages : ℕ
most_pages = 256
