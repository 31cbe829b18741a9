-- The intervals that timers are drawn from, and how a member adapts them to the duplicates and the delays that it sees.
use Rattle.std.specs.Prelude.{ℕ, ◌+◌, ◌-◌, ◌*◌, ◌/◌, min, max, Bool, true, false, ◌&&◌, Option, Some, None}
use Rattle.std.specs.Prelude.{nat_lt, nat_le, ◌==◌, if◌then◌else◌}

-- each constant of timers that is adapted, in thousandths, is at most this one
abbrev pub greatest_adapted : ℕ
greatest_adapted = 1024000

-- so many duplicates are counted in a period
abbrev pub most_duplicates : ℕ
most_duplicates = 1000000

-- of a constant of timers, in thousandths: its first value, and the least and the most that it is adapted to
pub record Limits : Type 0 where
  pub first : ℕ
  pub least : ℕ
  pub most : ℕ

-- a constant without room, which stays as it is
abbrev pub without_room : ℕ → Limits
without_room x = record { first = x; least = x; most = x }

-- an interval of timers: its start and width, in thousandths of a distance; of the period that is open, how many
-- duplicates were heard, and whether the member itself sent first; and the averages, in thousandths, of duplicates in a
-- period and of delays in round trips, none before their first value
pub record Interval : Type 0 where
  pub start : ℕ
  pub width : ℕ
  pub duplicates : ℕ
  pub sent_first : Bool
  pub average_duplicates : Option ℕ
  pub average_delay : Option ℕ

-- the least where x is below it, the most where x is above it
abbrev pub within : Limits → ℕ → ℕ
within l x = max l.least (min l.most x)

-- the average m after it takes in x
abbrev pub average : Option ℕ → ℕ → ℕ
average None x = x
average (Some m) x = (3 * m + x) / 4

-- an interval at first, with limits of its start and of its width
abbrev pub opening_interval : Limits → Limits → Interval
opening_interval start width = record {
  start = start.first;
  width = width.first;
  duplicates = 0;
  sent_first = false;
  average_duplicates = None;
  average_delay = None;
}

-- start and width are those of another interval
abbrev pub has_constants_of : Interval → Interval → Bool
has_constants_of i j = (j.start == i.start) && (j.width == i.width)

-- ---- a period begins

-- the start and the width for the next period, before limits, where these are the averages of duplicates and of delays
abbrev pub adapted : Interval → ℕ → ℕ → ℕ × ℕ
adapted i duplicates delay =
    if i.sent_first then (i.start, i.width - 100)
    else if nat_le 1000 duplicates then (i.start + 100, i.width + 500)
    else if nat_le 900 duplicates then (i.start + 50, i.width)
    else (if nat_lt duplicates 250 then i.start - 50 else i.start, if nat_lt 1000 delay then i.width - 100 else i.width)

-- the average of duplicates takes in those of the period that ends, and start and width are adapted; not before a delay
-- was averaged
abbrev pub adapt : Limits → Limits → Option ℕ → Interval → Interval
adapt start width None i = i
adapt start width (Some delay) i =
    let duplicates = average i.average_duplicates (1000 * i.duplicates) in
    let next = adapted i duplicates delay in record i {
      start = within start next.0;
      width = within width next.1;
      average_duplicates = Some duplicates;
    }

-- begin a period
abbrev pub begin_period : Limits → Limits → Interval → Interval
begin_period start width i =
    record (adapt start width i.average_delay i) { duplicates = 0; sent_first = false }

-- ---- in a period

-- take in a delay of t ticks over a distance d, which is half a round trip
abbrev pub take_in_delay : ℕ → ℕ → Interval → Interval
take_in_delay t d i = record i { average_delay = Some (average i.average_delay (500 * t / max 1 d)) }

-- send first
abbrev pub send_first : Limits → Interval → Interval
send_first start i = record i { start = within start (i.start - 50); sent_first = true }

-- hear a duplicate
abbrev pub hear_duplicate : Interval → Interval
hear_duplicate i = record i { duplicates = min most_duplicates (i.duplicates + 1) }
