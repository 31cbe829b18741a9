-- Lines of a CSV text in memory.
use Rattle.std.specs.Prelude.{◌≡◌, ◌≤◌, ℕ, ◌+◌, ◌*◌, ◌-◌, List, ◌∷◌, ◌++◌, drop}
use Rattle.csv.specs.Writing.{comma}
use Rattle.srm_report.specs.declared.listing.line_buffer.LineBuffer.{LineBuffer}
use Rattle.srm_report.specs.declared.listing.line_buffer.TheConstants.{LONGEST, SIZE}

-- how many bytes fit in a buffer
abbrev pub full_room : ℕ
full_room = SIZE - 1

-- how many bytes fit before that which is written
abbrev pub buffer_room : LineBuffer → ℕ
buffer_room b = b.start

-- the most bytes that a number below 2^64 takes, with the comma before it
abbrev pub number_room : ℕ
number_room = 21

-- that two take, as those of a packet
abbrev pub pair_room : ℕ
pair_room = 2 * number_room

-- that three take, as those of a name
abbrev pub name_room : ℕ
name_room = 3 * number_room

-- that a line takes
abbrev pub line_room : ℕ
line_room = LONGEST

-- what is written: fields, each after a comma, the line feed of their line, and the lines after it
abbrev pub buffer_written : LineBuffer → List ℕ
buffer_written b = drop b.start b.bytes

-- the lines, without the byte before the first of them
abbrev pub buffer_text : LineBuffer → List ℕ
buffer_text b = drop (b.start + 1) b.bytes

-- a field that takes so many bytes at most, with the comma before it, was put before what was written
pub record PutsField (most : ℕ) (old : LineBuffer) (field : List ℕ) (new : LineBuffer) : Type 0 where
  pub room : buffer_room old ≤ buffer_room new + most
  pub written : buffer_written new ≡ comma ∷ (field ++ buffer_written old)
