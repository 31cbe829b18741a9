-- Devices that give bytes, and reading a text from one.
use Rattle.std.specs.Prelude.{◌≡◌, ℕ, ◌+◌, ◌<◌, ◌≤◌, List, length, Result, Ok, Err, ⊤, Vec}
use Rattle.srm_scenario.specs.declared.feed.ReadFeed.{ReadFeed}
use Rattle.srm_scenario.specs.declared.bytes.TextFault.{TextFault}
use Rattle.srm_scenario.specs.declared.bytes.TextFault.TheVariants.{ReadFault, TooLong, NoMemory}
use Rattle.srm_scenario.specs.declared.bytes.TheConstants.{LONGEST_TEXT}

-- the reader under a feed
abbrev pub reader_under : {R : Type 0} → ReadFeed R → R
reader_under f = f.reader

-- how often the reader under a feed answered an error
abbrev pub reader_failures : {R : Type 0} → ReadFeed R → ℕ
reader_failures f = f.failures

-- the count of a feed's failures after a text was read from it: one more exactly where the answer is that it failed
abbrev pub failures_after_text : {T : Type 0} → Result T TextFault → ℕ → ℕ
failures_after_text (Ok text) n = n
failures_after_text (Err ReadFault) n = n + 1
failures_after_text (Err TooLong) n = n
failures_after_text (Err NoMemory) n = n

-- the answer for a feed that had these bytes still to give: all of them, or that they are too many, unless it failed or
-- memory ran out
abbrev pub TextOf : {A : Type 0} → Result (Vec ℕ A) TextFault → List ℕ → Type 0
TextOf (Ok text) bytes = (text.items ≡ bytes) × (length bytes ≤ LONGEST_TEXT)
TextOf (Err ReadFault) bytes = ⊤
TextOf (Err TooLong) bytes = LONGEST_TEXT < length bytes
TextOf (Err NoMemory) bytes = ⊤

-- what was taken from a feed: the whole text, or one byte more than a text may have, or no more than that
abbrev pub Took : {A : Type 0} → Result (Vec ℕ A) TextFault → List ℕ → Type 0
Took (Ok text) given = (given ≡ text.items) × (length given ≤ LONGEST_TEXT)
Took (Err TooLong) given = length given ≡ LONGEST_TEXT + 1
Took (Err e) given = length given ≤ LONGEST_TEXT + 1
