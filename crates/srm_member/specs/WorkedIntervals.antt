-- What members of three small sessions see of a loss, and then of a later one, worked by hand.
use Rattle.std.specs.Prelude.{ℕ, List, [], ◌∷◌, ◌++◌}
use Rattle.srm_member.specs.Intervals.{Interval}
use Rattle.srm_member.specs.IntervalLaws.{Change, Begins, Delays, Sends, Hears, interval_after}

-- an interval whose start has these first, least and greatest values, and whose width is 0 and has no room
abbrev pub narrow : ℕ → ℕ → ℕ → List Change → Interval
narrow first least most cs = interval_after
    (record { first = first; least = least; most = most }) (record { first = 0; least = 0; most = 0 }) cs

-- a member sends first, so many ticks after its period began, for another at this distance
abbrev pub sends_first : ℕ → ℕ → List Change
sends_first t d = Begins ∷ Sends ∷ Delays t d ∷ []

-- it alone lacks what was lost, and asks after 80 and after 78 ticks, over a distance of 40
abbrev pub asked_alone : List Change
asked_alone = sends_first 80 40

abbrev pub asked_alone_twice : List Change
asked_alone_twice = asked_alone ++ sends_first 78 40

-- two members at the same distance answer at once, after 60 and after 58 ticks, and hear each other
abbrev pub answered_together : List Change
answered_together = sends_first 60 40 ++ Hears ∷ []

abbrev pub answered_together_twice : List Change
answered_together_twice = answered_together ++ sends_first 58 40

-- farther off a third one hears both: the first repair ends its timer, the second is a duplicate; then the next request
abbrev pub heard_both_answer : List Change
heard_both_answer = Begins ∷ Delays 100 80 ∷ Hears ∷ Begins ∷ []

-- two members at the same distance ask at once, after 40 and after 38 ticks, and hold each other's request
abbrev pub asked_together : List Change
asked_together = sends_first 40 40 ++ Hears ∷ []

abbrev pub asked_together_twice : List Change
asked_together_twice = asked_together ++ sends_first 38 40

-- farther off a third one backs off at the first request and holds the second; then the next loss
abbrev pub heard_both_ask : List Change
heard_both_ask = Begins ∷ Delays 80 80 ∷ Hears ∷ Begins ∷ []
