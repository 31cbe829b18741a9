-- The order of event keys.
use Rattle.std.specs.Prelude.{ℕ, List, [], ◌∷◌}
use Rattle.std.specs.declared.cmp.Ordering.{Ordering}
use Rattle.std.specs.Ordering.{nat_cmp}
use Rattle.std.specs.Cmp.Lexicographic.{slice_cmp}
use Rattle.srm_net.specs.declared.key.Key.{Key}
use Rattle.srm_net.specs.declared.rank.Rank.{Rank}
use Rattle.srm_net.specs.declared.rank.Rank.TheVariants.{Join, Arrival, Request, Repair, Draw, Report, Leave}

-- the number of a rank: the place of its variant
unfoldable pub rank_number : Rank → ℕ
rank_number Join = 0
rank_number Arrival = 1
rank_number Request = 2
rank_number Repair = 3
rank_number Draw = 4
rank_number Report = 5
rank_number Leave = 6

-- a key as its numbers: time, member, rank, and the three that tell events of one rank apart
abbrev pub numbers_of_key : Key → List ℕ
numbers_of_key k = k.time ∷ k.member ∷ rank_number k.rank ∷ k.a ∷ k.b ∷ k.c ∷ []

-- keys are compared number by number
abbrev pub key_cmp : Key → Key → Ordering
key_cmp k l = slice_cmp nat_cmp (numbers_of_key k) (numbers_of_key l)
