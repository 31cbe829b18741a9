-- Lengths of timers that backoffs make longer by a factor.
use Rattle.std.specs.Prelude.{ℕ, ◌+◌, ◌*◌, ◌/◌, ◌^◌, min}
use Rattle.srm_member.specs.declared.backoff.BackoffFactor.{BackoffFactor}
use Rattle.srm_member.specs.declared.backoff.BackoffFactor.TheVariants.{Two, Three}

-- how many times as long a timer is after i backoffs: twice at each up to the tenth, or three times up to the sixth
abbrev pub multiple : BackoffFactor → ℕ → ℕ
multiple Two i = 2 ^ min i 10
multiple Three i = 3 ^ min i 6

-- the least and the greatest length after i backoffs, of x and of x + y thousandths of a distance
abbrev pub span_by : BackoffFactor → ℕ → ℕ → ℕ → ℕ → ℕ × ℕ
span_by f i x y d = (multiple f i * x * d / 1000, multiple f i * (x + y) * d / 1000)

-- the longest way of a network of 65,535 nodes, in ticks: 65,534 links of 1,000,000 ticks each
abbrev pub longest_way : ℕ
longest_way = 65534000000
