-- Lengths of timers.
use Rattle.std.specs.Prelude.{ℕ, ◌+◌, ◌-◌, ◌*◌, ◌/◌, ◌^◌, min, max}

-- the least and the greatest length at i backoffs, of x and of x + y thousandths of a distance
abbrev pub span : ℕ → ℕ → ℕ → ℕ → ℕ × ℕ
span i x y d = (2 ^ min i 10 * x * d / 1000, 2 ^ min i 10 * (x + y) * d / 1000)

-- the length that a word of 32 bits picks of a span, at least one tick
abbrev pub timer_length : ℕ → ℕ × ℕ → ℕ
timer_length word s = max 1 (s.0 + word * (s.1 - s.0 + 1) / 2 ^ 32)
