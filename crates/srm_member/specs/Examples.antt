-- Words and lengths of timers, computed.
use Rattle.std.specs.Prelude.{ℕ, zero, suc, List, [], ◌∷◌}
use Rattle.rand_pcg.specs.Lcg.{Lcg, started, increment_of}
use Rattle.rand_pcg.specs.Pcg.{pcg32, multiplier_64}

-- the next n words of a generator
abbrev pub words_from : ℕ → Lcg → List ℕ
words_from zero g = []
words_from (suc n) g = (pcg32 g).0 ∷ words_from n (pcg32 g).1

-- the first n words of a seed and a stream
abbrev pub first_words : ℕ → ℕ → ℕ → List ℕ
first_words n seed stream = words_from n (started 64 multiplier_64 seed (increment_of 64 stream))
