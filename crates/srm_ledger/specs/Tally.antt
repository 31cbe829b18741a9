-- The rule of the ledger: its words, and for each seat a weight, a share of each word and a number seen there.
use Rattle.std.specs.Prelude.{◌≡◌, ℕ, ◌+◌, ◌^◌, ◌<◌, ◌≤◌, List, [], ◌∷◌, length, max, replicate, slice_index}
use Rattle.std.specs.Prelude.{slice_set}
use mathlib.Core.Option.{some}
use lib.ListN.{get_elem?}
use Rattle.atomic_table.specs.Table.{State, Me, Step}
use Rattle.srm_ledger.specs.declared.rule.Holding.{Holding}
use Rattle.srm_ledger.specs.Weights.{total, whole_weight, WeighWhole, first_weight, second_weight, joined_weight}

-- what the rule knows of a seat: its weight, its shares, and what it last read
abbrev pub holding : ℕ → List ℕ → List ℕ → Holding
holding w xs ys = record { weight = w; shares = xs; seen = ys }

-- a seat that was joined away
abbrev pub spent : Holding
spent = holding 0 [] []

-- the weight of a seat
abbrev pub weight_of : Holding → ℕ
weight_of v = v.weight

-- the share of word k
abbrev pub share_at : ℕ → Holding → ℕ
share_at k v = slice_index v.shares k

-- what was last read of word k
abbrev pub seen_at : ℕ → Holding → ℕ
seen_at k v = slice_index v.seen k

-- two lists of numbers, added place by place
abbrev pub added : List ℕ → List ℕ → List ℕ
added [] ys = ys
added (x ∷ xs) [] = x ∷ xs
added (x ∷ xs) (y ∷ ys) = (x + y) ∷ added xs ys

-- the larger of each two numbers
abbrev pub larger : List ℕ → List ℕ → List ℕ
larger [] ys = ys
larger (x ∷ xs) [] = x ∷ xs
larger (x ∷ xs) (y ∷ ys) = max x y ∷ larger xs ys

-- no share is above 2^47
abbrev pub AllSmall : List ℕ → Type 0
AllSmall xs = (k : ℕ) → slice_index xs k ≤ 2 ^ 47

-- no two shares of a word add up to more than 2^47
abbrev pub AllFit : List ℕ → List ℕ → Type 0
AllFit xs ys = (k : ℕ) → slice_index xs k + slice_index ys k ≤ 2 ^ 47

-- two shares of some word do
abbrev pub SomePast : List ℕ → List ℕ → Type 0
SomePast xs ys = (k : ℕ) × (2 ^ 47 < slice_index xs k + slice_index ys k)

-- what holds of each seat: only a spent one has no weight, and nothing that was read is above its word
pub record SeatOk (words : List ℕ) (v : Holding) : Type 0 where
  pub spent_is : v.weight ≡ 0 → v ≡ spent
  pub capped : (k : ℕ) → share_at k v ≤ 2 ^ 47
  pub known : (k : ℕ) → seen_at k v ≤ slice_index words k

-- the rule, over n words: weights add up to the whole, each word is the sum of its seats' shares, the spare one is 0
pub record Tallied {S : Type 0} (n : ℕ) (s : State S Holding) : Type 0 where
  pub wide : length s.words ≡ n
  pub whole : WeighWhole weight_of s.views
  pub summed : (k : ℕ) → slice_index s.words k ≡ total (share_at k) s.views
  pub spare : slice_index s.words 0 ≡ 0
  pub seats : (j : ℕ) (v : Holding) → get_elem? s.views j ≡ some v → SeatOk s.words v

-- ---- the kinds of step

-- opening: the first seat of n words
abbrev pub opened : ℕ → Holding
opened n = holding whole_weight (replicate n 0) (replicate n 0)

-- an add of d to word k
abbrev pub grew : Holding → ℕ → ℕ → Holding
grew v k d = holding v.weight (slice_set v.shares k (share_at k v + d)) v.seen

-- a read of word k that finds x
abbrev pub saw : Holding → ℕ → ℕ → Holding
saw v k x = holding v.weight v.shares (slice_set v.seen k x)

-- what a seat learns where it finds x in word k
pub record Finds (v : Holding) (k x : ℕ) : Type 0 where
  pub own : share_at k v ≤ x
  pub before : seen_at k v ≤ x
  pub whole : v.weight ≡ whole_weight → x ≡ share_at k v
  pub spare : k ≡ 0 → x ≡ 0
  pub part : v.weight ≤ whole_weight

module _ {S : Type 0} where
  -- an add tells that the seat's share has grown by what was added
  abbrev pub adds : Step S → Me S Holding → ℕ → Me S Holding → Type 0
  adds s m found w = w ≡ (grew m.0 s.word s.first, m.1)

  -- a read tells what was found, which the seat keeps
  abbrev pub reads : Step S → Me S Holding → ℕ → Me S Holding → Type 0
  reads s m found w = (w ≡ (saw m.0 s.word found, m.1)) × Finds m.0 s.word found

-- a split: the first half keeps the shares and the larger half of the weight
abbrev pub first_half : Holding → Holding
first_half v = holding (first_weight v.weight) v.shares v.seen

-- and the second has added nothing; both keep what was read
abbrev pub second_half : Holding → Holding
second_half v = holding (second_weight v.weight) (replicate (length v.shares) 0) v.seen

-- a join: the second seat is spent
abbrev pub joined_holding : Holding → Holding → Holding
joined_holding v w = holding (joined_weight v.weight w.weight) (added v.shares w.shares) (larger v.seen w.seen)

-- ---- the end

-- the words are these numbers
abbrev pub AreWords : List ℕ → List ℕ → Type 0
AreWords words xs = (k : ℕ) → k < length xs → get_elem? words k ≡ some (slice_index xs k)
