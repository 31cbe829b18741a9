-- The least of the next times of all members.
use Rattle.std.specs.Prelude.{◌≡◌, ◌≢◌, ◌⊎◌, ℕ, suc, min, ◌+◌, ◌*◌, ◌/◌, ◌%◌, ◌^◌, ◌<◌, ◌≤◌, Bool, false, List, [], ◌∷◌}
use Rattle.std.specs.Prelude.{Option, Some, None, nat_le, ◌==◌, if◌then◌else◌, length, slice_index_or, slice_set}
use Rattle.srm_engine.specs.declared.next_times.TheConstants.{LATEST, NUMBERS}

-- a time and a member, and another pair of these: the one with the lesser time, or the first where the times are the
-- same
abbrev pub sooner_time : (ℕ × ℕ) → Option (ℕ × ℕ) → ℕ × ℕ
sooner_time p None = p
sooner_time p (Some q) = if nat_le p.0 q.0 then p else q

-- the least of the next times of member i and of those after it, with the first member that has it. A member may have
-- none
abbrev pub least_of_times : ℕ → List (Option ℕ) → Option (ℕ × ℕ)
least_of_times i [] = None
least_of_times i (None ∷ ts) = least_of_times (suc i) ts
least_of_times i (Some t ∷ ts) = Some (sooner_time (t, i) (least_of_times (suc i) ts))

-- whether this is the next time of a member
abbrev pub is_time : ℕ → Option (Option ℕ) → Bool
is_time t None = false
is_time t (Some None) = false
is_time t (Some (Some u)) = u == t

-- ---- the tournament

-- the word of member m: its time, no later than the latest, and its number; without a time it has the latest
abbrev pub word_of : Option ℕ → ℕ → ℕ
word_of None m = LATEST * NUMBERS + m
word_of (Some t) m = min t LATEST * NUMBERS + m

-- word i
abbrev pub word_at : List ℕ → ℕ → ℕ
word_at ws i = slice_index_or ws i 0

-- the lesser of the two words below word i
abbrev pub winner_below : List ℕ → ℕ → ℕ
winner_below ws i = min (word_at ws (2 * i)) (word_at ws (2 * i + 1))

-- each word that has two below it is the lesser of them
abbrev pub AreWinners : List ℕ → Type 0
AreWinners ws = (i : ℕ) → 0 < i → 2 * i + 1 < length ws → word_at ws i ≡ winner_below ws i

-- place i is neither place j nor above it
abbrev pub NotAbove : ℕ → ℕ → Type 0
NotAbove i j = (d : ℕ) → i ≢ j / 2 ^ d

-- so is each that is not above place j
abbrev pub AreWinnersBeside : ℕ → List ℕ → Type 0
AreWinnersBeside j ws = (i : ℕ) → 0 < i → 2 * i + 1 < length ws → NotAbove i j → word_at ws i ≡ winner_below ws i

-- in the second list each leaf is as in the first
abbrev pub KeepsLeaves : List ℕ → List ℕ → Type 0
KeepsLeaves old new = (i : ℕ) → length old ≤ 2 * i → word_at new i ≡ word_at old i

-- in the second list the leaf is this word, and each other leaf is as in the first
abbrev pub SetsLeaf : ℕ → ℕ → List ℕ → List ℕ → Type 0
SetsLeaf leaf w old new = (i : ℕ) → length old ≤ 2 * i → word_at new i ≡ word_at (slice_set old leaf w) i

-- each power of two up to this number divides it, as where it is one
abbrev pub IsPower : ℕ → Type 0
IsPower n = (d : ℕ) → 2 ^ d ≤ n → n % 2 ^ d ≡ 0

-- the n leaves, which are the latter half of the words, are those of the members with these times, and of numbers past
-- them
pub record HaveLeaves (n : ℕ) (ts : List (Option ℕ)) (ws : List ℕ) : Type 0 where
  pub size : length ws ≡ 2 * n
  pub power : IsPower (length ws)
  pub some : 0 < n
  pub few : n ≤ NUMBERS
  pub room : length ts ≤ n
  pub each : (m : ℕ) → m < n → word_at ws (n + m) ≡ word_of (slice_index_or ts m None) m

-- this is the word of one of the n leaves, and no other leaf's is less
pub record IsFirst (n : ℕ) (ws : List ℕ) (w : ℕ) : Type 0 where
  pub within : w % NUMBERS < n
  pub stands : word_at ws (n + w % NUMBERS) ≡ w
  pub least : (m : ℕ) → m < n → w ≤ word_at ws (n + m)

-- the words are a tournament of these times, with n leaves, in which this word comes first
pub record IsTournament (n : ℕ) (ts : List (Option ℕ)) (ws : List ℕ) (w : ℕ) : Type 0 where
  pub leaves : HaveLeaves n ts ws
  pub first : IsFirst n ws w
  pub tree : AreWinnersBeside (n + w % NUMBERS) ws

-- a place above this leaf has this word, all words but those above that place are winners, and that place is the top,
-- or the word is below this bound
pub record IsReplayed (leaf bound w : ℕ) (ws : List ℕ) : Type 0 where
  pub height : ℕ
  pub inside : 0 < leaf / 2 ^ height
  pub stands : word_at ws (leaf / 2 ^ height) ≡ w
  pub tree : AreWinnersBeside (leaf / 2 ^ height / 2) ws
  pub ends : (leaf / 2 ^ height ≡ 1) ⊎ (w < bound)
