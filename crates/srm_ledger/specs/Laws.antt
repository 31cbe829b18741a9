-- Laws of the rule of the ledger.
use Rattle.std.specs.Prelude.{◌≡◌, ◌≤◌, ◌^◌, ℕ, slice_index}
use mathlib.Core.Option.{some}
use lib.ListN.{get_elem?}
use Rattle.atomic_table.specs.Table.{State}
use Rattle.srm_ledger.specs.declared.rule.Holding.{Holding}
use Rattle.srm_ledger.specs.Weights.{whole_weight}
use Rattle.srm_ledger.specs.Tally.{Tallied, share_at, seen_at}

-- the words and seats of a table without slots
abbrev pub Seats : Type 0
Seats = State (Unit {0}) Holding

-- no word is above 2^63
abbrev pub WordsNeverWrap : Type 0
WordsNeverWrap = (n : ℕ) (s : Seats) (k : ℕ) → Tallied n s → slice_index s.words k ≤ 2 ^ 63

-- a seat of the whole weight has just the words as its shares
abbrev pub WholeSeatsHaveTheWords : Type 0
WholeSeatsHaveTheWords =
    (n : ℕ) (s : Seats) (j : ℕ) (v : Holding) → Tallied n s → get_elem? s.views j ≡ some v → v.weight ≡ whole_weight
    → (k : ℕ) → slice_index s.words k ≡ share_at k v

-- what a seat read is not above the word
abbrev pub ReadsAreNotAbove : Type 0
ReadsAreNotAbove =
    (n : ℕ) (s : Seats) (j : ℕ) (v : Holding) → Tallied n s → get_elem? s.views j ≡ some v
    → (k : ℕ) → seen_at k v ≤ slice_index s.words k
