-- What a contract sees of a ledger and a seat.
use Rattle.std.specs.Prelude.{◌≡◌, ◌≤◌, ◌<◌, ℕ, ◌+◌, ◌*◌, ◌^◌, List, [], replicate, length, drop, slice_index}
use Rattle.std.specs.Prelude.{slice_set}
use Rattle.atomic_table.specs.Seated.{TableId}
use Rattle.atomic_table.specs.Table.{Me}
use Rattle.srm_net.specs.Limits.{most_links}
use Rattle.srm_ledger.specs.declared.kind.Kind.{Kind}
use Rattle.srm_ledger.specs.declared.rule.Holding.{Holding}
use Rattle.srm_ledger.specs.Counts.{place_of, counted_at}
use Rattle.srm_ledger.specs.Weights.{whole_weight, first_weight, second_weight, joined_weight}
use Rattle.srm_ledger.specs.Tally.{holding, added, larger, AllSmall}

-- a ledger: its name, and how many links it has
pub record LedgerView : Type 0 where
  pub name : TableId
  pub links : ℕ

-- a seat: its ledger, its weight, and for each word its share and what it last read, the spare word first
pub record SeatView : Type 0 where
  pub ledger : TableId
  pub weight : ℕ
  pub shares : List ℕ
  pub seen : List ℕ

-- a seat of these parts
abbrev pub seat_of : TableId → ℕ → List ℕ → List ℕ → SeatView
seat_of ledger weight shares seen = record { ledger = ledger; weight = weight; shares = shares; seen = seen }

-- the word of a link and a kind; word 0 is the spare one
abbrev pub word_at : ℕ → Kind → ℕ
word_at link kind = 5 * link + place_of kind + 1

-- how many words a ledger of so many links has
abbrev pub words_of : ℕ → ℕ
words_of links = 5 * links + 1

-- what the seat added to the word of a link and a kind
abbrev pub share : SeatView → ℕ → Kind → ℕ
share s link kind = slice_index s.shares (word_at link kind)

-- what the seat last read there
abbrev pub seen_there : SeatView → ℕ → Kind → ℕ
seen_there s link kind = slice_index s.seen (word_at link kind)

-- the seat that a ledger is opened with
abbrev pub whole_seat : TableId → ℕ → SeatView
whole_seat name links = record {
  ledger = name;
  weight = whole_weight;
  shares = replicate (words_of links) 0;
  seen = replicate (words_of links) 0;
}

-- the share of one word has grown by n, and nothing else has changed
abbrev pub with_more : SeatView → ℕ → Kind → ℕ → SeatView
with_more s link kind n = record {
  ledger = s.ledger;
  weight = s.weight;
  shares = slice_set s.shares (word_at link kind) (share s link kind + n);
  seen = s.seen;
}

-- n is added, and the share is at most 2^47 after it
abbrev pub SeatGrows : SeatView → ℕ → Kind → ℕ → SeatView → Type 0
SeatGrows s link kind n t = (share s link kind + n ≤ 2 ^ 47) × (t ≡ with_more s link kind n)

-- the share would pass 2^47 if n were added
abbrev pub IsFull : SeatView → ℕ → Kind → ℕ → Type 0
IsFull s link kind n = 2 ^ 47 < share s link kind + n

-- x was read of one word, and nothing else has changed
abbrev pub with_seen : SeatView → ℕ → Kind → ℕ → SeatView
with_seen s link kind x = record {
  ledger = s.ledger;
  weight = s.weight;
  shares = s.shares;
  seen = slice_set s.seen (word_at link kind) x;
}

-- the half of a seat that keeps the shares and the larger half of the weight
abbrev pub half_with_shares : SeatView → SeatView
half_with_shares s = record {
  ledger = s.ledger;
  weight = first_weight s.weight;
  shares = s.shares;
  seen = s.seen;
}

-- the other half, which has added nothing yet
abbrev pub half_without : SeatView → SeatView
half_without s = record {
  ledger = s.ledger;
  weight = second_weight s.weight;
  shares = replicate (length s.shares) 0;
  seen = s.seen;
}

-- two seats in one
abbrev pub both_seats : SeatView → SeatView → SeatView
both_seats s t = record {
  ledger = s.ledger;
  weight = joined_weight s.weight t.weight;
  shares = added s.shares t.shares;
  seen = larger s.seen t.seen;
}

-- the seat's shares but for that of the spare word
abbrev pub totals_of : SeatView → List ℕ
totals_of s = drop 1 s.shares

-- nothing that the seat read is above the totals
abbrev pub ReadsAreIn : SeatView → List ℕ → Type 0
ReadsAreIn s totals = (link : ℕ) (kind : Kind) → seen_there s link kind ≤ counted_at totals link kind

-- ---- what stands in memory

-- the table of a ledger of so many links: five words for each and a spare one, no slots; its key is the number of words
abbrev pub IsLedger : ℕ → TableId → ℕ → Type 0
IsLedger links id key = (links ≤ most_links) × (id.words ≡ words_of links) × (id.slots ≡ 0) × (key ≡ words_of links)

-- a seat of so many words, of which the rule knows just what stands in memory
abbrev pub IsSeat : Me (Unit {0}) Holding → ℕ → ℕ → List ℕ → List ℕ → Type 0
IsSeat me words weight shares seen =
    (me ≡ (holding weight shares seen, []))
    × (length shares ≡ words)
    × (length seen ≡ words)
    × (1 ≤ weight)
    × (weight ≤ whole_weight)
    × AllSmall shares
