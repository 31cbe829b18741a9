-- What a call knows of the table that a seat belongs to.
use Rattle.std.proofs.Common.{◌≡◌, ℕ, ◌+◌, ◌%◌, ◌^◌, sym, ap, ◌∙◌}
use mathlib.Core.Option.{none}
use Rattle.atomic_table.specs.Table.{Me, Allows, step}
use Rattle.srm_ledger.specs.declared.rule.Holding.{Holding}
use Rattle.srm_ledger.specs.Tally.{Tallied, adds, reads}
use Rattle.srm_ledger.specs.Seats.{LedgerView, SeatView}

-- a seat of a ledger is a seat of its table
pub same_table : {s seat : SeatView} {l ledger : LedgerView} → s ≡ seat → seat.ledger ≡ ledger.name → l ≡ ledger
    → s.ledger ≡ l.name
same_table seen is here = ap (λ s. s.ledger) seen ∙ is ∙ sym (ap (λ l. l.name) here)

-- that the seat may add d to word k, and read word k, in a table of n words
abbrev pub MayAdd : ℕ → ℕ → ℕ → ℕ → ℕ → Me (Unit {0}) Holding → Type 0
MayAdd n slots id k d m = Allows (Tallied n) slots id m k (λ x. (x + d) % 2 ^ 64) (adds (step slots k d 0 none) m)

abbrev pub MayRead : ℕ → ℕ → ℕ → ℕ → Me (Unit {0}) Holding → Type 0
MayRead n slots id k m = Allows (Tallied n) slots id m k (λ x. x) (reads (step slots k 0 0 none) m)
