-- Rows that are put behind others.
use Rattle.std.proofs.Common.{◌≡◌, ◌∷◌, ◌++◌, [], ℕ, ◌-◌, ◌<◌, List, Option, Some, Result, Ok, Err}
use Rattle.std.proofs.Common.{sym, subst, length, slice_index_or, arith}
use Rattle.std.specs.Result.{OnOk, IfErr}
use Rattle.srm_member.specs.declared.row.Row.{Row}
use Rattle.srm_cell.specs.declared.fault.CellFault.{CellFault}
use Rattle.srm_cell.specs.declared.fault.CellFault.TheVariants as fault
use Rattle.srm_cell.specs.PutRows.{PutsRow}

-- the row is put behind the others, or there was no memory for it
pub row_is_put : (P : Result Row CellFault → Type 0) (old new : List Row) (row : Row) (r : Result (Unit {0}) CellFault)
    → OnOk r (new ≡ old ++ row ∷ []) → IfErr r (λ e. e ≡ fault.NoMemory) → P (Ok row) → P (Err fault.NoMemory)
    → PutsRow P old r new
row_is_put P old new row (Ok u) put none ok refused = (row, ok, put)
row_is_put P old new row (Err e) put none ok refused = subst (λ x. P (Err x)) (sym none) refused

-- of one row alone that is the last of so many
pub last_is : (xs : List Row) (n : ℕ) (row : Row) (o : Option Row) → xs ≡ row ∷ [] → n ≡ length xs
    → (0 < n → o ≡ Some (slice_index_or xs (n - 1) row)) → o ≡ Some row
last_is xs n row o is many last = grind arith
