-- Rows that are put behind others.
use Rattle.std.proofs.Common.{◌≡◌, ◌∷◌, ◌++◌, [], ◌+◌, ◌-◌, ℕ, Bool, true, false, List, Option, Some, None, Ok, sym, ap, ◌∙◌}
use Rattle.std.proofs.Common.{length, length-append, slice_get, get_or, arith}
use Rattle.std.proofs.lemmas.Option.{slice_get-get_or, same_Some}
use Rattle.std.proofs.Math.Seq.{get_or-append_seam}
use Rattle.srm_member.specs.declared.row.Row.{Row}
use Rattle.srm_member.specs.Record.{Record}
use Rattle.srm_cell.specs.declared.cell.Cell.{Cell}
use Rattle.srm_cell.specs.declared.fault.CellFault.{CellFault}
use Rattle.srm_cell.specs.Cells.{own_step}
use Rattle.srm_cell.specs.Views.{Steps, plain_cell}
use Rattle.srm_cell.specs.PutRows.{PutsStep}
use Rattle.srm_engine.specs.declared.cells.Cells.{Cells}
use Rattle.srm_engine.specs.Seen.{AreSeen, TellsOwnStep, plain_cells}

-- what was put behind others is the last
pub last_is_put : {A : Type 0} (xs ys : List A) (x : A) → xs ≡ ys ++ x ∷ [] → slice_get xs (length xs - 1) ≡ Some x
last_is_put xs ys x is =
    let many : length xs ≡ length ys + 1 = ap length is ∙ length-append ys (x ∷ []) in
    let at : length xs - 1 ≡ length ys = omega arith in
    slice_get-get_or xs (length xs - 1) x (omega arith) ∙ ap Some ((λ i. get_or (is i) (at i) x) ∙ get_or-append_seam ys x [] x)

-- so it is what is read there
pub last_read : {A : Type 0} (xs ys : List A) (x y : A) → xs ≡ ys ++ x ∷ [] → Some y ≡ slice_get xs (length xs - 1) → x ≡ y
last_read xs ys x y is read = same_Some x y (sym (last_is_put xs ys x is) ∙ sym read)

module _ {M : Type 0} where
  -- where what a cell's step gives is so of all cells, it is so of the row that was put
  pub put_taken : (f : M → Record) (m till : ℕ) (old : Cells M) (c d : Cell M) (cs : List (Cell M)) (ts : List (Option ℕ))
      (b : Bool) (rows more : List Row)
      → ((row : Option Row) → Steps f till c (Ok row) d → (x : Cell M) → AreSeen f old.cells.items old.times
      → slice_get old.cells.items m ≡ Some x
      → TellsOwnStep f m (plain_cells f old.cells.items) (own_step till m (plain_cell f x)) (Ok row) cs ts)
      → PutsStep {E = CellFault} (λ r. Steps f till c r d) rows (Ok b) more
      → PutsStep {E = CellFault}
      (λ r. AreSeen f old.cells.items old.times → (x : Cell M) → slice_get old.cells.items m ≡ Some x
      → TellsOwnStep f m (plain_cells f old.cells.items) (own_step till m (plain_cell f x)) r cs ts) rows (Ok b) more
  put_taken f m till old c d cs ts false rows more so puts = ((λ h x at. so None puts.0 x h at), puts.1)
  put_taken f m till old c d cs ts true rows more so puts = (puts.0, (λ h x at. so (Some puts.0) puts.1 x h at), puts.2)
