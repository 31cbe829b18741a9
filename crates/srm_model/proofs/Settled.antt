-- The cells after a step, one by one, and after the steps of two members.
use Rattle.std.proofs.Common.{◌≡◌, ℕ, zero, suc, ◌+◌, cond, List, [], ◌∷◌, length, refl, sym, ap, ◌∙◌, subst, ◌≢◌, arith}
use Rattle.std.proofs.Common.{◌==◌, Option, Some, None}
use Rattle.std.proofs.Common.{option_map, slice_get, add-zero}
use Rattle.std.proofs.Common.{zero-add}
use Rattle.std.proofs.lemmas.Option.{same_Some}
use Rattle.srm_cell.proofs.CellLemmas.{stepped_map}
use Rattle.srm_cell.proofs.CellSteps.{SentBy, told_comm}
use Rattle.srm_cell.specs.Cells.{PlainCell, Stepped}
use Rattle.srm_cell.specs.OwnRuns.{told_to}
use Rattle.srm_cell.specs.Setting.{Setting}
use Rattle.srm_model.specs.World.{cells_after}

-- every cell is so
abbrev pub EachCell : (ℕ → PlainCell → Type 0) → List PlainCell → Type 0
EachCell Q cs = (j : ℕ) (c : PlainCell) → slice_get cs j ≡ Some c → Q j c

module _ (s : Setting) where
  -- ---- the cells after a step, one by one

  abbrev pub at_member : ℕ → Stepped → ℕ → PlainCell → PlainCell
  at_member m d k c = cond (k == m) d.cell (told_to s.traffic d.row.sent k c)

  pub get_settled : (m : ℕ) (d : Stepped) (i j : ℕ) (cs : List PlainCell)
      → slice_get (cells_after s m d i cs) j ≡ option_map (at_member m d (i + j)) (slice_get cs j)
  unfolding cells_after
  get_settled m d i j [] = refl
  get_settled m d i zero (c ∷ cs) = rw add-zero
  get_settled m d i (suc j) (c ∷ cs) = let e : i + suc j ≡ suc i + j = omega arith in rw e (get_settled m d (suc i) j cs)

  pub get_after : (m : ℕ) (d : Stepped) (j : ℕ) (cs : List PlainCell) → slice_get (cells_after s m d 0 cs) j
      ≡ option_map (at_member m d j) (slice_get cs j)
  get_after m d j cs = rw zero-add at (get_settled m d 0 j cs)

  -- what holds of the step's cell, and of every other after it heard what was sent, holds of each cell
  each_at : (Q : ℕ → PlainCell → Type 0) (m : ℕ) (d : Stepped) (j : ℕ) (b : PlainCell) → Q m d.cell
      → (j ≢ m → Q j (told_to s.traffic d.row.sent j b)) → Q j (at_member m d j b)
  each_at Q m d j b h g = grind arith

  each_some : (Q : ℕ → PlainCell → Type 0) (m : ℕ) (d : Stepped) (j : ℕ) (o : Option PlainCell) → Q m d.cell
      → ((b : PlainCell) → o ≡ Some b → j ≢ m → Q j (told_to s.traffic d.row.sent j b))
      → (c : PlainCell) → option_map (at_member m d j) o ≡ Some c → Q j c
  each_some Q m d j None h g c e = cc
  each_some Q m d j (Some b) h g c e = subst (Q j) (same_Some _ _ e) (each_at Q m d j b h (g b refl))

  pub each_after : (Q : ℕ → PlainCell → Type 0) (cs : List PlainCell) (m : ℕ) (d : Stepped) → Q m d.cell
      → ((j : ℕ) (c : PlainCell) → slice_get cs j ≡ Some c → j ≢ m → Q j (told_to s.traffic d.row.sent j c))
      → (j : ℕ) (c : PlainCell) → slice_get (cells_after s m d 0 cs) j ≡ Some c → Q j c
  each_after Q cs m d h g j c e = each_some Q m d j (slice_get cs j) h (g j) c (sym (get_after m d j cs) ∙ e)

  pub length_after : (m : ℕ) (d : Stepped) (i : ℕ) (cs : List PlainCell) → length (cells_after s m d i cs) ≡ length cs
  unfolding cells_after
  length_after m d i [] = refl
  length_after m d i (c ∷ cs) = ap suc (length_after m d (suc i) cs)

  module _ (a b : ℕ) (ne : a ≢ b) (da db : Stepped) (ha : SentBy a da.row.sent) (hb : SentBy b db.row.sent) where
    abbrev pub a_later : Stepped
    a_later = stepped_map (told_to s.traffic db.row.sent a) da

    abbrev pub b_later : Stepped
    b_later = stepped_map (told_to s.traffic da.row.sent b) db

    swap_at : (i : ℕ) (c : PlainCell) → at_member b b_later i (at_member a da i c) ≡ at_member a a_later i (at_member b db i c)
    swap_at i c = grind (arith, told_comm)

    pub swap_cells : (i : ℕ) (cs : List PlainCell) → cells_after s b b_later i (cells_after s a da i cs)
        ≡ cells_after s a a_later i (cells_after s b db i cs)
    unfolding cells_after
    swap_cells i [] = refl
    swap_cells i (c ∷ cs) = λ j. swap_at i c j ∷ swap_cells (suc i) cs j
