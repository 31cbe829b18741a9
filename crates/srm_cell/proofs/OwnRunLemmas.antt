-- Own runs, step by step.
use Rattle.std.proofs.Common.{arith}
use Rattle.std.proofs.Common.{◌≡◌, ℕ, zero, suc, List, [], ◌∷◌, refl, sym, ap, ◌∙◌, ◌⊎◌, inl, inr}
use Rattle.srm_member.specs.declared.row.Row.{Row}
use Rattle.srm_cell.specs.Cells.{PlainCell, StepOutcome, Idle, Full, Spent, Done, Stepped, own_step}
use Rattle.srm_cell.specs.OwnRuns.{own_rows, own_end, own_after}
use Rattle.srm_cell.specs.Laws.{OwnRunsAreOne}

module _ (till m : ℕ) where
  -- ---- the first step

  abbrev pub end_by : ℕ → StepOutcome Stepped → StepOutcome Stepped
  end_by n o = elim o [ Idle ↦ Idle | Full ↦ Full | Spent ↦ Spent | Done d ↦ own_end till m n d.cell ]

  pub end_first : (n : ℕ) (c : PlainCell) → own_end till m (suc n) c ≡ end_by n (own_step till m c)
  unfolding own_end
  end_first n c = refl

  pub end_now : (c : PlainCell) → own_end till m zero c ≡ own_step till m c
  unfolding own_end
  end_now c = refl

  abbrev pub rows_by : ℕ → StepOutcome Stepped → List Row
  rows_by n o = elim o [ Idle ↦ [] | Full ↦ [] | Spent ↦ [] | Done d ↦ d.row ∷ own_rows till m n d.cell ]

  pub rows_first : (n : ℕ) (c : PlainCell) → own_rows till m (suc n) c ≡ rows_by n (own_step till m c)
  unfolding own_rows
  rows_first n c = refl

  pub rows_none : (c : PlainCell) → own_rows till m zero c ≡ []
  unfolding own_rows
  rows_none c = refl

  abbrev pub after_by : ℕ → PlainCell → StepOutcome Stepped → PlainCell
  after_by n c o = elim o [ Idle ↦ c | Full ↦ c | Spent ↦ c | Done d ↦ own_after till m n d.cell ]

  pub after_first : (n : ℕ) (c : PlainCell) → own_after till m (suc n) c ≡ after_by n c (own_step till m c)
  unfolding own_after
  after_first n c = refl

  pub after_none : (c : PlainCell) → own_after till m zero c ≡ c
  unfolding own_after
  after_none c = refl

  -- ---- after a step that is made

  pub end_done : (n : ℕ) (c : PlainCell) (d : Stepped) → own_step till m c ≡ Done d → own_end till m (suc n) c ≡ own_end till m n d.cell
  end_done n c d e = end_first n c ∙ ap (end_by n) e

  pub rows_done : (n : ℕ) (c : PlainCell) (d : Stepped) → own_step till m c
      ≡ Done d → own_rows till m (suc n) c ≡ d.row ∷ own_rows till m n d.cell
  rows_done n c d e = rows_first n c ∙ ap (rows_by n) e

  pub after_done : (n : ℕ) (c : PlainCell) (d : Stepped) → own_step till m c ≡ Done d
      → own_after till m (suc n) c ≡ own_after till m n d.cell
  after_done n c d e = after_first n c ∙ ap (after_by n c) e

  -- ---- where the first step is the last

  pub idle_ends : (n : ℕ) (c : PlainCell) → own_step till m c ≡ Idle → own_end till m n c ≡ Idle
  idle_ends zero c e = end_now c ∙ e
  idle_ends (suc n) c e = end_first n c ∙ ap (end_by n) e

  pub spent_ends : (n : ℕ) (c : PlainCell) → own_step till m c ≡ Spent → own_end till m n c ≡ Spent
  spent_ends zero c e = end_now c ∙ e
  spent_ends (suc n) c e = end_first n c ∙ ap (end_by n) e

  -- ---- where nothing is pending

  pub rows_idle : (n : ℕ) (c : PlainCell) → own_step till m c ≡ Idle → own_rows till m n c ≡ []
  rows_idle zero c e = rows_none c
  rows_idle (suc n) c e = rows_first n c ∙ ap (rows_by n) e

  pub after_idle : (n : ℕ) (c : PlainCell) → own_step till m c ≡ Idle → own_after till m n c ≡ c
  after_idle zero c e = after_none c
  after_idle (suc n) c e = after_first n c ∙ ap (after_by n c) e

  -- ---- an own run has one result

  -- the step of an own run that ends is made, or nothing is pending
  pub first_of_run : (n : ℕ) (c : PlainCell) (o : StepOutcome Stepped) → own_step till m c ≡ o → own_end till m n c ≡ Idle → (o ≡ Idle)
      ⊎ ((d : Stepped) × (k : ℕ) × (o ≡ Done d) × (n ≡ suc k) × (own_end till m k d.cell ≡ Idle))
  first_of_run zero c o e h = inl (sym e ∙ sym (end_now c) ∙ h)
  first_of_run (suc n) c Idle e h = inl refl
  first_of_run (suc n) c Full e h = let x : Full ≡ Idle = sym (ap (end_by n) e) ∙ sym (end_first n c) ∙ h in cc
  first_of_run (suc n) c Spent e h = let x : Spent ≡ Idle = sym (ap (end_by n) e) ∙ sym (end_first n c) ∙ h in cc
  first_of_run (suc n) c (Done d) e h = inr (d, n, refl, refl, sym (end_done n c d e) ∙ h)

  pub same_run : (n k : ℕ) (c : PlainCell) → own_end till m n c ≡ Idle → own_end till m k c ≡ Idle
      → (own_rows till m n c ≡ own_rows till m k c) × (own_after till m n c ≡ own_after till m k c)
  same_run zero k c h g =
      let e : own_step till m c ≡ Idle = sym (end_now c) ∙ h in
      (rows_idle 0 c e ∙ sym (rows_idle k c e), after_idle 0 c e ∙ sym (after_idle k c e))
  same_run (suc n) k c h g = elim (first_of_run k c (own_step till m c) refl g) [
    | inl e ↦ (rows_idle (suc n) c e ∙ sym (rows_idle k c e), after_idle (suc n) c e ∙ sym (after_idle k c e))
    | inr f ↦
        let d = f.0 in
        let e : own_step till m c ≡ Done d = f.2 in
        let r = same_run n f.1 d.cell (sym (end_done n c d e) ∙ h) f.4 in (
          rows_done n c d e ∙ ap (λ rs. d.row ∷ rs) r.0 ∙ sym (ap (λ x. own_rows till m x c) f.3 ∙ rows_done f.1 c d e),
          after_done n c d e ∙ r.1 ∙ sym (ap (λ x. own_after till m x c) f.3 ∙ after_done f.1 c d e),
        )
  ]

pub own_runs_are_one : OwnRunsAreOne
own_runs_are_one till m c qs rs d e q r = grind (arith, same_run)
