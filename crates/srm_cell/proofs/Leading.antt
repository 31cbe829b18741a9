-- The first steps of an own run.
use Rattle.std.proofs.Common.{◌≡◌, ℕ, suc, ◌+◌, List, [], ◌∷◌, ◌++◌, sym, ap, ◌∙◌, arith, append_assoc, append-nil, Err, refl, subst}
use Rattle.srm_member.specs.Record.{Record}
use Rattle.srm_member.specs.declared.row.Row.{Row}
use Rattle.srm_cell.specs.declared.cell.Cell.{Cell}
use Rattle.srm_cell.specs.declared.fault.CellFault.{CellFault}
use Rattle.srm_cell.specs.declared.fault.CellFault.TheVariants as fault
use Rattle.srm_cell.specs.Cells.{PlainCell, StepOutcome, Idle, Full, Spent, Done, Stepped, own_step}
use Rattle.srm_cell.specs.OwnRuns.{own_rows, own_end, own_after, IsOwnRun}
use Rattle.srm_cell.specs.Views.{Refuses, HasWork, plain_cell}
use Rattle.srm_cell.specs.Jobs.{TellsRun}
use Rattle.srm_cell.proofs.OwnRunLemmas.{end_now, end_done, idle_ends, spent_ends, rows_none, rows_done, after_none, after_done}

-- the own run has these rows first, and is that of q from there on
pub record Leads (till m : ℕ) (p : PlainCell) (rows : List Row) (q : PlainCell) : Type 0 where
  pub steps : ℕ
  pub ends : (k : ℕ) → own_end till m (steps + k) p ≡ own_end till m k q
  pub rows_are : (k : ℕ) → own_rows till m (steps + k) p ≡ rows ++ own_rows till m k q
  pub leaves : (k : ℕ) → own_after till m (steps + k) p ≡ own_after till m k q

module _ (till m : ℕ) where
  pub leads_none : (p : PlainCell) → Leads till m p [] p
  leads_none p = grind arith

  pub leads_more : (p q : PlainCell) (rows : List Row) (d : Stepped) → Leads till m p rows q → own_step till m q ≡ Done d
      → Leads till m p (rows ++ d.row ∷ []) d.cell
  leads_more p q rows d l e = record {
    steps = suc l.steps;
    ends = λ k. ap (λ n. own_end till m n p) (shift l.steps k) ∙ l.ends (suc k) ∙ end_done till m k q d e;
    rows_are = λ k. ap (λ n. own_rows till m n p) (shift l.steps k) ∙ l.rows_are (suc k) ∙ ap (λ rs. rows ++ rs) (rows_done till m k q d e)
        ∙ sym (append_assoc rows (d.row ∷ []) (own_rows till m k d.cell));
    leaves = λ k. ap (λ n. own_after till m n p) (shift l.steps k) ∙ l.leaves (suc k) ∙ after_done till m k q d e;
  }
    where
      shift : (n k : ℕ) → suc n + k ≡ n + suc k
      shift n k = omega arith

  -- what the last step of the own run gives
  pub leads_to : (p q : PlainCell) (rows : List Row) (o : StepOutcome Stepped) → (l : Leads till m p rows q) → own_step till m q ≡ o
      → own_end till m (l.steps + 0) p ≡ o
  leads_to p q rows o l e = l.ends 0 ∙ end_now till m q ∙ e

  pub leads_all : (p q : PlainCell) (rows : List Row) → Leads till m p rows q → own_step till m q ≡ Idle → IsOwnRun till m p rows q
  leads_all p q rows l e = record {
    steps = l.steps + 0;
    ends = leads_to p q rows Idle l e;
    rows_are = sym (l.rows_are 0 ∙ ap (λ rs. rows ++ rs) (rows_none till m q) ∙ append-nil rows);
    leaves = sym (l.leaves 0 ∙ after_none till m q);
  }

  -- where a later step has work, the first has
  pub leads_work : (p q : PlainCell) (rows : List Row) → Leads till m p rows q → HasWork (own_step till m q) → HasWork (own_step till m p)
  leads_work p q rows l h = by (own_step till m p) refl
    where
      by : (o : StepOutcome Stepped) → own_step till m p ≡ o → HasWork o
      by Idle e = subst HasWork (sym (leads_to p q rows (own_step till m q) l refl) ∙ idle_ends till m (l.steps + 0) p e) h
      by Full e = tt
      by Spent e = subst HasWork (sym (leads_to p q rows (own_step till m q) l refl) ∙ spent_ends till m (l.steps + 0) p e) h
      by (Done d) e = tt

module _ {M : Type 0} (till : ℕ) (f : M → Record) (c : Cell M) where
  pub leads_fault : (q : PlainCell) (rows : List Row) (x : CellFault) (after : Cell M)
      → Leads till c.number (plain_cell f c) rows q → Refuses (own_step till c.number q) x → TellsRun f till c (Err x) after
  leads_fault q rows fault.NoMemory after l h = leads_work till c.number (plain_cell f c) q rows l h
  leads_fault q rows fault.Spent after l h = (l.steps + 0, leads_to till c.number (plain_cell f c) q rows Spent l h)
  leads_fault q rows fault.CountFull after l h = (l.steps + 0, leads_to till c.number (plain_cell f c) q rows Full l h)
