-- Own runs of cells, taken one after the other: what is so after the first of them.
use Rattle.std.proofs.Common.{◌≡◌, ℕ, List, [], ◌∷◌, ◌++◌, Err, sym, subst, inl, inr, ◌≢◌, ◌∙◌, ◌<◌, length}
use Rattle.std.proofs.Common.{arith}
use Rattle.srm_member.specs.Record.{Record}
use Rattle.srm_member.specs.declared.row.Row.{Row}
use Rattle.srm_cell.specs.declared.cell.Cell.{Cell}
use Rattle.srm_cell.specs.declared.fault.CellFault.{CellFault}
use Rattle.srm_cell.specs.declared.fault.CellFault.TheVariants as fault
use Rattle.srm_cell.specs.Cells.{PlainCell, StepOutcome, Idle, Full, Spent, Stepped, own_step}
use Rattle.srm_cell.specs.OwnRuns.{IsOwnRun}
use Rattle.srm_cell.specs.Views.{plain_cell, HasWork}
use Rattle.srm_cell.proofs.OwnRunLemmas.{spent_ends}
use Rattle.srm_cell.specs.Jobs.{FirstEnds, AskMemory, RanAlone, RanEach, TellsRun, TellsFault, own_cells}

pub ran_asks : (till m : ℕ) (c : PlainCell) (rows : List Row) (d : PlainCell) → IsOwnRun till m c rows d → own_step till m c ≢ Spent
ran_asks till m c rows d r e = let x : Idle ≡ Spent = sym r.ends ∙ spent_ends till m r.steps c e in cc

module _ {M : Type 0} (f : M → Record) (till : ℕ) where
  -- one cell more
  pub ran_more : (cs : List (Cell M)) (rows : List (List Row)) (ds : List (Cell M)) (c : Cell M) (new : List Row) (d : Cell M)
      → RanEach f till cs rows ds → RanAlone f till c new d → RanEach f till (cs ++ c ∷ []) (rows ++ new ∷ []) (ds ++ d ∷ [])
  ran_more [] [] [] c new d h r = (r, tt)
  ran_more [] [] (b ∷ ds) c new d h r = absurd h
  ran_more [] (y ∷ rows) ds c new d h r = absurd h
  ran_more (a ∷ cs) [] ds c new d h r = absurd h
  ran_more (a ∷ cs) (y ∷ rows) [] c new d h r = absurd h
  ran_more (a ∷ cs) (y ∷ rows) (b ∷ ds) c new d h r = (h.0, ran_more cs rows ds c new d h.1 r)

  -- what ends the runs of those that are left ends the runs of all
  pub ends_after : (cs : List (Cell M)) (rows : List (List Row)) (ds left : List (Cell M)) (o : StepOutcome Stepped)
      → RanEach f till cs rows ds → FirstEnds o till (own_cells f left) → FirstEnds o till (own_cells f (cs ++ left))
  ends_after [] [] [] left o h e = e
  ends_after [] [] (b ∷ ds) left o h e = absurd h
  ends_after [] (y ∷ rows) ds left o h e = absurd h
  ends_after (a ∷ cs) [] ds left o h e = absurd h
  ends_after (a ∷ cs) (y ∷ rows) [] left o h e = absurd h
  ends_after (a ∷ cs) (y ∷ rows) (b ∷ ds) left o h e = inr ((h.0.run.steps, h.0.run.ends), ends_after cs rows ds left o h.1 e)

  -- where the first of those that are left asks for memory, so does the first of all
  pub asks_after : (cs : List (Cell M)) (rows : List (List Row)) (ds left : List (Cell M))
      → RanEach f till cs rows ds → AskMemory till (own_cells f left) → AskMemory till (own_cells f (cs ++ left))
  asks_after [] [] [] left h e = e
  asks_after [] [] (b ∷ ds) left h e = absurd h
  asks_after [] (y ∷ rows) ds left h e = absurd h
  asks_after (a ∷ cs) [] ds left h e = absurd h
  asks_after (a ∷ cs) (y ∷ rows) [] left h e = absurd h
  asks_after (a ∷ cs) (y ∷ rows) (b ∷ ds) left h e = ran_asks till a.number (plain_cell f a) y (plain_cell f b) h.0.run

  -- where rows were kept there was a cell
  pub each_asks : (cs : List (Cell M)) (rows : List (List Row)) (ds : List (Cell M)) → RanEach f till cs rows ds
      → 0 < length rows → AskMemory till (own_cells f cs)
  each_asks [] [] ds h lt = absurd (omega arith)
  each_asks [] (y ∷ rows) ds h lt = absurd h
  each_asks (a ∷ cs) [] ds h lt = absurd (omega arith)
  each_asks (a ∷ cs) (y ∷ rows) [] h lt = absurd h
  each_asks (a ∷ cs) (y ∷ rows) (b ∷ ds) h lt = ran_asks till a.number (plain_cell f a) y (plain_cell f b) h.0.run

  -- what was run is kept in memory
  pub kept_after : (cs : List (Cell M)) (rows : List (List Row)) (ds : List (Cell M)) (c : Cell M) (new : List Row) (d : Cell M)
      (left : List (Cell M)) → RanEach f till cs rows ds → RanAlone f till c new d → AskMemory till (own_cells f (cs ++ c ∷ left))
  kept_after cs rows ds c new d left h r =
      asks_after cs rows ds (c ∷ left) h (ran_asks till c.number (plain_cell f c) new (plain_cell f d) r.run)

  pub fault_after : (cs : List (Cell M)) (rows : List (List Row)) (ds : List (Cell M)) (c d : Cell M) (left : List (Cell M))
      (e : CellFault) → RanEach f till cs rows ds → TellsRun f till c (Err e) d → TellsFault till (own_cells f (cs ++ c ∷ left)) e
  fault_after cs rows ds c d left fault.NoMemory h r = asks_after cs rows ds (c ∷ left) h (λ q. subst HasWork q r)
  fault_after cs rows ds c d left fault.Spent h r = ends_after cs rows ds (c ∷ left) Spent h (inl r)
  fault_after cs rows ds c d left fault.CountFull h r = ends_after cs rows ds (c ∷ left) Full h (inl r)
