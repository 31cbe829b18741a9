-- Rows that are put behind others, where P is what is so of a call that gives the row.
use Rattle.std.specs.Prelude.{◌≡◌, Bool, true, false, List, [], ◌∷◌, ◌++◌, Option, Some, None, Result, Ok, Err}
use Rattle.srm_member.specs.declared.row.Row.{Row}

module _ {E : Type 0} where
  -- one row is put behind them, of which P is so; or why there is none
  abbrev pub PutsRow : (Result Row E → Type 0) → List Row → Result (Unit {0}) E → List Row → Type 0
  PutsRow P old (Ok u) new = (row : Row) × P (Ok row) × (new ≡ old ++ row ∷ [])
  PutsRow P old (Err e) new = P (Err e)

  -- one row is put behind them, of which P is so; or there is none, and they are as they were; or why there is none
  abbrev pub PutsStep : (Result (Option Row) E → Type 0) → List Row → Result Bool E → List Row → Type 0
  PutsStep P old (Ok false) new = P (Ok None) × (new ≡ old)
  PutsStep P old (Ok true) new = (row : Row) × P (Ok (Some row)) × (new ≡ old ++ row ∷ [])
  PutsStep P old (Err e) new = P (Err e)
