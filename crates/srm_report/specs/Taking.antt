-- What takes in rows, after those before, and how that composes over calls.
use Rattle.std.specs.Prelude.{List, [], ◌++◌}
use Rattle.std.proofs.Common.{sym, subst, append_assoc, append-nil}
use Rattle.srm_member.specs.declared.row.Row.{Row}

-- of what a value has of rows
module _ {S : Type 0} (has : List Row → S → Type 0) where
  -- between these two values exactly these rows were taken in, after those before
  abbrev pub TakesIn : S → List Row → S → Type 0
  TakesIn a rows b = (before : List Row) → has before a → has (before ++ rows) b

  pub takes_none : (a : S) → TakesIn a [] a
  takes_none a before h = subst (λ (l : List Row). has l a) (sym (append-nil before)) h

  pub takes_more : (a b c : S) (xs ys : List Row) → TakesIn a xs b → TakesIn b ys c → TakesIn a (xs ++ ys) c
  takes_more a b c xs ys h k before was =
      subst (λ (l : List Row). has l c) (append_assoc before xs ys) (k (before ++ xs) (h before was))
