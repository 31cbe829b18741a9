-- What a call tells of its value, where that is kept and the refusal is not.
use Rattle.std.proofs.Common.{◌≡◌, ◌∙◌, Bool, true, List, Option, Result, Ok, Err, ap, sym, subst}
use Rattle.std.specs.Prelude.{IfSome, MatchResult, if◌then◌else◌}
use Rattle.std.specs.Result.{result_ok}

-- what holds of the value that is answered holds of the one that is kept
pub kept : {T E : Type 0} (P : T → Type 0) (Q : E → Type 0) (r : Result T E) (o : Option T) → o ≡ result_ok r → MatchResult r P Q
    → IfSome o P
kept {T} P Q (Ok v) o is h = subst (λ (k : Option T). IfSome k P) (sym is) h
kept {T} P Q (Err e) o is h = subst (λ (k : Option T). IfSome k P) (sym is) tt

-- a list that was to be longer is so
pub pushed : {A : Type 0} (answered : Bool) (new more old : List A) → new ≡ (if answered then more else old) → true ≡ answered
    → new ≡ more
pushed answered new more old is told = is ∙ ap (λ (b : Bool). if b then more else old) (sym told)
