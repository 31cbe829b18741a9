-- A list after a push that succeeded, and what refusals tell.
use Rattle.std.proofs.Common.{◌≡◌, false, cond, List, Result, Ok, Err, true≢false}
use Rattle.std.specs.Result.{is_ok, is_err, IfErr}

pub pushed_if : {A E : Type 0} {B : Type 0} (r : Result A E) (xs ys zs : List B) → is_err r ≡ false → zs ≡ cond (is_ok r) xs ys → zs ≡ xs
pushed_if (Ok x) xs ys zs e h = h
pushed_if (Err x) xs ys zs e h = absurd (true≢false e)

-- what is so anyway is so where a call was refused
pub if_err : {A E : Type 0} (r : Result A E) (P : Type 0) → P → IfErr r (λ _. P)
if_err (Ok x) P h = tt
if_err (Err x) P h = h
