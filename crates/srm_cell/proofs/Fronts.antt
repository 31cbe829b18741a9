-- Lists of which the first elements were changed.
use Rattle.std.proofs.Common.{◌≡◌, ◌∙◌, ◌<◌, ◌+◌, ◌++◌, ◌∷◌, ℕ, List, length, take, drop, get_or, sym, ap, take-append-drop}
use Rattle.std.proofs.lemmas.List.{drop_more}

-- lists that are the same from a place on have the same there, and after it
pub at_front : {A : Type 0} (xs ys : List A) (i : ℕ) (d : A) → i < length xs → i < length ys → drop i xs ≡ drop i ys
    → get_or xs i d ≡ get_or ys i d
at_front xs ys i d lt less h =
    sym (ap (λ l. get_or l 0 d) (drop_more xs i d lt)) ∙ ap (λ l. get_or l 0 d) h ∙ ap (λ l. get_or l 0 d) (drop_more ys i d less)

pub after_front : {A : Type 0} (xs ys : List A) (i : ℕ) (d : A) → i < length xs → i < length ys → drop i xs ≡ drop i ys
    → drop (i + 1) xs ≡ drop (i + 1) ys
after_front xs ys i d lt less h =
    sym (ap (drop 1) (drop_more xs i d lt)) ∙ ap (drop 1) h ∙ ap (drop 1) (drop_more ys i d less)

-- a list about one of its elements
pub about_one : {A : Type 0} (xs : List A) (i : ℕ) (d : A) → i < length xs → take i xs ++ get_or xs i d ∷ drop (i + 1) xs ≡ xs
about_one xs i d lt = ap (λ l. take i xs ++ l) (sym (drop_more xs i d lt)) ∙ take-append-drop i xs
