-- Lists of five numbers, joined.
use Rattle.std.proofs.Common.{◌≡◌, ℕ, zero, suc, ◌+◌, ◌*◌, ◌-◌, ◌<◌, List, [], ◌∷◌, ◌++◌, length, refl, ap, ◌∙◌, arith, slice_index}
use Rattle.std.proofs.Common.{slice_index_or, All, length-append, zero-add}
use Rattle.std.specs.List.{concat}
use Rattle.std.proofs.lemmas.List.{get_or_append_left, get_or-append_right}

-- each list has five numbers
abbrev pub FiveEach : List (List ℕ) → Type 0
FiveEach ls = All (λ ns. length ns ≡ 5) ls

first_five : (x : List ℕ) (ls : List (List ℕ)) → FiveEach (x ∷ ls) → length x ≡ 5
first_five x ls h = h 0 [] (omega arith)

rest_five : (x : List ℕ) (ls : List (List ℕ)) → FiveEach (x ∷ ls) → FiveEach ls
rest_five x ls h = λ k d lt. h (suc k) d (omega arith)

pub length_joined : (ls : List (List ℕ)) → FiveEach ls → length (concat ls) ≡ 5 * length ls
length_joined [] h = refl
length_joined (x ∷ ls) h =
    let first = first_five x ls h in
    let rest = length_joined ls (rest_five x ls h) in
    let joined = length-append x (concat ls) in
    omega arith

pub index_joined : (ls : List (List ℕ)) → FiveEach ls → (i j : ℕ) (d : List ℕ) → i < length ls → j < 5
    → slice_index (concat ls) (5 * i + j) ≡ slice_index (slice_index_or ls i d) j
index_joined [] h i j d li lj = absurd (omega arith)
index_joined (x ∷ ls) h zero j d li lj =
    let first = first_five x ls h in ap (slice_index (x ++ concat ls)) (zero-add j) ∙ get_or_append_left x (concat ls) 0 j (omega arith)
index_joined (x ∷ ls) h (suc i) j d li lj =
    get_or-append_right x (concat ls) 5 (5 * suc i + j) 0 (first_five x ls h) (omega arith)
    ∙ ap (slice_index (concat ls)) (less i j)
    ∙ index_joined ls (rest_five x ls h) i j d (omega arith) lj
  where
    less : (i j : ℕ) → 5 * suc i + j - 5 ≡ 5 * i + j
    less i j = omega arith
