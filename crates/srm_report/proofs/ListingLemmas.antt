-- Tables that list rows, row by row.
use Rattle.std.proofs.Common.{◌≡◌, ◌∙◌, ℕ, suc, ◌<◌, ◌+◌, List, [], ◌∷◌, ◌++◌}
use Rattle.std.proofs.Common.{length, get_or, take, drop, fold, refl, ap, sym, append_assoc, add-one, drop-cons, take-append-drop}
use Rattle.std.proofs.lemmas.List.{take_more}
use Rattle.std.proofs.lemmas.Grind.{flat_map-append}
use Rattle.srm_member.specs.declared.row.Row.{Row}
use Rattle.srm_report.specs.KeptLines.{line_behind, lines_of}
use Rattle.srm_report.specs.Listings.{Form, lines_in}

-- the lines of rows from a place on, with those of the row there before the others
pub lines-from : (f : Form) (rows : List Row) (i : ℕ) (r : Row) → i < length rows → r ≡ get_or rows i r
    → lines_in f (drop i rows) ≡ f.line r ++ lines_in f (drop (i + 1) rows)
lines-from f rows i r h e = rw (add-one, drop-cons rows i r) (ap (λ q. f.line q ++ lines_in f (drop (suc i) rows)) (sym e))

-- the lines of the first rows, and of the others
pub lines-cut : (f : Form) (rows : List Row) (i : ℕ) → lines_in f (take i rows) ++ lines_in f (drop i rows) ≡ lines_in f rows
lines-cut f rows i = sym (flat_map-append f.line (take i rows) (drop i rows)) ∙ ap (lines_in f) (take-append-drop i rows)

fold_push : {A B : Type 0} (g : B → A → B) (b : B) (xs : List A) (x : A) → fold g b (xs ++ x ∷ []) ≡ g (fold g b xs) x
fold_push g b [] x = refl
fold_push g b (y ∷ xs) x = fold_push g (g b y) xs x

-- lines that are kept, with that of the next row
pub kept-more : (f : Form) (before rows : List Row) (i : ℕ) (r : Row) (old new : List (ℕ × List ℕ)) → i < length rows
    → r ≡ get_or rows i r → old ≡ lines_of f (before ++ take i rows) → new ≡ line_behind old r.key.time (f.line r)
    → new ≡ lines_of f (before ++ take (i + 1) rows)
kept-more f before rows i r old new h e was grown =
    let one : take (i + 1) rows ≡ take i rows ++ r ∷ [] = take_more rows i r h ∙ ap (λ q. take i rows ++ q ∷ []) (sym e) in
    grown
    ∙ ap (λ own. line_behind own r.key.time (f.line r)) was
    ∙ sym (fold_push (λ own (q : Row). line_behind own q.key.time (f.line q)) [] (before ++ take i rows) r)
    ∙ ap (lines_of f) (append_assoc before (take i rows) (r ∷ []) ∙ ap (λ l. before ++ l) (sym one))
