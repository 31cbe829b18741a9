-- Parts of a text, read at a place, and a line put behind them.
use Rattle.std.proofs.Common.{◌≡◌, ◌≢◌, refl, ◌∙◌, ℕ, zero, suc, List, [], ◌∷◌, ◌++◌, ◌<◌, ◌≤◌, ◌-◌, ◌+◌, take, drop, length, sym}
use Rattle.std.proofs.Common.{subst, ap, set, cond, ◌==◌, false, eq-eqb, ◌⊎◌, inl, inr}
use Rattle.std.proofs.Common.{arith}
use Rattle.std.proofs.Math.Seq.{drop-append_seam, take-length}
use Rattle.std.proofs.lemmas.List.{drop-append-le, take-append-le, length-drop}
use Rattle.std.proofs.Common.{length-append}
use Rattle.std.proofs.Math.ListN.{get_or}
use Rattle.srm_report.specs.declared.listing.lines.LineEnd.{LineEnd}
use Rattle.srm_report.specs.KeptLines.{cut_from, AreEnds, line_behind, start_at}

pub as_many_lines : (start : ℕ) (text : List ℕ) (es : List LineEnd) → length (cut_from start text es) ≡ length es
unfolding cut_from
as_many_lines start text [] = refl
as_many_lines start text (e ∷ es) = ap suc (as_many_lines e.end text es)

pub line_at : (start : ℕ) (text : List ℕ) (es : List LineEnd) (i : ℕ) (d : ℕ × List ℕ) (e : LineEnd) → i < length es
    → get_or (cut_from start text es) i d
    ≡ ((get_or es i e).time, take ((get_or es i e).end - start_at start i es) (drop (start_at start i es) text))
unfolding cut_from
line_at start text [] i d e lt = absurd (omega arith)
line_at start text (x ∷ es) zero d e lt = refl
line_at start text (x ∷ es) (suc i) d e lt = line_at x.end text es i d e (omega arith)

pub line_bounds : (start n : ℕ) (es : List LineEnd) (i : ℕ) (e : LineEnd) → AreEnds start n es → i < length es
    → (start_at start i es ≤ (get_or es i e).end) × ((get_or es i e).end ≤ n)
unfolding AreEnds
line_bounds start n [] i e h lt = absurd (omega arith)
line_bounds start n (x ∷ es) zero e h lt = (h.0, h.1)
line_bounds start n (x ∷ es) (suc i) e h lt = line_bounds x.end n es i e h.2 (omega arith)

pub start_is : (start : ℕ) (es : List LineEnd) (i : ℕ) (e : LineEnd) → i < length es → (get_or es i e).end ≡ start_at start (suc i) es
start_is start [] i e lt = absurd (omega arith)
start_is start (x ∷ es) zero e lt = refl
start_is start (x ∷ es) (suc i) e lt = start_is x.end es i e (omega arith)

pub start_before : (start : ℕ) (es : List LineEnd) (i : ℕ) (e : LineEnd) → i ≢ 0 → i ≤ length es
    → (get_or es (i - 1) e).end ≡ start_at start i es
start_before start es zero e ne le = absurd (ne refl)
start_before start es (suc i) e ne le =
    let one : suc i - 1 ≡ i = omega arith in
    ap (λ (k : ℕ). (get_or es k e).end) one ∙ start_is start es i e (omega arith)

-- ---- one more line

-- a line within the old text
kept_line : (text more : List ℕ) (s e : ℕ) → s ≤ e → e ≤ length text
    → take (e - s) (drop s (text ++ more)) ≡ take (e - s) (drop s text)
kept_line text more s e h k =
    let a : s ≤ length text = omega arith in
    let l : length (drop s text) ≡ length text - s = length-drop s text in
    let b : e - s ≤ length (drop s text) = omega arith in
    ap (λ l. take (e - s) l) (drop-append-le s text more a) ∙ take-append-le (e - s) (drop s text) more b

-- the line that is new
new_line : (text line : List ℕ) (s : ℕ) → s ≡ length text → take ((length text + length line) - s) (drop s (text ++ line)) ≡ line
new_line text line s e =
    let n : (length text + length line) - s ≡ length line = omega arith in
    ap (λ k. take k (drop s (text ++ line))) n
    ∙ ap (λ k. take (length line) (drop k (text ++ line))) e
    ∙ ap (λ l. take (length line) l) (drop-append_seam text line)
    ∙ take-length line

pub ends_more : (text line : List ℕ) (s n : ℕ) (es : List LineEnd) (e : LineEnd) → AreEnds s (length text) es
    → e.end ≡ length text + length line → n ≡ length text + length line → AreEnds s n (es ++ e ∷ [])
unfolding AreEnds
ends_more text line s n [] e h d f =
    let a : s ≤ e.end = omega arith in
    let b : e.end ≤ n = omega arith in
    (a, b, d ∙ sym f)
ends_more text line s n (x ∷ es) e h d f =
    let b : x.end ≤ n = omega arith in
    (h.0, b, ends_more text line x.end n es e h.2 d f)

cut_more : (text line : List ℕ) (s : ℕ) (es : List LineEnd) (e : LineEnd) → AreEnds s (length text) es
    → e.end ≡ length text + length line
    → cut_from s (text ++ line) (es ++ e ∷ []) ≡ cut_from s text es ++ (e.time, line) ∷ []
unfolding AreEnds cut_from
cut_more text line s [] e h d =
    ap (λ l. (e.time, l) ∷ []) (ap (λ k. take (k - s) (drop s (text ++ line))) d ∙ new_line text line s h)
cut_more text line s (x ∷ es) e h d =
    let le : x.end ≤ length text = h.1 in
    ap (λ l. (x.time, l) ∷ cut_from x.end (text ++ line) (es ++ e ∷ [])) (kept_line text line s x.end h.0 le)
    ∙ ap (λ ls. (x.time, take (x.end - s) (drop s text)) ∷ ls) (cut_more text line x.end es e h.2 d)

-- the last part is of another tick, where there is one
other_tick : (s : ℕ) (text line : List ℕ) (t : ℕ) (es : List LineEnd) (e : LineEnd)
    → (length es ≡ 0) ⊎ (((get_or es (length es - 1) e).time == t) ≡ false)
    → cut_from s text es ++ (t, line) ∷ [] ≡ line_behind (cut_from s text es) t line
unfolding cut_from
other_tick s text line t [] e h = refl
other_tick s text line t (x ∷ []) e h =
    let part : ℕ × List ℕ = (x.time, take (x.end - s) (drop s text)) in
    let no : (x.time == t) ≡ false = elim h [ inl none ↦ absurd (omega arith) | inr other ↦ other ] in
    sym (ap (λ b. cond b ((t, part.1 ++ line) ∷ []) (part ∷ (t, line) ∷ [])) no)
other_tick s text line t (x ∷ y ∷ es) e h =
    let one : length (x ∷ y ∷ es) - 1 ≡ suc (length (y ∷ es) - 1) = omega arith in
    let no : ((get_or (y ∷ es) (length (y ∷ es) - 1) e).time == t) ≡ false = elim h [
      | inl none ↦ absurd (omega arith)
      | inr other ↦ subst (λ i. ((get_or (x ∷ y ∷ es) i e).time == t) ≡ false) one other
    ] in
    ap (λ l. (x.time, take (x.end - s) (drop s text)) ∷ l) (other_tick x.end text line t (y ∷ es) e (inr no))

pub cut_other : (text line : List ℕ) (s : ℕ) (es : List LineEnd) (e d : LineEnd) → AreEnds s (length text) es
    → e.end ≡ length text + length line → (length es ≡ 0) ⊎ (((get_or es (length es - 1) d).time == e.time) ≡ false)
    → cut_from s (text ++ line) (es ++ e ∷ []) ≡ line_behind (cut_from s text es) e.time line
cut_other text line s es e d h end other = cut_more text line s es e h end ∙ other_tick s text line e.time es d other

-- the last part, at place j, is of the same tick
pub ends_last : (text line : List ℕ) (s n j : ℕ) (es : List LineEnd) (e : LineEnd) → AreEnds s (length text) es
    → e.end ≡ length text + length line → n ≡ length text + length line → j + 1 ≡ length es → AreEnds s n (set es j e)
unfolding AreEnds
ends_last text line s n j [] e h d f last = absurd (omega arith)
ends_last text line s n zero (x ∷ []) e h d f last =
    let low = h.0 in
    let all : x.end ≡ length text = h.2 in
    let a : s ≤ e.end = omega arith in
    let b : e.end ≤ n = omega arith in
    (a, b, d ∙ sym f)
ends_last text line s n (suc j) (x ∷ []) e h d f last = absurd (omega arith)
ends_last text line s n zero (x ∷ y ∷ es) e h d f last = absurd (omega arith)
ends_last text line s n (suc j) (x ∷ y ∷ es) e h d f last =
    let within = h.1 in
    let b : x.end ≤ n = omega arith in
    (h.0, b, ends_last text line x.end n j (y ∷ es) e h.2 d f (omega arith))

-- the rest of a text, and a line behind it
longer_part : (text line : List ℕ) (s e : ℕ) → s ≤ length text → e ≡ length text + length line
    → take (e - s) (drop s (text ++ line)) ≡ drop s text ++ line
longer_part text line s e h d =
    let rest = length-drop s text in
    let both = length-append (drop s text) line in
    let n : e - s ≡ length (drop s text ++ line) = omega arith in
    ap (λ l. take (e - s) l) (drop-append-le s text line h)
    ∙ ap (λ k. take k (drop s text ++ line)) n
    ∙ take-length (drop s text ++ line)

last_part : (text : List ℕ) (s e : ℕ) → e ≡ length text → take (e - s) (drop s text) ≡ drop s text
last_part text s e d =
    let rest = length-drop s text in
    let n : e - s ≡ length (drop s text) = omega arith in
    ap (λ k. take k (drop s text)) n ∙ take-length (drop s text)

pub cut_last : (text line : List ℕ) (s j : ℕ) (es : List LineEnd) (e d : LineEnd) → AreEnds s (length text) es
    → e.end ≡ length text + length line → j + 1 ≡ length es → (get_or es j d).time ≡ e.time
    → cut_from s (text ++ line) (set es j e) ≡ line_behind (cut_from s text es) e.time line
unfolding AreEnds cut_from
cut_last text line s j [] e d h end last same = absurd (omega arith)
cut_last text line s zero (x ∷ []) e d h end last same =
    let low = h.0 in
    let all : x.end ≡ length text = h.2 in
    let part : ℕ × List ℕ = (x.time, take (x.end - s) (drop s text)) in
    ap (λ l. (e.time, l) ∷ []) (longer_part text line s e.end (omega arith) end
    ∙ ap (λ l. l ++ line) (sym (last_part text s x.end all)))
    ∙ sym (ap (λ b. cond b ((e.time, part.1 ++ line) ∷ []) (part ∷ (e.time, line) ∷ [])) (eq-eqb x.time e.time same))
cut_last text line s (suc j) (x ∷ []) e d h end last same = absurd (omega arith)
cut_last text line s zero (x ∷ y ∷ es) e d h end last same = absurd (omega arith)
cut_last text line s (suc j) (x ∷ y ∷ es) e d h end last same =
    ap (λ l. (x.time, l) ∷ cut_from x.end (text ++ line) (set (y ∷ es) j e)) (kept_line text line s x.end h.0 h.1)
    ∙ ap (λ ls. (x.time, take (x.end - s) (drop s text)) ∷ ls) (cut_last text line x.end j (y ∷ es) e d h.2 end (omega arith) same)

no_ends : (n : ℕ) → n ≡ 0 → AreEnds 0 n []
unfolding AreEnds
no_ends n e = sym e

no_cuts : (text : List ℕ) → cut_from 0 text [] ≡ []
unfolding cut_from
no_cuts text = refl

pub ends_none : (text : List ℕ) (es : List LineEnd) → text ≡ [] → es ≡ [] → AreEnds 0 (length text) es
ends_none text es a b = subst (λ l. AreEnds 0 (length text) l) (sym b) (no_ends (length text) (ap length a))

pub cut_none : (text : List ℕ) (es : List LineEnd) → es ≡ [] → cut_from 0 text es ≡ []
cut_none text es b = ap (λ l. cut_from 0 text l) b ∙ no_cuts text
