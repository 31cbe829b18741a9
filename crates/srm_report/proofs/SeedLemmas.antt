-- Lines of a table, each with a seed in front.
use Rattle.std.proofs.Common.{◌≡◌, ◌≢◌, ◌∙◌, ℕ, zero, suc, ◌+◌, ◌-◌, ◌<◌, ◌≤◌, true, List, [], ◌∷◌, ◌++◌, length}
use Rattle.std.proofs.Common.{Option, Some, None, refl, ap, sym, append_assoc, append-nil, decimal, drop, take, slice_index}
use Rattle.std.proofs.Common.{⊎_elim, length-drop, arith}
use Rattle.std.proofs.lemmas.Bool.{cases_lt}
use Rattle.std.proofs.lemmas.List.{get_or_append_left, get_or_at, drop-drop}
use Rattle.csv.specs.Machine.{line_feed}
use Rattle.csv.specs.Writing.{comma, default_writer, row_text}
use Rattle.memchr.specs.Find.{IsFirstByte, is_byte}
use Rattle.srm_report.specs.Seeds.{with_seed, IsPlain, ArePlain, IsLine, AreLines}
use Rattle.srm_report.specs.Tables.{lines_of, table_lines}
use Rattle.srm_report.proofs.LineLemmas.{after_commas, row_joined, decimal_is_plain}
use Rattle.srm_report.proofs.TableLemmas.{lines_more}

-- ---- one line

-- no byte is a line feed
abbrev pub HasNoFeed : List ℕ → Type 0
HasNoFeed bs = (k : ℕ) → k < length bs → slice_index bs k ≢ line_feed

none_here : HasNoFeed []
none_here k lt = absurd (omega arith)

one_more : (b : ℕ) (bs : List ℕ) → b ≢ line_feed → HasNoFeed bs → HasNoFeed (b ∷ bs)
one_more b bs h hs zero lt = h
one_more b bs h hs (suc k) lt = hs k (omega arith)

both : (xs ys : List ℕ) → HasNoFeed xs → HasNoFeed ys → HasNoFeed (xs ++ ys)
both [] ys h k = k
both (x ∷ xs) ys h k = one_more x (xs ++ ys) (h 0 (omega arith)) (both xs ys (λ j lt. h (suc j) (omega arith)) k)

plain_byte : (b : ℕ) (bs : List ℕ) → IsPlain (b ∷ bs) → (b ≢ line_feed) × IsPlain bs
plain_byte b bs h = grind arith

plain_has_none : (f : List ℕ) → IsPlain f → HasNoFeed f
plain_has_none [] h = none_here
plain_has_none (b ∷ bs) h = let p = plain_byte b bs h in one_more b bs p.0 (plain_has_none bs p.1)

-- the fields after commas, up to the line feed
abbrev pub commas_only : List (List ℕ) → List ℕ
commas_only [] = []
commas_only (f ∷ fs) = comma ∷ (f ++ commas_only fs)

commas_feed : (fs : List (List ℕ)) → after_commas fs ≡ commas_only fs ++ line_feed ∷ []
commas_feed [] = refl
commas_feed (f ∷ fs) =
    ap (λ l. comma ∷ (f ++ l)) (commas_feed fs) ∙ ap (λ l. comma ∷ l) (sym (append_assoc f (commas_only fs) (line_feed ∷ [])))

commas_have_none : (fs : List (List ℕ)) → ArePlain fs → HasNoFeed (commas_only fs)
commas_have_none [] h = none_here
commas_have_none (f ∷ fs) h =
    one_more comma (f ++ commas_only fs) (λ e. absurd (omega arith))
    (both f (commas_only fs) (plain_has_none f h.0) (commas_have_none fs h.1))

-- a line ends in the only line feed that it has
pub line_ends : (fields : List (List ℕ)) → IsLine fields
    → (front : List ℕ) × HasNoFeed front × (row_text default_writer fields ≡ front ++ line_feed ∷ [])
line_ends [] h = absurd h
line_ends (f ∷ []) h = absurd h
line_ends (f ∷ g ∷ fs) h = (
  f ++ commas_only (g ∷ fs),
  both f (commas_only (g ∷ fs)) (plain_has_none f h.0) (commas_have_none (g ∷ fs) h.1),
  row_joined f g fs h ∙ ap (λ l. f ++ l) (commas_feed (g ∷ fs)) ∙ sym (append_assoc f (commas_only (g ∷ fs)) (line_feed ∷ [])),
)

-- a line with a seed in front
pub seeded_line : (seed : ℕ) (fields : List (List ℕ)) → IsLine fields
    → row_text default_writer (decimal seed ∷ fields) ≡ decimal seed ++ comma ∷ row_text default_writer fields
seeded_line seed [] h = absurd h
seeded_line seed (f ∷ []) h = absurd h
seeded_line seed (f ∷ g ∷ fs) h =
    row_joined (decimal seed) f (g ∷ fs) (decimal_is_plain seed, h) ∙ ap (λ l. decimal seed ++ comma ∷ l) (sym (row_joined f g fs h))

-- ---- the first line feed

feed_at : (front rest : List ℕ) → slice_index (front ++ line_feed ∷ rest) (length front) ≡ line_feed
feed_at front rest = get_or_at front line_feed rest 0 (length front) refl

-- a byte before it is none
none_before : (front rest : List ℕ) (k : ℕ) → HasNoFeed front → k < length front → slice_index (front ++ line_feed ∷ rest) k ≢ line_feed
none_before front rest k h lt e = h k lt (sym (get_or_append_left front (line_feed ∷ rest) 0 k lt) ∙ e)

test_is : (b : ℕ) → b ≡ line_feed → is_byte line_feed b ≡ true
test_is b e = grind arith

test_was : (b : ℕ) → is_byte line_feed b ≡ true → b ≡ line_feed
test_was b e = grind arith

pub first_feed : (front rest : List ℕ) → HasNoFeed front → (r : Option ℕ) → IsFirstByte (is_byte line_feed) (front ++ line_feed ∷ rest) r
    → r ≡ Some (length front)
first_feed front rest h None first =
    absurd (first (length front) (omega arith) (within front rest) (test_is _ (feed_at front rest)))
  where
    within : (front rest : List ℕ) → length front < length (front ++ line_feed ∷ rest)
    within [] rest = omega arith
    within (x ∷ xs) rest = let w = within xs rest in omega arith
first_feed front rest h (Some k) first = ap Some (
    ⊎_elim (λ (lt : k < length front). absurd (none_before front rest k h lt (test_was _ first.1)))
    (λ (ge : length front ≤ k).
    ⊎_elim (λ (lt : length front < k). absurd (first.0.before (length front) (omega arith) lt (test_is _ (feed_at front rest))))
    (λ (le : k ≤ length front). omega arith)
    (cases_lt (length front) k))
    (cases_lt k (length front)))

-- ---- all lines

drop_front : (xs ys : List ℕ) → drop (length xs) (xs ++ ys) ≡ ys
drop_front [] ys = refl
drop_front (x ∷ xs) ys = drop_front xs ys

take_front : (xs ys : List ℕ) → take (length xs) (xs ++ ys) ≡ xs
take_front [] ys = refl
take_front (x ∷ xs) ys = ap (λ l. x ∷ l) (take_front xs ys)

seed_push : (seed : ℕ) (rows : List (List (List ℕ))) (r : List (List ℕ))
    → with_seed seed (rows ++ r ∷ []) ≡ with_seed seed rows ++ (decimal seed ∷ r) ∷ []
seed_push seed [] r = refl
seed_push seed (q ∷ rows) r = ap (λ l. (decimal seed ∷ q) ∷ l) (seed_push seed rows r)

lines_cons : (r : List (List ℕ)) (rows : List (List (List ℕ))) → lines_of (r ∷ rows) ≡ row_text default_writer r ++ lines_of rows
unfolding lines_of
lines_cons r rows = refl

no_lines : lines_of [] ≡ []
unfolding lines_of
no_lines = refl

some_byte : (front : List ℕ) (b : ℕ) (rest : List ℕ) → (front ++ b ∷ []) ++ rest ≡ [] → ⊥
some_byte [] b rest e = cc
some_byte (x ∷ xs) b rest e = cc

drop_past : (n : ℕ) (xs : List ℕ) → length xs ≤ n → drop n xs ≡ []
drop_past zero [] le = refl
drop_past (suc n) [] le = refl
drop_past zero (x ∷ xs) le = absurd (omega arith)
drop_past (suc n) (x ∷ xs) le = drop_past n xs (omega arith)

module _ (seed : ℕ) (rows : List (List (List ℕ))) (table : List ℕ) where
  -- the lines up to this place of the table have the seed in front of each
  pub record IsAt (start : ℕ) (text : List ℕ) : Type 0 where
    pub done : List (List (List ℕ))
    pub left : List (List (List ℕ))
    pub split : rows ≡ done ++ left
    pub lines : AreLines left
    pub rest : drop start table ≡ lines_of left
    pub text_is : text ≡ lines_of (with_seed seed done)

  pub begins : (columns : List (List ℕ)) → IsLine columns → AreLines rows → table ≡ table_lines columns rows → (start : ℕ)
      → ((fields : List (List ℕ)) (rest : List ℕ) → IsLine fields → drop 0 table ≡ row_text default_writer fields ++ rest
      → start ≡ 0 + length (row_text default_writer fields)) → IsAt start []
  unfolding table_lines
  begins columns hc hr is start end =
      let at : start ≡ length (row_text default_writer columns) = omega (arith, end columns (lines_of rows) hc is) in record {
        done = [];
        left = rows;
        split = refl;
        lines = hr;
        rest = ap (λ n. drop n table) at ∙ ap (drop (length (row_text default_writer columns))) is
            ∙ drop_front (row_text default_writer columns) (lines_of rows);
        text_is = sym no_lines;
      }

  one_on : (start end : ℕ) (text new line : List ℕ) (done left : List (List (List ℕ))) (r : List (List ℕ))
      → rows ≡ done ++ r ∷ left → IsLine r → AreLines left → drop start table ≡ lines_of (r ∷ left)
      → text ≡ lines_of (with_seed seed done)
      → ((fields : List (List ℕ)) (rest : List ℕ) → IsLine fields → drop start table ≡ row_text default_writer fields ++ rest
      → end ≡ start + length (row_text default_writer fields))
      → line ≡ take (end - start) (drop start table) → new ≡ text ++ (decimal seed ++ comma ∷ line) → IsAt end new
  one_on start end text new line done left r split hr hl rest text_is end_is line_is grown =
      let all : drop start table ≡ row_text default_writer r ++ lines_of left = rest ∙ lines_cons r left in
      let far : end ≡ start + length (row_text default_writer r) = end_is r (lines_of left) hr all in
      let long : end - start ≡ length (row_text default_writer r) = omega arith in
      let is_line : line ≡ row_text default_writer r =
      line_is ∙ ap (λ n. take n (drop start table)) long ∙ ap (take (length (row_text default_writer r))) all
      ∙ take_front (row_text default_writer r) (lines_of left) in record {
        done = done ++ r ∷ [];
        left = left;
        split = split ∙ sym (append_assoc done (r ∷ []) left);
        lines = hl;
        rest = ap (λ n. drop n table) far ∙ sym (drop-drop (length (row_text default_writer r)) start table)
            ∙ ap (drop (length (row_text default_writer r))) all ∙ drop_front (row_text default_writer r) (lines_of left);
        text_is = grown
            ∙ (λ i. text_is i ++ (decimal seed ++ comma ∷ is_line i))
            ∙ ap (λ l. lines_of (with_seed seed done) ++ l) (sym (seeded_line seed r hr))
            ∙ sym (lines_more (with_seed seed done) (decimal seed ∷ r)) ∙ ap lines_of (sym (seed_push seed done r));
      }

  pub goes_on : (start end : ℕ) (text new line : List ℕ) → IsAt start text → start < length table
      → ((fields : List (List ℕ)) (rest : List ℕ) → IsLine fields → drop start table ≡ row_text default_writer fields ++ rest
      → end ≡ start + length (row_text default_writer fields))
      → line ≡ take (end - start) (drop start table) → new ≡ text ++ (decimal seed ++ comma ∷ line) → IsAt end new
  goes_on start end text new line at lt end_is line_is grown = by at.left at.split at.lines at.rest
    where
      by : (left : List (List (List ℕ))) → rows ≡ at.done ++ left → AreLines left → drop start table ≡ lines_of left → IsAt end new
      by [] split lines rest =
          let none : length (drop start table) ≡ 0 = ap length (rest ∙ no_lines) in
          absurd (omega (arith, length-drop start table))
      by (r ∷ left) split lines rest =
          one_on start end text new line at.done left r split lines.0 lines.1 rest at.text_is end_is line_is grown

  pub ends : (start : ℕ) (text : List ℕ) → IsAt start text → length table ≤ start → text ≡ lines_of (with_seed seed rows)
  ends start text at le = by at.left at.split at.lines at.rest
    where
      by : (left : List (List (List ℕ))) → rows ≡ at.done ++ left → AreLines left → drop start table ≡ lines_of left
          → text ≡ lines_of (with_seed seed rows)
      by [] split lines rest = at.text_is ∙ ap (λ l. lines_of (with_seed seed l)) (sym (split ∙ append-nil at.done))
      by (r ∷ left) split lines rest =
          let line = line_ends r lines.0 in
          let none : drop start table ≡ [] = drop_past start table le in
          absurd (some_byte line.0 line_feed (lines_of left)
          (sym (sym none ∙ rest ∙ lines_cons r left ∙ ap (λ l. l ++ lines_of left) line.2)))
