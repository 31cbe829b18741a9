-- The lines of all members, put together in order of ticks, are those of the rows.
use Rattle.std.proofs.Common.{◌≡◌, ◌∙◌, ℕ, zero, suc, ◌+◌, ◌-◌, ◌<◌, ◌≤◌, Bool, true, false, cond, List, [], ◌∷◌, ◌++◌, map, fold}
use Rattle.std.proofs.Common.{filter, ◌==◌, length, get_or, set, take, All, Contains, refl, sym, ap, subst, append-nil, append_assoc}
use Rattle.std.proofs.Common.{eqb-true, eq-eqb, is_lt, nat_cmp, arith}
use Rattle.std.specs.List.{AllZip, flat_map, range_with_len}
use Rattle.std.specs.List.Sorted.{IsNonDecreasingBy, IsStableByKey, IsStrictlyIncreasing, ties}
use Rattle.std.specs.Global.{Vec}
use Rattle.std.proofs.lemmas.Bool.{ne_eqb}
use Rattle.std.proofs.lemmas.List.{map-append, take_more}
use Rattle.std.proofs.lemmas.List.FromFn.{length-range_with_len, get_or-range_with_len}
use Rattle.std.proofs.lemmas.List.Kept.{AllPairs-from_increasing}
use Rattle.std.proofs.lemmas.Grind.{flat_map-append}
use Rattle.srm_net.specs.Orders.{NoneBelow, Rises}
use Rattle.srm_member.specs.declared.row.Row.{Row}
use Rattle.srm_member.specs.ByMember.{rows_of_member}
use Rattle.srm_member.proofs.AllIn.{AllIn, AllIn-weaker, AllIn-filter, AllIn-map, AllIn-places, AllIn-at_places}
use Rattle.srm_cell.specs.Crossings.{joined}
use Rattle.srm_cell.proofs.RowPackets.{joined-append}
use Rattle.srm_interfaces.specs.Grouped.{all_in}
use Rattle.srm_interfaces.specs.Watches.{IsClosed, KeepMembers}
use Rattle.srm_interfaces.specs.InTurn.{HasTurn, KeepInTurn}
use Rattle.srm_model.specs.World.{row_cmp}
use Rattle.srm_member.proofs.OrderLemmas.{rises}
use Rattle.srm_model.proofs.SortedRows.{rows_total}
use Rattle.srm_report.specs.declared.listing.tick_part.TickPart.{TickPart}
use Rattle.srm_report.specs.Listings.{Form, lines_in}
use Rattle.srm_report.specs.KeptLines.{line_behind, lines_of, parts_seen, text_at, AreLinesOf, HaveSameTexts}

-- each number is below those after it
abbrev AreRising : List ℕ → Type 0
AreRising [] = Unit {0}
AreRising (t ∷ ts) = AllIn (λ u. t < u) ts × AreRising ts

rising : (ts : List ℕ) → IsStrictlyIncreasing ts → AreRising ts
rising [] h = tt
rising (t ∷ ts) h =
    let later = AllPairs-from_increasing (t ∷ ts) h in (
      AllIn-at_places (λ u. t < u) ts (λ k d lt. later 0 (suc k) d (omega arith) (omega arith)),
      rising ts (λ k lt. let one : suc k + 1 ≡ suc (k + 1) = omega arith in
          subst (λ n. get_or ts k 0 < get_or (t ∷ ts) n 0) one (h (suc k) (omega arith))),
    )

-- ---- a list in order is its parts

module _ {A : Type 0} (k : A → ℕ) where
  -- each number is at most those after it
  abbrev Climbs : List A → Type 0
  Climbs [] = Unit {0}
  Climbs (x ∷ xs) = AllIn (λ y. k x ≤ k y) xs × Climbs xs

  -- the elements of each of these numbers
  abbrev parts : List ℕ → List A → List (List A)
  parts ns xs = map (λ a. filter (λ x. k x == a) xs) ns

  none_yet : (a : ℕ) (xs : List A) → AllIn (λ y. a < k y) xs → filter (λ x. k x == a) xs ≡ []
  none_yet a [] h = refl
  none_yet a (x ∷ xs) h =
      let later = h.0 in
      ap (λ b. cond b (x ∷ filter (λ y. k y == a) xs) (filter (λ y. k y == a) xs)) (ne_eqb (k x) a (λ e. absurd (omega arith)))
      ∙ none_yet a xs h.1

  past : (ns : List ℕ) (x : A) (xs : List A) → AllIn (λ a. k x < a) ns → parts ns (x ∷ xs) ≡ parts ns xs
  past [] x xs h = refl
  past (a ∷ ns) x xs h =
      let lt = h.0 in
      let no : (k x == a) ≡ false = ne_eqb (k x) a (λ e. absurd (omega arith)) in
      λ i. cond (no i) (x ∷ filter (λ y. k y == a) xs) (filter (λ y. k y == a) xs) ∷ past ns x xs h.1 i

  -- the number of the first is one of these
  one_part : (ns : List ℕ) (j : ℕ) (x : A) (xs : List A) → AreRising ns → j < length ns → get_or ns j (k x) ≡ k x
      → AllIn (λ y. k x ≤ k y) xs → joined (parts ns (x ∷ xs)) ≡ x ∷ joined (parts ns xs)
  one_part [] j x xs rise lt at h = absurd (omega arith)
  one_part (a ∷ ns) zero x xs rise lt at h =
      let here = filter (λ y. k y == a) xs in
      let later : AllIn (λ b. k x < b) ns = AllIn-weaker (λ b. a < b) (λ b. k x < b) (λ b less. omega arith) ns rise.0 in
      (λ i. cond (eq-eqb (k x) a (sym at) i) (x ∷ here) here ++ joined (past ns x xs later i))
  one_part (a ∷ ns) (suc j) x xs rise lt at h =
      let here = filter (λ y. k y == a) xs in
      let within : j < length ns = omega arith in
      let above : a < get_or ns j (k x) = AllIn-places (λ b. a < b) ns rise.0 j (k x) within in
      let less : a < k x = omega arith in
      let no : (k x == a) ≡ false = ne_eqb (k x) a (λ e. absurd (omega arith)) in
      let none : here ≡ [] = none_yet a xs (AllIn-weaker (λ y. k x ≤ k y) (λ y. a < k y) (λ y le. omega arith) xs h) in
      (λ i. cond (no i) (x ∷ here) here ++ joined (parts ns (x ∷ xs)))
      ∙ ap (λ l. l ++ joined (parts ns (x ∷ xs))) none
      ∙ one_part ns j x xs rise.1 within at h
      ∙ ap (λ l. x ∷ (l ++ joined (parts ns xs))) (sym none)

  none_whole : (ns : List ℕ) → joined (parts ns []) ≡ []
  none_whole [] = refl
  none_whole (a ∷ ns) = none_whole ns

  -- a list whose numbers climb, and are among these, is its parts, one after the other
  parts_are_whole : (ns : List ℕ) (xs : List A) → AreRising ns → AllIn (λ x. Contains ns (k x)) xs → Climbs xs
      → joined (parts ns xs) ≡ xs
  parts_are_whole ns [] rise h c = none_whole ns
  parts_are_whole ns (x ∷ xs) rise h c =
      one_part ns h.0.0 x xs rise h.0.1 h.0.2 c.0 ∙ ap (λ l. x ∷ l) (parts_are_whole ns xs rise h.1 c.1)

-- ---- numbers from one on

range_increases : (a n : ℕ) → IsStrictlyIncreasing (range_with_len a n)
range_increases a n k lt =
    let long = length-range_with_len a n in
    let first = get_or-range_with_len a n k 0 (omega arith) in
    let next = get_or-range_with_len a n (k + 1) 0 (omega arith) in
    omega arith

range_has : (a n x : ℕ) → a ≤ x → x < a + n → Contains (range_with_len a n) x
range_has a n x low high =
    let within : x - a < n = omega arith in
    let long = length-range_with_len a n in
    let same : a + (x - a) ≡ x = omega arith in
    (x - a, omega arith, get_or-range_with_len a n (x - a) x within ∙ same)

-- ---- rows in order

-- a row that is not before another is not of an earlier tick; nor, of one tick, of an earlier member
in_order : (q r : Row) → is_lt (row_cmp r q) ≡ false
    → (q.key.time ≤ r.key.time) × (r.key.time ≡ q.key.time → q.key.member ≤ r.key.member)
in_order q r h = grind arith

times_climb : (rows : List Row) → Rises row_cmp rows → Climbs (λ (r : Row). r.key.time) rows
times_climb [] h = tt
times_climb (q ∷ rows) h = (later rows h.0, times_climb rows h.1)
  where
    later : (rs : List Row) → NoneBelow row_cmp q rs → AllIn (λ (r : Row). q.key.time ≤ r.key.time) rs
    later [] h = tt
    later (r ∷ rs) h = ((in_order q r h.0).0, later rs h.1)

-- the rows of a tick
abbrev of_tick : ℕ → List Row → List Row
of_tick t rows = filter (λ (r : Row). r.key.time == t) rows

members_climb : (t : ℕ) (rows : List Row) → Rises row_cmp rows → Climbs (λ (r : Row). r.key.member) (of_tick t rows)
members_climb t [] h = tt
members_climb t (q ∷ rows) h =
    elim (q.key.time == t) as (λ b. (q.key.time == t) ≡ b
    → Climbs (λ (r : Row). r.key.member) (cond b (q ∷ of_tick t rows) (of_tick t rows))) [
      | true ↦ λ e. (later (eqb-true _ _ e) rows h.0, members_climb t rows h.1)
      | false ↦ λ e. members_climb t rows h.1
    ] refl
  where
    later : q.key.time ≡ t → (rs : List Row) → NoneBelow row_cmp q rs
        → AllIn (λ (r : Row). q.key.member ≤ r.key.member) (of_tick t rs)
    later at [] h = tt
    later at (r ∷ rs) h =
        elim (r.key.time == t) as (λ b. (r.key.time == t) ≡ b
        → AllIn (λ (s : Row). q.key.member ≤ s.key.member) (cond b (r ∷ of_tick t rs) (of_tick t rs))) [
          | true ↦ λ e. ((in_order q r h.0).1 (eqb-true _ _ e ∙ sym at), later at rs h.1)
          | false ↦ λ e. later at rs h.1
        ] refl

-- ---- lines of one tick together

-- the line of each row, with its tick
abbrev each_line : Form → List Row → List (ℕ × List ℕ)
each_line f rows = map (λ (r : Row). (r.key.time, f.line r)) rows

behind_text : (own : List (ℕ × List ℕ)) (u t : ℕ) (line : List ℕ)
    → text_at u (line_behind own t line) ≡ text_at u own ++ cond (t == u) line []
behind_text [] u t line = append-nil (cond (t == u) line [])
behind_text (o ∷ []) u t line =
    elim (o.0 == t) as (λ b. (o.0 == t) ≡ b
    → text_at u (cond b ((t, o.1 ++ line) ∷ []) (o ∷ (t, line) ∷ [])) ≡ (cond (o.0 == u) o.1 [] ++ []) ++ cond (t == u) line []) [
      | true ↦ λ e.
          let same : o.0 ≡ t = eqb-true o.0 t e in
          append-nil (cond (t == u) (o.1 ++ line) [])
          ∙ both (t == u) o.1 line
          ∙ (λ i. sym (append-nil (cond (sym same i == u) o.1 [])) i ++ cond (t == u) line [])
      | false ↦ λ e.
          ap (λ l. cond (o.0 == u) o.1 [] ++ l) (append-nil (cond (t == u) line []))
          ∙ ap (λ l. l ++ cond (t == u) line []) (sym (append-nil (cond (o.0 == u) o.1 [])))
    ] refl
  where
    both : (b : Bool) (xs ys : List ℕ) → cond b (xs ++ ys) [] ≡ cond b xs [] ++ cond b ys []
    both true xs ys = refl
    both false xs ys = refl
behind_text (o ∷ n ∷ more) u t line =
    ap (λ l. cond (o.0 == u) o.1 [] ++ l) (behind_text (n ∷ more) u t line)
    ∙ sym (append_assoc (cond (o.0 == u) o.1 []) (text_at u (n ∷ more)) (cond (t == u) line []))

together : (f : Form) (u : ℕ) (own : List (ℕ × List ℕ)) (rows : List Row)
    → text_at u (fold (λ o (r : Row). line_behind o r.key.time (f.line r)) own rows) ≡ text_at u own ++ text_at u (each_line f rows)
together f u own [] = sym (append-nil (text_at u own))
together f u own (r ∷ rows) =
    together f u (line_behind own r.key.time (f.line r)) rows
    ∙ ap (λ l. l ++ text_at u (each_line f rows)) (behind_text own u r.key.time (f.line r))
    ∙ append_assoc (text_at u own) (cond (r.key.time == u) (f.line r) []) (text_at u (each_line f rows))

-- ---- the lines of a tick

-- those of a member
own_tick : (f : Form) (t m : ℕ) (rows : List Row)
    → lines_in f (rows_of_member m (of_tick t rows)) ≡ text_at t (each_line f (rows_of_member m rows))
own_tick f t m [] = refl
own_tick f t m (r ∷ rows) =
    let so = own_tick f t m rows in
    elim (r.key.time == t) as (λ b. (r.key.time == t) ≡ b
    → lines_in f (rows_of_member m (cond b (r ∷ of_tick t rows) (of_tick t rows)))
    ≡ text_at t (each_line f (cond (r.key.member == m) (r ∷ rows_of_member m rows) (rows_of_member m rows)))) [
      | true ↦ λ e. elim (r.key.member == m) as (λ b.
          lines_in f (cond b (r ∷ rows_of_member m (of_tick t rows)) (rows_of_member m (of_tick t rows)))
          ≡ text_at t (each_line f (cond b (r ∷ rows_of_member m rows) (rows_of_member m rows)))) [
            | true ↦ (λ i. cond (sym e i) (f.line r) [] ++ so i)
            | false ↦ so
          ]
      | false ↦ λ e. elim (r.key.member == m) as (λ b. lines_in f (rows_of_member m (of_tick t rows))
          ≡ text_at t (each_line f (cond b (r ∷ rows_of_member m rows) (rows_of_member m rows)))) [
            | true ↦ so ∙ (λ i. cond (sym e i) (f.line r) [] ++ text_at t (each_line f (rows_of_member m rows)))
            | false ↦ so
          ]
    ] refl

-- those of all members, from member m on
members_tick : (f : Form) (t m : ℕ) (rows : List Row) (lists : List (List (ℕ × List ℕ)))
    → KeepMembers (λ l own. l ≡ lines_of f own) m lists rows
    → lines_in f (joined (parts (λ (r : Row). r.key.member) (range_with_len m (length lists)) (of_tick t rows)))
    ≡ flat_map (text_at t) lists
members_tick f t m rows [] h = refl
members_tick f t m rows (l ∷ lists) h =
    let member = λ (r : Row). r.key.member in
    let one : m + 1 ≡ suc m = omega arith in
    let own : lines_in f (rows_of_member m (of_tick t rows)) ≡ text_at t l =
    own_tick f t m rows ∙ sym (together f t [] (rows_of_member m rows)) ∙ ap (text_at t) (sym h.0) in
    flat_map-append f.line (rows_of_member m (of_tick t rows))
    (joined (parts member (range_with_len (m + 1) (length lists)) (of_tick t rows)))
    ∙ (λ i. own i ++ lines_in f (joined (parts member (range_with_len (one i) (length lists)) (of_tick t rows))))
    ∙ ap (λ x. text_at t l ++ x) (members_tick f t (suc m) rows lists h.1)

tick_lines : (f : Form) (t : ℕ) (rows : List Row) (lists : List (List (ℕ × List ℕ)))
    → KeepInTurn (λ l own. l ≡ lines_of f own) lists rows → lines_in f (of_tick t rows) ≡ flat_map (text_at t) lists
tick_lines f t rows lists are =
    let n = length lists in
    let member = λ (r : Row). r.key.member in
    let rise = rises row_cmp rows_total rows are.rise in
    let few : AllIn (λ (r : Row). Contains (range_with_len 0 n) r.key.member) rows =
    AllIn-weaker (HasTurn n) (λ (r : Row). Contains (range_with_len 0 n) r.key.member)
    (λ r has. let low = has.member in range_has 0 n r.key.member (omega arith) (omega arith)) rows
    (AllIn-at_places (HasTurn n) rows are.turns) in
    ap (lines_in f) (sym (parts_are_whole member (range_with_len 0 n) (of_tick t rows) (rising (range_with_len 0 n) (range_increases 0 n))
    (AllIn-filter _ (λ (r : Row). r.key.time == t) rows few) (members_climb t rows rise)))
    ∙ members_tick f t 0 rows lists are.are

-- ---- lines in order of ticks

-- the number that is the tick of lines
abbrev tick : (ℕ × List ℕ) → ℕ
tick x = x.0

at_tick : (t : ℕ) (xs : List (ℕ × List ℕ)) → flat_map (λ (x : ℕ × List ℕ). x.1) (filter (λ (x : ℕ × List ℕ). x.0 == t) xs) ≡ text_at t xs
at_tick t [] = refl
at_tick t (x ∷ xs) =
    let rest = filter (λ (y : ℕ × List ℕ). y.0 == t) xs in
    elim (x.0 == t) as (λ b. flat_map (λ (y : ℕ × List ℕ). y.1) (cond b (x ∷ rest) rest) ≡ cond b x.1 [] ++ text_at t xs) [
      | true ↦ ap (λ l. x.1 ++ l) (at_tick t xs)
      | false ↦ at_tick t xs
    ]

by_ticks : (ns : List ℕ) (xs : List (ℕ × List ℕ))
    → flat_map (λ (x : ℕ × List ℕ). x.1) (joined (parts tick ns xs)) ≡ flat_map (λ t. text_at t xs) ns
by_ticks [] xs = refl
by_ticks (t ∷ ns) xs =
    flat_map-append (λ (x : ℕ × List ℕ). x.1) (filter (λ (x : ℕ × List ℕ). x.0 == t) xs) (joined (parts tick ns xs))
    ∙ (λ i. at_tick t xs i ++ by_ticks ns xs i)

-- a number of ticks, all of these among them
abbrev most : List (ℕ × List ℕ) → ℕ
most [] = 0
most (x ∷ xs) = suc x.0 + most xs

among : (n : ℕ) (xs : List (ℕ × List ℕ)) → most xs ≤ n → AllIn (λ x. Contains (range_with_len 0 n) (tick x)) xs
among n [] le = tt
among n (x ∷ xs) le =
    let within : suc x.0 + most xs ≤ n = le in
    (range_has 0 n x.0 (omega arith) (omega arith), among n xs (omega arith))

-- lines whose ticks climb, and have the same text at each tick, are one text
one_text : (xs ys : List (ℕ × List ℕ)) → Climbs tick xs → Climbs tick ys → ((t : ℕ) → text_at t xs ≡ text_at t ys)
    → flat_map (λ (x : ℕ × List ℕ). x.1) xs ≡ flat_map (λ (x : ℕ × List ℕ). x.1) ys
one_text xs ys climb climbs same =
    let n = most xs + most ys in
    let ns = range_with_len 0 n in
    whole n xs (omega arith) climb ∙ (λ i. flat_map (λ t. same t i) ns) ∙ sym (whole n ys (omega arith) climbs)
  where
    whole : (n : ℕ) (zs : List (ℕ × List ℕ)) → most zs ≤ n → Climbs tick zs
        → flat_map (λ (x : ℕ × List ℕ). x.1) zs ≡ flat_map (λ t. text_at t zs) (range_with_len 0 n)
    whole n zs le h =
        let ns = range_with_len 0 n in
        ap (flat_map (λ (x : ℕ × List ℕ). x.1))
        (sym (parts_are_whole tick ns zs (rising ns (range_increases 0 n)) (among n zs le) h)) ∙ by_ticks ns zs

-- ---- the lines of rows in order

lines_climb : (f : Form) (rows : List Row) → Climbs (λ (r : Row). r.key.time) rows → Climbs tick (each_line f rows)
lines_climb f [] h = tt
lines_climb f (r ∷ rows) h =
    (AllIn-map (λ x. r.key.time ≤ tick x) (λ (q : Row). (q.key.time, f.line q)) rows h.0, lines_climb f rows h.1)

each_text : (f : Form) (rows : List Row) → flat_map (λ (x : ℕ × List ℕ). x.1) (each_line f rows) ≡ lines_in f rows
each_text f [] = refl
each_text f (r ∷ rows) = ap (λ l. f.line r ++ l) (each_text f rows)

tick_text : (f : Form) (t : ℕ) (rows : List Row) → lines_in f (of_tick t rows) ≡ text_at t (each_line f rows)
tick_text f t [] = refl
tick_text f t (r ∷ rows) =
    elim (r.key.time == t) as (λ b. lines_in f (cond b (r ∷ of_tick t rows) (of_tick t rows))
    ≡ cond b (f.line r) [] ++ text_at t (each_line f rows)) [
      | true ↦ ap (λ l. f.line r ++ l) (tick_text f t rows)
      | false ↦ tick_text f t rows
    ]

closed_texts : (t : ℕ) (full : List (List (List (ℕ × List ℕ)))) (groups : List (Vec (List (ℕ × List ℕ))))
    → AllZip (λ own (g : Vec (List (ℕ × List ℕ))). IsClosed HaveSameTexts own g.items) full groups
    → flat_map (text_at t) (all_in groups) ≡ flat_map (text_at t) (joined full)
closed_texts t [] [] h = refl
closed_texts t [] (g ∷ groups) h = absurd h
closed_texts t (own ∷ full) [] h = absurd h
closed_texts t (own ∷ full) (g ∷ groups) h =
    flat_map-append (text_at t) g.items (all_in groups)
    ∙ (λ i. h.0.1 t i ++ closed_texts t full groups h.1 i)
    ∙ sym (flat_map-append (text_at t) own (joined full))

-- lines in order of ticks, which have at each tick the text of all members, are those of the rows
pub in_order_texts : (f : Form) (rows : List Row) (xs : List (ℕ × List ℕ)) (groups : List (Vec (List (ℕ × List ℕ))))
    → AreLinesOf f rows groups → Climbs tick xs → ((t : ℕ) → text_at t xs ≡ flat_map (text_at t) (all_in groups))
    → flat_map (λ (x : ℕ × List ℕ). x.1) xs ≡ lines_in f rows
in_order_texts f rows xs groups are climb same =
    one_text xs (each_line f rows) climb (lines_climb f rows (times_climb rows (rises row_cmp rows_total rows are.so.rise)))
    (λ t. same t ∙ closed_texts t are.full groups are.closed ∙ sym (tick_lines f t rows (joined are.full) are.so) ∙ tick_text f t rows)
    ∙ each_text f rows

-- ---- parts

pub all_texts : (t : ℕ) (lists : List (List (ℕ × List ℕ))) → text_at t (joined lists) ≡ flat_map (text_at t) lists
all_texts t [] = refl
all_texts t (own ∷ lists) =
    flat_map-append (λ (x : ℕ × List ℕ). cond (x.0 == t) x.1 []) own (joined lists) ∙ ap (λ l. text_at t own ++ l) (all_texts t lists)

-- the part that a loop over parts has where there is none
abbrev pub no_part : TickPart
no_part = record { time = 0; text = record { ref_ptr = (0, 0); now = [] } }

-- what is seen of the parts so far, and of one more
seen_more : (ps : List TickPart) (i : ℕ) (d : TickPart) → i < length ps
    → parts_seen (take (i + 1) ps) ≡ parts_seen (take i ps) ++ ((get_or ps i d).time, (get_or ps i d).text.now) ∷ []
seen_more ps i d lt =
    let seen : TickPart → ℕ × List ℕ = λ p. (p.time, p.text.now) in
    ap parts_seen (take_more ps i d lt) ∙ map-append seen (take i ps) (get_or ps i d ∷ [])

-- a line of the next part behind those of the parts so far
pub behind_more : (ps : List TickPart) (i : ℕ) (d : TickPart) (old new : List (ℕ × List ℕ)) → i < length ps
    → new ≡ line_behind old (get_or ps i d).time (get_or ps i d).text.now → (t : ℕ)
    → text_at t old ≡ text_at t (parts_seen (take i ps)) → text_at t new ≡ text_at t (parts_seen (take (i + 1) ps))
behind_more ps i d old new lt put t was =
    let line = λ (x : ℕ × List ℕ). cond (x.0 == t) x.1 [] in
    let next : ℕ × List ℕ = ((get_or ps i d).time, (get_or ps i d).text.now) in
    ap (text_at t) put
    ∙ behind_text old t next.0 next.1
    ∙ (λ k. was k ++ sym (append-nil (line next)) k)
    ∙ sym (flat_map-append line (parts_seen (take i ps)) (next ∷ []))
    ∙ ap (text_at t) (sym (seen_more ps i d lt))

-- the texts of the parts so far, and that of one more
pub texts_more : (ps : List TickPart) (i : ℕ) (d : TickPart) (old new : List ℕ) → i < length ps
    → old ≡ flat_map (λ (p : TickPart). p.text.now) (take i ps) → new ≡ old ++ (get_or ps i d).text.now
    → new ≡ flat_map (λ (p : TickPart). p.text.now) (take (i + 1) ps)
texts_more ps i d old new lt was put =
    let text = λ (p : TickPart). p.text.now in
    put
    ∙ (λ k. was k ++ sym (append-nil (text (get_or ps i d))) k)
    ∙ sym (flat_map-append text (take i ps) (get_or ps i d ∷ []))
    ∙ ap (flat_map text) (sym (take_more ps i d lt))

-- the parts of some members' lines, and of one more
pub joined_more : (lists : List (List (ℕ × List ℕ))) (i : ℕ) (own : List (ℕ × List ℕ)) → i < length lists → own ≡ get_or lists i own
    → joined (take (i + 1) lists) ≡ joined (take i lists) ++ own
joined_more lists i own lt is =
    ap joined (take_more lists i own lt) ∙ joined-append (take i lists) (get_or lists i own ∷ [])
    ∙ (λ k. joined (take i lists) ++ append-nil (sym is k) k)

seen_texts : (ps : List TickPart) → flat_map (λ (p : TickPart). p.text.now) ps ≡ flat_map (λ (x : ℕ × List ℕ). x.1) (parts_seen ps)
seen_texts [] = refl
seen_texts (p ∷ ps) = ap (λ l. p.text.now ++ l) (seen_texts ps)

-- ---- parts, sorted by tick

seen_climb : (ps : List TickPart) → IsNonDecreasingBy (λ (p : TickPart). p.time) ps → Climbs tick (parts_seen ps)
seen_climb [] h = tt
seen_climb (p ∷ ps) h = (
  AllIn-map (λ x. p.time ≤ tick x) (λ (q : TickPart). (q.time, q.text.now)) ps
      (AllIn-at_places (λ (q : TickPart). p.time ≤ q.time) ps (λ k d lt. h 0 (suc k) d (omega arith) (omega arith))),
  seen_climb ps (λ i j d le lt. h (suc i) (suc j) d (omega arith) (omega arith)),
)

-- a part is before another by its tick
abbrev by_tick : TickPart → TickPart → Bool
by_tick p q = is_lt (nat_cmp p.time q.time)

tied : (p q : TickPart) → ties by_tick p q ≡ (q.time == p.time)
tied p q = grind arith

tied_texts : (p : TickPart) (ps : List TickPart)
    → flat_map (λ (q : TickPart). q.text.now) (filter (ties by_tick p) ps) ≡ text_at p.time (parts_seen ps)
tied_texts p [] = refl
tied_texts p (q ∷ ps) =
    let rest = filter (ties by_tick p) ps in
    ap (λ b. flat_map (λ (r : TickPart). r.text.now) (cond b (q ∷ rest) rest)) (tied p q)
    ∙ elim (q.time == p.time) as (λ b. flat_map (λ (r : TickPart). r.text.now) (cond b (q ∷ rest) rest)
    ≡ cond b q.text.now [] ++ text_at p.time (parts_seen ps)) [
      | true ↦ ap (λ l. q.text.now ++ l) (tied_texts p ps)
      | false ↦ tied_texts p ps
    ]

-- a stable sort by tick leaves the text of each tick
pub stable_texts : (t : ℕ) (ps qs : List TickPart) → length qs ≡ length ps → IsStableByKey (λ (p : TickPart). p.time) nat_cmp ps qs
    → text_at t (parts_seen qs) ≡ text_at t (parts_seen ps)
stable_texts t [] [] long stable = refl
stable_texts t [] (q ∷ qs) long stable = absurd (omega arith)
stable_texts t (p ∷ ps) qs long stable =
    let of : TickPart = record { time = t; text = p.text } in
    sym (tied_texts of qs) ∙ ap (flat_map (λ (q : TickPart). q.text.now)) (stable of) ∙ tied_texts of (p ∷ ps)

-- the parts of all members' lines, sorted by tick, have the text of the rows' lines
pub sorted_texts : (f : Form) (rows : List Row) (ps qs : List TickPart) (groups : List (Vec (List (ℕ × List ℕ))))
    → AreLinesOf f rows groups → parts_seen ps ≡ joined (all_in groups) → length qs ≡ length ps
    → IsStableByKey (λ (p : TickPart). p.time) nat_cmp ps qs → IsNonDecreasingBy (λ (p : TickPart). p.time) qs
    → flat_map (λ (p : TickPart). p.text.now) qs ≡ lines_in f rows
sorted_texts f rows ps qs groups are seen long stable sorted =
    seen_texts qs
    ∙ in_order_texts f rows (parts_seen qs) groups are (seen_climb qs sorted)
    (λ t. stable_texts t ps qs long stable ∙ ap (text_at t) seen ∙ all_texts t (all_in groups))

-- ---- what the first member has of all

no_texts : (t : ℕ) (lists : List (List (ℕ × List ℕ))) → AllIn (λ own. own ≡ []) lists → flat_map (text_at t) lists ≡ []
no_texts t [] h = refl
no_texts t (own ∷ lists) h = (λ i. text_at t (h.0 i) ++ no_texts t lists h.1 i)

pub all_in_first : (old none : List (List (ℕ × List ℕ))) (all : List (ℕ × List ℕ)) → All (λ own. own ≡ []) none → 0 < length none
    → ((t : ℕ) → text_at t all ≡ flat_map (text_at t) old) → HaveSameTexts old (set none 0 all)
all_in_first old [] all h lt same = absurd (omega arith)
all_in_first old (own ∷ none) all h lt same = λ t.
    ap (λ l. text_at t all ++ l) (no_texts t none (AllIn-at_places (λ l. l ≡ []) (own ∷ none) h).1)
    ∙ append-nil (text_at t all) ∙ same t
