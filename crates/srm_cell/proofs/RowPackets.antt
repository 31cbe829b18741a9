-- The packets of rows, one row after the other.
use Rattle.std.proofs.Common.{◌≡◌, ◌<◌, ◌≤◌, ℕ, zero, suc, ◌+◌, ◌*◌, replicate, List, [], ◌∷◌, ◌++◌, length, take, get_or, Option, Some}
use Rattle.std.proofs.Common.{None, refl, sym, ap, ◌∙◌, arith, append-nil, append_assoc, length-append}
use Rattle.std.specs.List.{cons_option}
use Rattle.std.proofs.lemmas.List.{take_more}
use Rattle.std.proofs.lemmas.List.Elements.{filter_map-append}
use Rattle.srm_net.specs.declared.packet.Packet.{Packet}
use Rattle.srm_member.specs.declared.row.Row.{Row}
use Rattle.std.specs.List.{flat_map, range_with_len}
use Rattle.srm_ledger.specs.Counts.{nothing_at}
use Rattle.srm_cell.specs.Setting.{Traffic}
use Rattle.srm_cell.specs.Totalled.{numbers_of}
use Rattle.srm_cell.specs.Crossings.{packets_of, joined, crossings_at, crossings}

pub packets_more : (rows : List Row) (i : ℕ) (r : Row) → i < length rows → r ≡ get_or rows i r → packets_of (take (i + 1) rows)
    ≡ packets_of (take i rows) ++ cons_option r.sent []
packets_more rows i r lt e =
    ap packets_of (take_more rows i r lt) ∙ filter_map-append (λ (r : Row). r.sent) (take i rows) (get_or rows i r ∷ [])
    ∙ ap (λ (q : Row). packets_of (take i rows) ++ cons_option q.sent []) (sym e)

-- where the row sent nothing
pub none_more : (ps : List Packet) (rows : List Row) (i : ℕ) (r : Row) → i < length rows → r ≡ get_or rows i r → r.sent ≡ None → ps
    ++ packets_of (take i rows) ≡ ps ++ packets_of (take (i + 1) rows)
none_more ps rows i r lt e n = ap (λ qs. ps ++ qs)
    (sym (packets_more rows i r lt e ∙ ap (λ o. packets_of (take i rows) ++ cons_option o []) n ∙ append-nil _))

-- where it sent this packet
pub one_more : (ps : List Packet) (rows : List Row) (i : ℕ) (r : Row) (p : Packet) → i < length rows → r ≡ get_or rows i r → r.sent ≡ Some p
    → (ps ++ packets_of (take i rows)) ++ p ∷ [] ≡ ps ++ packets_of (take (i + 1) rows)
one_more ps rows i r p lt e n = append_assoc ps (packets_of (take i rows)) (p ∷ [])
    ∙ ap (λ qs. ps ++ qs) (sym (packets_more rows i r lt e ∙ ap (λ o. packets_of (take i rows) ++ cons_option o []) n))

longer : (o : Option Packet) (ps qs : List Packet) → length ps ≤ length qs → length (cons_option o ps) ≤ length (cons_option o qs)
longer None ps qs h = h
longer (Some p) ps qs h = omega arith

pub packets_fewer : (rows : List Row) (i : ℕ) → length (packets_of (take i rows)) ≤ length (packets_of rows)
packets_fewer [] zero = omega arith
packets_fewer [] (suc i) = omega arith
packets_fewer (r ∷ rows) zero = omega arith
packets_fewer (r ∷ rows) (suc i) = longer r.sent _ _ (packets_fewer rows i)

-- before a row that sent a packet there are fewer packets
pub few_packets : (ps : List Packet) (rows : List Row) (i : ℕ) (r : Row) (p : Packet) (n : ℕ) → i < length rows → r ≡ get_or rows i r
    → r.sent ≡ Some p
    → length ps + length (packets_of rows) + 2 < n → length (ps ++ packets_of (take i rows)) + 1 + 2 < n
few_packets ps rows i r p n lt e s h =
    let one = ap length (one_more ps rows i r p lt e s) in
    let a = length-append (ps ++ packets_of (take i rows)) (p ∷ []) in
    let b = length-append ps (packets_of (take (i + 1) rows)) in
    let f = packets_fewer rows (i + 1) in
    omega (arith, one, a, b, f)

-- a row that sent a packet is one of rows that did
pub some_packets : (rows : List Row) (i : ℕ) (r : Row) (p : Packet) → i < length rows → r ≡ get_or rows i r → r.sent ≡ Some p
    → 0 < length (packets_of rows)
some_packets rows i r p lt e s =
    let one = ap length (one_more [] rows i r p lt e s) in
    let a = length-append (packets_of (take i rows)) (p ∷ []) in
    let f = packets_fewer rows (i + 1) in
    omega (arith, one, a, f)

-- ---- several lists of rows

pub joined-append : {A : Type 0} (xs ys : List (List A)) → joined (xs ++ ys) ≡ joined xs ++ joined ys
joined-append [] ys = refl
joined-append (x ∷ xs) ys = ap (λ l. x ++ l) (joined-append xs ys) ∙ sym (append_assoc x (joined xs) (joined ys))

pub packets_joined : (rs : List Row) (more : List (List Row)) → packets_of (joined (rs ∷ more)) ≡ packets_of rs ++ packets_of (joined more)
packets_joined rs more = filter_map-append (λ (r : Row). r.sent) rs (joined more)

pub one_more_list : (ls : List (List Row)) (i : ℕ) (rs : List Row) → i < length ls → rs ≡ get_or ls i rs → packets_of (joined (take i ls))
    ++ packets_of rs ≡ packets_of (joined (take (i + 1) ls))
one_more_list ls i rs lt e = sym (
    ap (λ l. packets_of (joined l)) (take_more ls i rs lt)
    ∙ ap packets_of (joined-append (take i ls) (get_or ls i rs ∷ []))
    ∙ filter_map-append (λ (r : Row). r.sent) (joined (take i ls)) (get_or ls i rs ++ [])
    ∙ ap (λ l. packets_of (joined (take i ls)) ++ packets_of l) (append-nil (get_or ls i rs) ∙ sym e)
    )

pub few_in_list : (ls : List (List Row)) (i : ℕ) (rs : List Row) → i < length ls → rs ≡ get_or ls i rs
    → length (packets_of (joined (take i ls))) + length (packets_of rs) ≤ length (packets_of (joined ls))
few_in_list [] i rs lt e = absurd (omega arith)
few_in_list (l ∷ ls) zero rs lt e =
    let same : length (packets_of rs) ≡ length (packets_of l) = ap (λ l. length (packets_of l)) e in
    let all = ap length (packets_joined l ls) ∙ length-append (packets_of l) (packets_of (joined ls)) in
    omega (arith, same, all)
few_in_list (l ∷ ls) (suc i) rs lt e =
    let more = few_in_list ls i rs (omega arith) e in
    let some = ap length (packets_joined l (take i ls)) ∙ length-append (packets_of l) (packets_of (joined (take i ls))) in
    let all = ap length (packets_joined l ls) ∙ length-append (packets_of l) (packets_of (joined ls)) in
    omega (arith, more, some, all)

pub some_in_list : (ls : List (List Row)) (i : ℕ) (rs : List Row) → i < length ls → rs ≡ get_or ls i rs → 0 < length (packets_of rs)
    → 0 < length (packets_of (joined ls))
some_in_list ls i rs lt e h = let f = few_in_list ls i rs lt e in omega arith

pub some_list : (ls : List (List Row)) → 0 < length (packets_of (joined ls)) → 0 < length ls
some_list [] h = absurd (omega arith)
some_list (rs ∷ ls) h = omega arith

-- ---- nothing is counted yet

nothing_from : (s : Traffic) (l n : ℕ) → replicate (5 * n) 0 ≡ flat_map (crossings_at s []) (range_with_len l n)
nothing_from s l zero = refl
nothing_from s l (suc n) =
    let e : 5 * suc n ≡ suc (suc (suc (suc (suc (5 * n))))) = omega arith in
    ap (λ k. replicate k 0) e ∙ ap (λ t. 0 ∷ 0 ∷ 0 ∷ 0 ∷ 0 ∷ t) (nothing_from s (l + 1) n)

pub nothing_counted : (s : Traffic) → nothing_at s.links ≡ numbers_of s []
unfolding numbers_of
nothing_counted s = nothing_from s 0 s.links

pub numbers_are : (s : Traffic) (rows : List Row) → numbers_of s (packets_of rows) ≡ crossings s rows
unfolding numbers_of crossings
numbers_are s rows = refl
