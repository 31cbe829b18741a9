-- Rows, packets and counts of a trace that grows by a row.
use Rattle.std.proofs.Common.{◌≡◌, ℕ, zero, suc, ◌<◌, ◌+◌, Bool, true, false, cond, ◌&&◌, List, [], ◌∷◌, ◌++◌, refl, sym, ap, ◌∙◌}
use Rattle.std.proofs.Common.{◌≢◌, ◌⊎◌, inl, inr, arith, Ordering, Some, is_lt}
use Rattle.std.proofs.Common.{◌==◌}
use Rattle.std.specs.List.{Contains, count_by}
use Rattle.std.proofs.lemmas.List.Sums.{sum_by-cons}
use Rattle.std.proofs.lemmas.List.Elements.{Contains-append_left, Contains-append_right, Contains-append_cases}
use Rattle.std.proofs.lemmas.Bool.{and_right}
use Rattle.srm_net.specs.declared.packet.PacketId.{PacketId}
use Rattle.srm_net.specs.declared.packet.Packet.{Packet}
use Rattle.srm_net.specs.Orders.{place}
use Rattle.srm_net.proofs.Basics.{one_if}
use Rattle.srm_member.specs.declared.row.About.{About}
use Rattle.srm_member.specs.declared.row.About.TheVariants.{Of}
use Rattle.srm_member.specs.declared.row.Row.{Row}
use Rattle.srm_model.specs.Handed.{SentIn, same_packet, is_about, is_arrival_of}

-- ---- elements

pub contains_none : {A : Type 0} (x : A) → Contains [] x → ⊥
contains_none x h = let l = h.1 in omega arith

pub contains_one : {A : Type 0} (x y : A) → Contains (y ∷ []) x → y ≡ x
contains_one x y (zero, l, e) = e
contains_one x y (suc k, l, e) = absurd (let m : suc k < 1 = l in omega arith)

pub contains_last : {A : Type 0} (xs : List A) (y : A) → Contains (xs ++ y ∷ []) y
contains_last xs y = Contains-append_right xs (y ∷ []) y (0, omega arith, refl)

pub contains_cases : {A : Type 0} (xs : List A) (y x : A) → Contains (xs ++ y ∷ []) x → Contains xs x ⊎ (y ≡ x)
contains_cases xs y x h = elim (Contains-append_cases xs (y ∷ []) x h) [ inl g ↦ inl g | inr g ↦ inr (contains_one x y g) ]

-- ---- packets that rows sent

pub sent_more : (p : Packet) (rows more : List Row) → SentIn p rows → SentIn p (rows ++ more)
sent_more p rows more h = (h.0, Contains-append_left rows more h.0 h.1, h.2)

pub sent_cases : (p : Packet) (rows : List Row) (r : Row) → SentIn p (rows ++ r ∷ []) → SentIn p rows ⊎ (r.sent ≡ Some p)
sent_cases p rows r h = elim (contains_cases rows r h.0 h.1) [ inl g ↦ inl (h.0, g, h.2) | inr g ↦ inr (ap (λ (q : Row). q.sent) g ∙ h.2) ]

pub sent_now : (p : Packet) (rows : List Row) (r : Row) → r.sent ≡ Some p → SentIn p (rows ++ r ∷ [])
sent_now p rows r h = (r, contains_last rows r, h)

-- ---- counts

pub count_first : {A : Type 0} (q : A → Bool) (x : A) (xs : List A) → count_by q (x ∷ xs) ≡ one_if (q x) + count_by q xs
count_first q x xs = sum_by-cons (λ y. cond (q y) 1 0) x xs

pub count_none : {A : Type 0} (q : A → Bool) (xs : List A) → ((x : A) → Contains xs x → q x ≡ false) → count_by q xs ≡ 0
count_none q [] h = refl
count_none q (x ∷ xs) h =
    let e : one_if (q x) ≡ 0 = ap one_if (h x (Contains-append_left (x ∷ []) xs x (0, omega arith, refl))) in
    let g = count_none q xs (λ y c. h y (Contains-append_right (x ∷ []) xs y c)) in
    count_first q x xs ∙ Rattle.std.proofs.Common.ap₂ (λ a b. a + b) e g

count_cond : {A : Type 0} (q : A → Bool) (b : Bool) (xs ys : List A) (n : ℕ) → count_by q xs ≡ n → count_by q ys ≡ n
    → count_by q (cond b xs ys) ≡ n
count_cond q true xs ys n h g = h
count_cond q false xs ys n h g = g

pub count_place : {A : Type 0} (q : A → Bool) (cmp : A → A → Ordering) (x : A) (xs : List A) → count_by q (place cmp x xs)
    ≡ one_if (q x) + count_by q xs
count_place q cmp x [] = count_first q x []
count_place q cmp x (y ∷ ys) =
    let g = count_place q cmp x ys in
    count_cond q (is_lt (cmp y x)) (y ∷ place cmp x ys) (x ∷ y ∷ ys) (one_if (q x) + count_by q (y ∷ ys))
    (let a = count_first q y (place cmp x ys) in let b = count_first q y ys in omega arith) (count_first q x (y ∷ ys))

-- ---- identities of packets

pub is_same : (p q : PacketId) → same_packet p q ≡ true → p ≡ q
is_same p q h = grind arith

pub not_same : (p q : PacketId) → p ≢ q → same_packet p q ≡ false
not_same p q ne = grind arith

pub same_self : (p : PacketId) → same_packet p p ≡ true
same_self p = let a : (p.sender == p.sender) ≡ true = Rattle.std.proofs.Common.eq-eqb _ _ refl in let b : (p.count == p.count)
    ≡ true = Rattle.std.proofs.Common.eq-eqb _ _ refl in simp (a, b)

pub not_of : (k : PacketId) (a : About) → ((q : Packet) → a ≡ Of q → k ≢ q.id) → is_about k a ≡ false
not_of k a h = grind arith

pub not_arrival : (k : PacketId) (m : ℕ) (r : Row) → ((q : Packet) → r.about ≡ Of q → k ≢ q.id) → is_arrival_of k m r ≡ false
not_arrival k m r h = ap (λ b. (r.key.member == m) && b) (not_of k r.about h) ∙ and_right (r.key.member == m) false refl

pub here : (k : PacketId) (q : Packet) (m : ℕ) (r : Row) → r.key.member ≡ m → r.about ≡ Of q → is_arrival_of k m r ≡ same_packet k q.id
here k q m r e a = let b : (r.key.member == m) ≡ true = Rattle.std.proofs.Common.eq-eqb _ _ e in ap (λ b. b && is_about k r.about) b
    ∙ ap (is_about k) a

-- ---- a row of a list, and the rows before it

pub contained_split : {A : Type 0} (xs : List A) (x : A) → Contains xs x → (before : List A) × (after : List A) × (xs ≡ before ++ x ∷ after)
contained_split [] x h = absurd (contains_none x h)
contained_split (y ∷ ys) x (zero, l, e) = ([], ys, ap (λ z. z ∷ ys) e)
contained_split (y ∷ ys) x (suc k, l, e) = let r = contained_split ys x (k, omega arith, e) in (y ∷ r.0, r.1, ap (λ l. y ∷ l) r.2)

abbrev pub IsSplit : List Row → List Row → Row → List Row → Type 0
IsSplit rows before r after = rows ≡ before ++ r ∷ after

pub no_split : (rows after : List Row) (r : Row) → IsSplit [] rows r after → ⊥
no_split [] after r e = cc
no_split (b ∷ rows) after r e = cc

same_head : {A : Type 0} (x y : A) (xs ys : List A) → x ∷ xs ≡ y ∷ ys → x ≡ y
same_head x y xs ys e = cc

same_tail : {A : Type 0} (x y : A) (xs ys : List A) → x ∷ xs ≡ y ∷ ys → xs ≡ ys
same_tail x y xs ys e = cc

-- where a list has one row more, that row is the last one, or stands in the list before
pub split_cases : (rows : List Row) (q : Row) (before : List Row) (r : Row) (after : List Row) → IsSplit (rows ++ q ∷ []) before r after
    → ((q ≡ r) × (before ≡ rows)) ⊎ ((more : List Row) × IsSplit rows before r more)
split_cases [] q [] r after e = inl (same_head _ _ _ _ e, refl)
split_cases [] q (b ∷ []) r after e = let t = same_tail _ _ _ _ e in cc
split_cases [] q (b ∷ c ∷ bs) r after e = let t = same_tail _ _ _ _ e in cc
split_cases (x ∷ rows) q [] r after e = inr (rows, ap (λ y. y ∷ rows) (same_head _ _ _ _ e))
split_cases (x ∷ rows) q (b ∷ bs) r after e = elim (split_cases rows q bs r after (same_tail _ _ _ _ e)) [
  | inl h ↦ inl (h.0, λ i. same_head _ _ _ _ (sym e) i ∷ h.1 i)
  | inr h ↦ inr (h.0, λ i. same_head _ _ _ _ e i ∷ h.1 i)
]
