-- Sets of drops, and what their lists have.
use Rattle.std.proofs.Common.{◌≡◌, ℕ, zero, suc, ◌<◌, Bool, true, false, cond, ◌&&◌, ◌||◌, ◌==◌, List, [], ◌∷◌, ◌++◌, length, refl, ap}
use Rattle.std.proofs.Common.{◌∙◌, inl, inr, arith, eqb, eq-eqb, Contains, Ordering, Less, Equal, Greater}
use Rattle.std.specs.List.{list_any}
use Rattle.std.specs.Ordering.{match_ordering, ordering_reverse}
use Rattle.std.specs.Cmp.{IsTotalOrder}
use Rattle.std.proofs.lemmas.Bool.{both_ways, false_from_ne_true, and_parts, and_from, or_cases, or_left}
use Rattle.std.proofs.lemmas.Bool.{or_right, false≢true}
use Rattle.srm_net.specs.declared.link.DropSpec.{DropSpec}
use Rattle.srm_net.specs.declared.packet.PacketId.{PacketId}
use Rattle.srm_net.specs.Orders.{AllAfter, Ascends}
use Rattle.srm_net.specs.Paths.{drop_cmp, is_listed}
use Rattle.srm_net.specs.Listed.{is_listed_somewhere}
use Rattle.srm_net.specs.DropSets.{with_once, ordered_once, has_packet}
use Rattle.srm_net.proofs.Basics.{after_less, or_turn}
use Rattle.srm_net.proofs.TotalOrders.{drop_total}

-- ---- lists in order, each element once

module _ {A : Type 0} (cmp : A → A → Ordering) (o : IsTotalOrder cmp) where
  after_once : (x y : A) (zs : List A) → cmp y x ≡ Less → AllAfter cmp y zs → AllAfter cmp y (with_once cmp x zs)
  after_once x y [] h a = (h, tt)
  after_once x y (z ∷ zs) h a =
      elim (cmp x z) as (λ r. AllAfter cmp y (match_ordering r (x ∷ z ∷ zs) (z ∷ zs) (z ∷ with_once cmp x zs))) [
        | Less ↦ (h, a)
        | Equal ↦ a
        | Greater ↦ (a.0, after_once x y zs h a.1)
      ]

  ascends_once : (x : A) (zs : List A) → Ascends cmp zs → Ascends cmp (with_once cmp x zs)
  ascends_once x [] a = (tt, tt)
  ascends_once x (z ∷ zs) a =
      elim (cmp x z) as (λ r. cmp x z ≡ r → Ascends cmp (match_ordering r (x ∷ z ∷ zs) (z ∷ zs) (z ∷ with_once cmp x zs))) [
        | Less ↦ λ e. ((e, after_less cmp o x z zs e a.0), a)
        | Equal ↦ λ e. a
        | Greater ↦ λ e. (after_once x z zs (o.antisymm z x ∙ ap ordering_reverse e) a.0, ascends_once x zs a.1)
      ] refl

  pub ordered_ascends : (xs : List A) → Ascends cmp (ordered_once cmp xs)
  ordered_ascends [] = tt
  ordered_ascends (x ∷ xs) = ascends_once x (ordered_once cmp xs) (ordered_ascends xs)

or_same : (b c : Bool) → (b || c) ≡ (b || (b || c))
or_same true c = refl
or_same false c = refl

module _ {A : Type 0} (cmp : A → A → Ordering) (f : A → Bool) (same : (x y : A) → cmp x y ≡ Equal → f x ≡ f y) where
  any_once : (x : A) (zs : List A) → list_any f (with_once cmp x zs) ≡ (f x || list_any f zs)
  any_once x [] = refl
  any_once x (z ∷ zs) =
      elim (cmp x z) as (λ r. cmp x z ≡ r → list_any f (match_ordering r (x ∷ z ∷ zs) (z ∷ zs) (z ∷ with_once cmp x zs))
      ≡ (f x || (f z || list_any f zs))) [
        | Less ↦ λ e. refl
        | Equal ↦ λ e. rw (same x z e) (or_same (f z) (list_any f zs))
        | Greater ↦ λ e. ap (λ t. f z || t) (any_once x zs) ∙ or_turn (f z) (f x) (list_any f zs)
      ] refl

  pub any_ordered : (xs : List A) → list_any f (ordered_once cmp xs) ≡ list_any f xs
  any_ordered [] = refl
  any_ordered (x ∷ xs) = any_once x (ordered_once cmp xs) ∙ ap (λ t. f x || t) (any_ordered xs)

-- ---- drops

pub drops_ascend : (ds : List DropSpec) → Ascends drop_cmp (ordered_once drop_cmp ds)
drops_ascend ds = ordered_ascends drop_cmp drop_total ds

same_drop : (d e : DropSpec) → drop_cmp d e ≡ Equal → d ≡ e
same_drop d e h = grind arith

pub listed_ordered : (ds : List DropSpec) (p : PacketId) (l : ℕ) → is_listed (ordered_once drop_cmp ds) p l ≡ is_listed ds p l
listed_ordered ds p l = any_ordered drop_cmp (λ d. (d.link == l) && ((d.id.sender == p.sender) && (d.id.count == p.count)))
    (λ x y h. ap (λ d. (d.link == l) && ((d.id.sender == p.sender) && (d.id.count == p.count))) (same_drop x y h)) ds

eqb_turn : (a b : ℕ) → eqb a b ≡ eqb b a
eqb_turn a b = grind arith

-- the test by which a set of drops looks for an entry
abbrev pub sought : PacketId → ℕ → DropSpec → Bool
sought p l e = (l == e.link) && ((p.sender == e.id.sender) && (p.count == e.id.count))

pub listed_sought : (ds : List DropSpec) (p : PacketId) (l : ℕ) → list_any (sought p l) ds ≡ is_listed ds p l
listed_sought [] p l = refl
listed_sought (d ∷ ds) p l =
    let a : eqb l d.link ≡ eqb d.link l = eqb_turn l d.link in
    let b : eqb p.sender d.id.sender ≡ eqb d.id.sender p.sender = eqb_turn p.sender d.id.sender in
    let c : eqb p.count d.id.count ≡ eqb d.id.count p.count = eqb_turn p.count d.id.count in
    rw (a, b, c, listed_sought ds p l) refl

-- ---- the elements of a list of drops

pub listed_drop : (d : DropSpec) (p : PacketId) (l : ℕ) → ((d.link == l) && ((d.id.sender == p.sender) && (d.id.count == p.count))) ≡ true
    → d ≡ record { link = l; id = p }
listed_drop d p l h = grind arith

pub contains_listed : (ds : List DropSpec) (d : DropSpec) → is_listed ds d.id d.link ≡ true → Contains ds d
contains_listed [] d h = absurd (false≢true h)
contains_listed (e ∷ ds) d h =
    elim (or_cases _ _ h) [
      | inl t ↦ (0, omega arith, listed_drop e d.id d.link t)
      | inr t ↦ (let r = contains_listed ds d t in (suc r.0, (let k : r.0 < length ds = r.1 in omega arith), r.2))
    ]

pub listed_contains : (ds : List DropSpec) (d : DropSpec) → Contains ds d → is_listed ds d.id d.link ≡ true
listed_contains [] d (k, lt, e) = absurd (omega arith)
listed_contains (e ∷ ds) d (zero, lt, q) = or_left _ _ (and_from _ _ (eq-eqb e.link d.link (ap (λ (x : DropSpec). x.link) q))
    (and_from _ _ (eq-eqb e.id.sender d.id.sender (ap (λ (x : DropSpec). x.id.sender) q))
    (eq-eqb e.id.count d.id.count (ap (λ (x : DropSpec). x.id.count) q))))
listed_contains (e ∷ ds) d (suc k, lt, q) = or_right _ _ (listed_contains ds d (k, omega arith, q))

-- ---- one more entry

pub any_push : {A : Type 0} (f : A → Bool) (xs : List A) (x : A) → list_any f (xs ++ x ∷ []) ≡ cond (f x) true (list_any f xs)
any_push f [] x = elim (f x) as (λ b. (b || false) ≡ cond b true false) [ true ↦ refl | false ↦ refl ]
any_push f (y ∷ ys) x = ap (λ t. f y || t) (any_push f ys x) ∙ turn (f y) (f x) (list_any f ys)
  where
    turn : (a b c : Bool) → (a || cond b true c) ≡ cond b true (a || c)
    turn true true c = refl
    turn true false c = refl
    turn false true c = refl
    turn false false c = refl

-- what an insertion says, as what is listed
pub listed_more : (old new : List DropSpec) (d : DropSpec) (xs : List DropSpec) (p : PacketId) (l : ℕ)
    → list_any (sought p l) new ≡ cond (sought d.id d.link (record { link = l; id = p })) true (list_any (sought p l) old)
    → is_listed old p l ≡ is_listed xs p l → is_listed new p l ≡ is_listed (xs ++ d ∷ []) p l
listed_more old new d xs p l h e = grind (arith, listed_sought, any_push)

pub known_more : (ps qs : List PacketId) (d : DropSpec) (xs : List DropSpec) (p : PacketId)
    → has_packet qs p ≡ cond ((d.id.sender == p.sender) && (d.id.count == p.count)) true (has_packet ps p)
    → has_packet ps p ≡ is_listed_somewhere xs p → has_packet qs p ≡ is_listed_somewhere (xs ++ d ∷ []) p
known_more ps qs d xs p g e = grind (arith, any_push)

-- ---- listed at some link

pub somewhere_ordered : (ds : List DropSpec) (p : PacketId) → is_listed_somewhere (ordered_once drop_cmp ds) p ≡ is_listed_somewhere ds p
somewhere_ordered ds p = any_ordered drop_cmp (λ d. (d.id.sender == p.sender) && (d.id.count == p.count))
    (λ x y h. ap (λ d. (d.id.sender == p.sender) && (d.id.count == p.count)) (same_drop x y h)) ds

somewhere_from : (ds : List DropSpec) (p : PacketId) (l : ℕ) → is_listed ds p l ≡ true → is_listed_somewhere ds p ≡ true
somewhere_from [] p l h = absurd (false≢true h)
somewhere_from (d ∷ ds) p l h =
    elim (or_cases ((d.link == l) && ((d.id.sender == p.sender) && (d.id.count == p.count))) (is_listed ds p l) h) [
      | inl t ↦ or_left ((d.id.sender == p.sender) && (d.id.count == p.count)) (is_listed_somewhere ds p)
          ((and_parts (d.link == l) ((d.id.sender == p.sender) && (d.id.count == p.count)) t).1)
      | inr t ↦ or_right ((d.id.sender == p.sender) && (d.id.count == p.count)) (is_listed_somewhere ds p) (somewhere_from ds p l t)
    ]

somewhere_to : (ds : List DropSpec) (p : PacketId) → is_listed_somewhere ds p ≡ true → (l : ℕ) × (is_listed ds p l ≡ true)
somewhere_to [] p h = absurd (false≢true h)
somewhere_to (d ∷ ds) p h =
    elim (or_cases ((d.id.sender == p.sender) && (d.id.count == p.count)) (is_listed_somewhere ds p) h) [
      | inl t ↦ (
        d.link,
        or_left ((d.link == d.link) && ((d.id.sender == p.sender) && (d.id.count == p.count))) (is_listed ds p d.link)
            (and_from (d.link == d.link) ((d.id.sender == p.sender) && (d.id.count == p.count)) (eq-eqb d.link d.link refl) t),
      )
      | inr t ↦ (let r = somewhere_to ds p t in (
        r.0,
        or_right ((d.link == r.0) && ((d.id.sender == p.sender) && (d.id.count == p.count)))
            (is_listed ds p r.0) r.1,
      ))
    ]

pub nowhere_listed : (ds : List DropSpec) (p : PacketId) (l : ℕ) → is_listed_somewhere ds p ≡ false → is_listed ds p l ≡ false
nowhere_listed ds p l h = false_from_ne_true (is_listed ds p l) (λ t. both_ways (is_listed_somewhere ds p) h (somewhere_from ds p l t))

pub same_somewhere : (ds es : List DropSpec) (p : PacketId) → ((l : ℕ) → is_listed ds p l ≡ is_listed es p l) → is_listed_somewhere ds p
    ≡ is_listed_somewhere es p
same_somewhere ds es p h = grind (arith, somewhere_to, somewhere_from)
