-- A line of flights, and others apart from it: what a flight more or less in either changes of them all in order.
use Rattle.std.proofs.Common.{◌≡◌, ◌≢◌, ℕ, zero, suc, ◌<◌, ◌≤◌, ◌-◌, arith, length, insert, slice_index_or, Result, Ok, Err, OnOk, OnErr}
use Rattle.std.proofs.Common.{◌⊎◌, inl, inr, ◌+◌, length-append}
use Rattle.std.proofs.lemmas.List.{get_or-append-add}
use Rattle.std.proofs.Common.{MatchOption, None}
use Rattle.std.proofs.Common.{true, false, cond, List, [], ◌∷◌, ◌++◌, Option, Some, slice_get, refl, sym, ap, ◌∙◌, subst}
use Rattle.std.proofs.Common.{Ordering, Equal, is_lt, true≢false}
use Rattle.std.proofs.lemmas.List.Edits.{insert_end}
use Rattle.std.specs.Ordering.{ordering_reverse}
use Rattle.std.specs.Cmp.{IsTotalOrder}
use Rattle.std.specs.List.Sorted.{IsPartitionPoint, IsPartitionedBy}
use Rattle.srm_net.specs.declared.packet.Body.TheVariants as body
use Rattle.srm_net.specs.declared.packet.PacketId.{PacketId}
use Rattle.srm_net.specs.Orders.{place, ordered, NoneBelow, Rises}
use Rattle.srm_net.proofs.Basics.{nth_number}
use Rattle.srm_member.proofs.AllIn.{AllIn}
use Rattle.srm_member.proofs.OrderLemmas.{From, none_below_from, place-comm, place_first, rises_place, none_below_cond}
use Rattle.srm_cell.specs.declared.flight.Flight.{Flight}
use Rattle.srm_cell.specs.Flights.{flight_cmp, BringsNone, turn_of, place_cmp, flight_total}
use Rattle.srm_cell.specs.InboxLines.{follows, leads, goes_before, IsPlaceIn}

-- ---- lists in an order

module _ {A : Type 0} (cmp : A → A → Ordering) (o : IsTotalOrder cmp) where
  abbrev pub Apart : A → List A → Type 0
  Apart x ys = AllIn (λ y. cmp x y ≢ Equal) ys

  -- a list that rises is in order
  pub ordered_same : (xs : List A) → Rises cmp xs → ordered cmp xs ≡ xs
  ordered_same [] h = refl
  ordered_same (x ∷ xs) h = ap (place cmp x) (ordered_same xs h.1) ∙ place_first cmp o x xs h.0

  apart_back : (x y : A) → cmp x y ≢ Equal → cmp y x ≢ Equal
  apart_back x y h g = h (o.antisymm x y ∙ ap ordering_reverse g)

  pub ordered_placed : (x : A) (ys zs : List A) → Apart x ys → ordered cmp (place cmp x ys ++ zs) ≡ place cmp x (ordered cmp (ys ++ zs))
  ordered_placed x [] zs h = refl
  ordered_placed x (y ∷ ys) zs h = elim (is_lt (cmp y x)) as (λ b. ordered cmp (cond b (y ∷ place cmp x ys) (x ∷ y ∷ ys) ++ zs)
      ≡ place cmp x (ordered cmp (y ∷ ys ++ zs))) [
        | true ↦ ap (place cmp y) (ordered_placed x ys zs h.1) ∙ place-comm cmp o y x (apart_back x y h.0) (ordered cmp (ys ++ zs))
        | false ↦ refl
      ]

  pub ordered_among : (x : A) (ys zs : List A) → Rises cmp zs → Apart x ys
      → ordered cmp (ys ++ place cmp x zs) ≡ place cmp x (ordered cmp (ys ++ zs))
  ordered_among x [] zs r h = ordered_same (place cmp x zs) (rises_place cmp o x zs r) ∙ ap (place cmp x) (sym (ordered_same zs r))
  ordered_among x (y ∷ ys) zs r h =
      ap (place cmp y) (ordered_among x ys zs r h.1) ∙ place-comm cmp o y x (apart_back x y h.0) (ordered cmp (ys ++ zs))

  none_below_place : (k x : A) (ys : List A) → From cmp o k x → NoneBelow cmp k ys → NoneBelow cmp k (place cmp x ys)
  none_below_place k x [] h g = (h, tt)
  none_below_place k x (y ∷ ys) h g = none_below_cond cmp o k (is_lt (cmp y x))
      (y ∷ place cmp x ys) (x ∷ y ∷ ys) (g.0, none_below_place k x ys h g.1) (h, g)

  pub none_below_ordered : (k : A) (xs : List A) → NoneBelow cmp k xs → NoneBelow cmp k (ordered cmp xs)
  none_below_ordered k [] h = tt
  none_below_ordered k (x ∷ xs) h = none_below_place k x (ordered cmp xs) h.0 (none_below_ordered k xs h.1)

  none_below_both : (k : A) (xs ys : List A) → NoneBelow cmp k xs → NoneBelow cmp k ys → NoneBelow cmp k (xs ++ ys)
  none_below_both k [] ys h g = g
  none_below_both k (x ∷ xs) ys h g = (h.0, none_below_both k xs ys h.1 g)

  -- the first of the others goes first, where the first of the line does not go before it
  pub ordered_other : (y : A) (ys zs : List A) → NoneBelow cmp y ys → NoneBelow cmp y zs → ordered cmp (y ∷ ys ++ zs)
      ≡ y ∷ ordered cmp (ys ++ zs)
  ordered_other y ys zs h g = place_first cmp o y (ordered cmp (ys ++ zs)) (none_below_ordered y (ys ++ zs) (none_below_both y ys zs h g))

  -- the first of the line goes first, where it goes before each of the others
  pub ordered_first : (x : A) (ys zs : List A) → AllIn (λ y. is_lt (cmp x y) ≡ true) ys → NoneBelow cmp x zs
      → ordered cmp (ys ++ x ∷ zs) ≡ x ∷ ordered cmp (ys ++ zs)
  ordered_first x [] zs h g = place_first cmp o x (ordered cmp zs) (none_below_ordered x zs g)
  ordered_first x (y ∷ ys) zs h g =
      ap (place cmp y) (ordered_first x ys zs h.1 g) ∙
      ap (λ b. cond b (x ∷ place cmp y (ordered cmp (ys ++ zs))) (y ∷ x ∷ ordered cmp (ys ++ zs))) h.0

  -- what is before y is before all that is not before y
  before_from : (x y z : A) → is_lt (cmp x y) ≡ true → From cmp o y z → is_lt (cmp x z) ≡ true
  before_from x y z h g = grind arith

  pub before_all : (x y : A) (ys : List A) → is_lt (cmp x y) ≡ true → NoneBelow cmp y ys → AllIn (λ z. is_lt (cmp x z) ≡ true) ys
  before_all x y [] h g = tt
  before_all x y (z ∷ zs) h g = (before_from x y z h g.0, before_all x y zs h g.1)

  -- what is not behind one that goes before x goes before x too
  pub earlier : (x y z : A) → From cmp o y z → is_lt (cmp z x) ≡ true → is_lt (cmp y x) ≡ true
  earlier x y z h q = grind arith

  none_below_at : (y : A) (ys : List A) (j : ℕ) (d : A) → NoneBelow cmp y ys → j < length ys → From cmp o y (slice_index_or ys j d)
  none_below_at y [] j d h lt = absurd (omega arith)
  none_below_at y (z ∷ zs) zero d h lt = h.0
  none_below_at y (z ∷ zs) (suc j) d h lt = none_below_at y zs j d h.1 (omega arith)

  -- of what rises, those that go before x stand before the others
  pub partitioned : (x : A) (ys : List A) → Rises cmp ys → IsPartitionedBy (λ y. is_lt (cmp y x)) ys
  partitioned x [] h i j d le lt q = absurd (omega arith)
  partitioned x (y ∷ ys) h zero zero d le lt q = q
  partitioned x (y ∷ ys) h zero (suc j) d le lt q =
      earlier x y (slice_index_or ys j d) (none_below_at y ys j d h.0 (omega arith)) q
  partitioned x (y ∷ ys) h (suc i) zero d le lt q = absurd (omega arith)
  partitioned x (y ∷ ys) h (suc i) (suc j) d le lt q = partitioned x ys h.1 i j d (omega arith) (omega arith) q

  -- what is put in where those before it end stands in its place among them
  pub inserted : (x : A) (ys : List A) (p : ℕ) → p ≤ length ys
      → IsPartitionPoint (λ y. is_lt (cmp y x) ≡ true) (λ y. is_lt (cmp y x) ≡ false) ys p → insert ys p x ≡ place cmp x ys
  inserted x [] zero le h = refl
  inserted x [] (suc p) le h = absurd (omega arith)
  inserted x (y ∷ ys) zero le h =
      sym (ap (λ b. cond b (y ∷ place cmp x ys) (x ∷ y ∷ ys)) (h.1 0 y (omega arith) (omega arith)))
  inserted x (y ∷ ys) (suc p) le h =
      let rest = inserted x ys p (omega arith) (
        λ j d low high. h.0 (suc j) d (omega arith) (omega arith),
        λ j d low high. h.1 (suc j) d (omega arith) (omega arith),
      ) in
      ap (λ l. y ∷ l) rest ∙ sym (ap (λ b. cond b (y ∷ place cmp x ys) (x ∷ y ∷ ys)) (h.0 0 y (omega arith) (omega arith)))

-- ---- flights

-- flights of one turn bring one packet
tie : (f g : Flight) → flight_cmp f g ≡ Equal → f.packet.id ≡ g.packet.id
unfolding nth_number
tie f g q = grind arith

abbrev pub Climbs : List Flight → Type 0
Climbs fs = Rises flight_cmp fs

-- a flight with this arrival and packet
abbrev pub flight_at : ℕ × PacketId → Flight
flight_at k = record {
  arrival = k.0;
  packet = record { id = k.1; sent = 0; body = body.Request (record { source = 0; page = 0; number = 0 }) None };
}

all_before : (g : Flight) (fs : List Flight) → Climbs fs → follows (turn_of g) fs ≡ true → (j : ℕ) (d : Flight) → j < length fs
    → goes_before (turn_of g) (slice_index_or fs j d) ≡ true
all_before g [] h q j d lt = absurd (omega arith)
all_before g (f ∷ []) h q zero d lt = q
all_before g (f ∷ []) h q (suc j) d lt = absurd (omega arith)
all_before g (f ∷ e ∷ fs) h q zero d lt = earlier flight_cmp flight_total g f e h.0.0 (all_before g (e ∷ fs) h.1 q zero d (omega arith))
all_before g (f ∷ e ∷ fs) h q (suc j) d lt = all_before g (e ∷ fs) h.1 q j d (omega arith)

-- the place of a flight that follows a line is behind it
pub last_place : (g : Flight) (fs : List Flight) → Climbs fs → follows (turn_of g) fs ≡ true → IsPlaceIn (turn_of g) fs (length fs)
last_place g fs h q = (omega arith, (λ j d low high. all_before g fs h q j d high, λ j d low high. absurd (omega arith)))

brings_placed : (id : PacketId) (g : Flight) (fs : List Flight) → BringsNone id (place flight_cmp g fs) → (g.packet.id ≢ id)
    × BringsNone id fs
brings_placed id g [] h = h
brings_placed id g (f ∷ fs) h =
    elim (is_lt (flight_cmp f g)) as (λ b. BringsNone id (cond b (f ∷ place flight_cmp g fs) (g ∷ f ∷ fs)) → (g.packet.id ≢ id)
    × BringsNone id (f ∷ fs)) [
      | true ↦ λ n. let more = brings_placed id g fs n.1 in (more.0, (n.0, more.1))
      | false ↦ λ n. n
    ] h

pub brings_others : (id : PacketId) (xs ys : List Flight) → BringsNone id (ordered flight_cmp (xs ++ ys)) → BringsNone id xs
brings_others id [] ys h = tt
brings_others id (x ∷ xs) ys h = let p = brings_placed id x (ordered flight_cmp (xs ++ ys)) h in (p.0, brings_others id xs ys p.1)

pub apart : (f : Flight) (xs : List Flight) → BringsNone f.packet.id (ordered flight_cmp xs) → Apart flight_cmp flight_total f xs
apart f [] h = tt
apart f (x ∷ xs) h = let p = brings_placed f.packet.id x (ordered flight_cmp xs) h in (λ q. p.0 (sym (tie f x q)), apart f xs p.1)

apart_others : (f : Flight) (xs ys : List Flight) → Apart flight_cmp flight_total f (xs ++ ys) → Apart flight_cmp flight_total f xs
apart_others f [] ys h = tt
apart_others f (x ∷ xs) ys h = (h.0, apart_others f xs ys h.1)

-- a flight put into the line at its place
pub put_in : (f : Flight) (fs : List Flight) (p : ℕ) → IsPlaceIn (turn_of f) fs p → insert fs p f ≡ place flight_cmp f fs
put_in f fs p h = inserted flight_cmp flight_total f fs p h.0 h.1

pub last_rise : (xs ys : List Flight) → Climbs (xs ++ ys) → Climbs ys
last_rise [] ys h = h
last_rise (x ∷ xs) ys h = last_rise xs ys h.1

-- a flight put into the last part of the line, where it goes behind one of that part, or there is no other
pub put_in_last : (f : Flight) (xs ys : List Flight) (p : ℕ) → Climbs (xs ++ ys) → IsPlaceIn (turn_of f) ys p → (0 < p) ⊎ (xs ≡ [])
    → xs ++ insert ys p f ≡ place flight_cmp f (xs ++ ys)
put_in_last f [] ys p h at some = put_in f ys p at
put_in_last f (x ∷ xs) ys p h at (inl some) =
    let z = slice_index_or ys (p - 1) f in
    let before : is_lt (flight_cmp z f) ≡ true = at.1.0 (p - 1) f (omega arith) (omega arith) in
    let both = length-append xs ys in
    let from : From flight_cmp flight_total x z = subst (From flight_cmp flight_total x) (get_or-append-add xs ys (p - 1) f)
    (none_below_at flight_cmp flight_total x (xs ++ ys) (length xs + (p - 1)) f h.0 (omega arith)) in
    ap (λ l. x ∷ l) (put_in_last f xs ys p h.1 at (inl some))
    ∙ sym (ap (λ b. cond b (x ∷ place flight_cmp f (xs ++ ys)) (f ∷ x ∷ (xs ++ ys)))
    (earlier flight_cmp flight_total f x z from before))
put_in_last f (x ∷ xs) ys p h at (inr none) = cc

-- a flight that follows the line stands in its place behind it
pub put_behind : (f : Flight) (fs : List Flight) → Climbs fs → follows (turn_of f) fs ≡ true → fs ++ f ∷ [] ≡ place flight_cmp f fs
put_behind f fs h q = sym (insert_end fs f) ∙ put_in f fs (length fs) (last_place f fs h q)

pub line_rises : (f : Flight) (fs : List Flight) → Climbs fs → Climbs (place flight_cmp f fs)
line_rises f fs h = rises_place flight_cmp flight_total f fs h

pub lined_up : (f : Flight) (xs ys : List Flight) → Climbs ys → BringsNone f.packet.id (ordered flight_cmp (xs ++ ys))
    → ordered flight_cmp (xs ++ place flight_cmp f ys) ≡ place flight_cmp f (ordered flight_cmp (xs ++ ys))
lined_up f xs ys r h = ordered_among flight_cmp flight_total f xs ys r (apart_others f xs ys (apart f (xs ++ ys) h))

-- a flight put among the others
pub strayed : (f : Flight) (xs ys : List Flight) → BringsNone f.packet.id (ordered flight_cmp (xs ++ ys))
    → ordered flight_cmp (place flight_cmp f xs ++ ys) ≡ place flight_cmp f (ordered flight_cmp (xs ++ ys))
strayed f xs ys h = ordered_placed flight_cmp flight_total f xs ys (apart_others f xs ys (apart f (xs ++ ys) h))

ahead : (f : Flight) (fs xs : List Flight) → leads (f ∷ fs) xs ≡ true → Climbs xs → AllIn (λ x. is_lt (flight_cmp f x) ≡ true) xs
ahead f fs [] q h = tt
ahead f fs (x ∷ xs) q h = (q, before_all flight_cmp flight_total f x xs q h.0)

-- the first of the line is the first of all
pub line_first : (f : Flight) (fs xs : List Flight) → leads (f ∷ fs) xs ≡ true → Climbs xs → Climbs (f ∷ fs)
    → ordered flight_cmp (xs ++ f ∷ fs) ≡ f ∷ ordered flight_cmp (xs ++ fs)
line_first f fs xs q h g = ordered_first flight_cmp flight_total f xs fs (ahead f fs xs q h) g.0

behind : (x : Flight) (xs fs : List Flight) → leads fs (x ∷ xs) ≡ false → Climbs fs → NoneBelow flight_cmp x fs
behind x xs [] q h = tt
behind x xs (f ∷ fs) q h = (q, none_below_from flight_cmp flight_total x f fs q h.0)

-- the first of the others is the first of all
pub other_first : (x : Flight) (xs fs : List Flight) → leads fs (x ∷ xs) ≡ false → Climbs (x ∷ xs) → Climbs fs
    → ordered flight_cmp (x ∷ xs ++ fs) ≡ x ∷ ordered flight_cmp (xs ++ fs)
other_first x xs fs q h g = ordered_other flight_cmp flight_total x xs fs h.0 (behind x xs fs q g)

-- there is none at all
pub none_first : (fs : List Flight) → leads fs [] ≡ false → ordered flight_cmp fs ≡ []
none_first [] q = refl
none_first (f ∷ fs) q = absurd (true≢false q)

-- ---- what the calls tell

last_is : (k : ℕ × PacketId) (f : Flight) (fs : List Flight) (x : Flight) → x ≡ slice_index_or (f ∷ fs) (length fs) x
    → is_lt (place_cmp (turn_of x) k) ≡ follows k (f ∷ fs)
last_is k f [] x h = ap (λ y. is_lt (place_cmp (turn_of y) k)) h
last_is k f (g ∷ fs) x h = last_is k g fs x h

pub last_follows : (k : ℕ × PacketId) (fs : List Flight) (n : ℕ) (x : Flight) → n ≡ length fs → 0 < n → x ≡ slice_index_or fs (n - 1) x
    → is_lt (place_cmp (turn_of x) k) ≡ follows k fs
last_follows k [] n x e lt h = absurd (omega arith)
last_follows k (f ∷ fs) n x e lt h =
    let before : n - 1 ≡ length fs = omega arith in
    last_is k f fs x (subst (λ i. x ≡ slice_index_or (f ∷ fs) i x) before h)

pub others_rise : {E : Type 0} (r : Result Unit E) (f : Flight) (old new : List Flight) → OnOk r (new ≡ place flight_cmp f old)
    → OnErr r (new ≡ old) → Climbs old → Climbs new
others_rise (Ok x) f old new ok err h = subst Climbs (sym ok) (rises_place flight_cmp flight_total f old h)
others_rise (Err x) f old new ok err h = subst Climbs (sym err) h

pub other_added : {E : Type 0} (r : Result Unit E) (f : Flight) (old new fs v : List Flight) → OnOk r (new ≡ place flight_cmp f old)
    → ordered flight_cmp (old ++ fs) ≡ v → BringsNone f.packet.id v → OnOk r (ordered flight_cmp (new ++ fs) ≡ place flight_cmp f v)
other_added r f old new fs v ok view h = grind (arith, strayed)

pub first_other : (fs xs : List Flight) → leads fs xs ≡ false → Climbs xs
    → Climbs fs → slice_get xs 0 ≡ slice_get (ordered flight_cmp (xs ++ fs)) 0
first_other fs [] q h g = sym (ap (λ (l : List Flight). slice_get l 0) (none_first fs q))
first_other fs (x ∷ xs) q h g = sym (ap (λ (l : List Flight). slice_get l 0) (other_first x xs fs q h g))

pub first_line : (fs xs : List Flight) (x : Flight) → leads fs xs ≡ true → Climbs xs → Climbs fs → x ≡ slice_index_or fs 0 x
    → Some x ≡ slice_get (ordered flight_cmp (xs ++ fs)) 0
first_line [] xs x q h g is = absurd (true≢false (sym q))
first_line (f ∷ fs) xs x q h g is = ap Some is ∙ sym (ap (λ (l : List Flight). slice_get l 0) (line_first f fs xs q h g))

pub line_popped : (f : Flight) (fs rest xs v : List Flight) → fs ≡ f ∷ rest → leads fs xs ≡ true → Climbs xs → Climbs fs
    → ordered flight_cmp (xs ++ fs) ≡ v → v ≡ f ∷ ordered flight_cmp (xs ++ rest)
line_popped f fs rest xs v is q h g view = grind (arith, line_first)

pub other_popped : (r : Option Flight) (xs rest fs v : List Flight) → MatchOption r ((xs ≡ []) × (rest ≡ [])) (λ f. xs ≡ f ∷ rest)
    → leads fs xs ≡ false → Climbs xs → Climbs fs → ordered flight_cmp (xs ++ fs) ≡ v
    → MatchOption r ((v ≡ []) × (ordered flight_cmp (rest ++ fs) ≡ [])) (λ f. v ≡ f ∷ ordered flight_cmp (rest ++ fs))
other_popped r xs rest fs v is q h g view = grind (arith, other_first)
