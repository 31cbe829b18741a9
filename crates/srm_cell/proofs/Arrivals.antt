-- How many flights arrive before a tick.
use Rattle.std.proofs.Common.{◌≡◌, ℕ, zero, suc, ◌+◌, ◌<◌, ◌≤◌, Bool, true, false, cond, nat_lt, is_lt, List, [], ◌∷◌, ◌++◌}
use Rattle.std.proofs.Common.{length, length-append, take, drop, slice_index_or, refl, sym, ap, ◌∙◌, subst, arith}
use Rattle.std.proofs.lemmas.List.{length-take}
use Rattle.std.proofs.lemmas.List.Sums.{count_by-le-length, sum_by-append, sum_by-cons, sum_by_more}
use Rattle.std.proofs.Math.ListN.{get_or}
use Rattle.std.specs.List.Sorted.{IsPartitionPoint, IsPartitionedBy}
use Rattle.srm_net.specs.Orders.{place, ordered, NoneBelow}
use Rattle.srm_net.proofs.Basics.{one_if, nth_number}
use Rattle.srm_cell.specs.declared.flight.Flight.{Flight}
use Rattle.srm_cell.specs.Lines.{Deque, in_blocks}
use Rattle.srm_cell.specs.Flights.{arriving_before, flight_cmp, flight_total}
use Rattle.srm_cell.proofs.InboxLines.{Climbs, flight_at, last_rise, partitioned}
use Rattle.srm_cell.proofs.Lines.{around_block, one_block_more}

module _ (till : ℕ) where
  abbrev pub arrives : Flight → Bool
  arrives f = nat_lt f.arrival till

  pub arriving_first : (f : Flight) (fs : List Flight) → arriving_before till (f ∷ fs) ≡ one_if (arrives f) + arriving_before till fs
  arriving_first f fs = sum_by-cons (λ g. cond (arrives g) 1 0) f fs

  pub arriving_both : (fs gs : List Flight) → arriving_before till (fs ++ gs) ≡ arriving_before till fs + arriving_before till gs
  arriving_both fs gs = sum_by-append (λ g. cond (arrives g) 1 0) fs gs

  -- with one flight more of those that are counted one after the other
  pub arriving_more : (fs : List Flight) (i : ℕ) (f : Flight) → i < length fs → f ≡ get_or fs i f
      → arriving_before till (take (i + 1) fs) ≡ arriving_before till (take i fs) + one_if (arrives f)
  arriving_more fs i f lt is =
      sum_by_more (λ g. cond (arrives g) 1 0) fs i f lt ∙ ap (λ g. arriving_before till (take i fs) + one_if (arrives g)) (sym is)

  -- they are no more than have been looked at
  pub arriving_few : (fs : List Flight) (i : ℕ) → arriving_before till (take i fs) ≤ i
  arriving_few fs i =
      let few = count_by-le-length arrives (take i fs) in
      let long = length-take i fs in
      omega arith

  arriving_placed : (f : Flight) (fs : List Flight) → arriving_before till (place flight_cmp f fs) ≡ arriving_before till (f ∷ fs)
  arriving_placed f [] = refl
  arriving_placed f (g ∷ gs) =
      elim (is_lt (flight_cmp g f)) as (λ b. arriving_before till (cond b (g ∷ place flight_cmp f gs) (f ∷ g ∷ gs))
      ≡ arriving_before till (f ∷ g ∷ gs)) [
        | true ↦
            let rest = arriving_placed f gs in
            let a = arriving_first g (place flight_cmp f gs) in
            let b = arriving_first f gs in
            let c = arriving_first f (g ∷ gs) in
            let d = arriving_first g gs in
            omega arith
        | false ↦ refl
      ]

  -- in whatever order
  pub arriving_ordered : (fs : List Flight) → arriving_before till (ordered flight_cmp fs) ≡ arriving_before till fs
  arriving_ordered [] = refl
  arriving_ordered (f ∷ fs) =
      let placed = arriving_placed f (ordered flight_cmp fs) in
      let rest = arriving_ordered fs in
      let a = arriving_first f (ordered flight_cmp fs) in
      let b = arriving_first f fs in
      omega arith

  -- a flight that does not go before one that arrives later arrives later too
  arrives_later : (f g : Flight) → is_lt (flight_cmp g f) ≡ false → arrives f ≡ false → arrives g ≡ false
  unfolding nth_number
  arrives_later f g h later = grind arith

  none_arrive : (f : Flight) (fs : List Flight) → NoneBelow flight_cmp f fs → arrives f ≡ false → arriving_before till fs ≡ 0
  none_arrive f [] h later = refl
  none_arrive f (g ∷ gs) h later =
      let first = arriving_first g gs in
      let zero_here : one_if (arrives g) ≡ 0 = ap one_if (arrives_later f g h.0 later) in
      let rest = none_arrive f gs h.1 later in
      omega arith

  -- behind flights that do not all arrive by then none does
  pub none_behind : (fs gs : List Flight) → Climbs (fs ++ gs) → arriving_before till fs < length fs → arriving_before till gs ≡ 0
  none_behind [] gs h some = absurd (omega arith)
  none_behind (f ∷ fs) gs h some =
      elim (arrives f) as (λ b. arrives f ≡ b → arriving_before till gs ≡ 0) [
        | true ↦ λ is.
            let first = arriving_first f fs in
            let one : one_if (arrives f) ≡ 1 = ap one_if is in
            none_behind fs gs h.1 (omega arith)
        | false ↦ λ is.
            let none = none_arrive f (fs ++ gs) h.0 is in
            let both = arriving_both fs gs in
            omega arith
      ] refl

  -- the least flight that arrives then
  abbrev least : Flight
  least = flight_at (till, record { sender = 0; count = 0 })

  by_tick : (f : Flight) → arrives f ≡ is_lt (flight_cmp f least)
  unfolding nth_number
  by_tick f = grind arith

  -- those that arrive by then stand before the others
  pub arrivals_first : (fs : List Flight) → Climbs fs → IsPartitionedBy arrives fs
  arrivals_first fs h = subst (λ p. IsPartitionedBy p fs) (λ i f. sym (by_tick f) i) (partitioned flight_cmp flight_total least fs h)

  -- where they end is how many they are
  pub arriving_point : (fs : List Flight) (p : ℕ) → p ≤ length fs
      → IsPartitionPoint (λ f. arrives f ≡ true) (λ f. arrives f ≡ false) fs p → p ≡ arriving_before till fs
  arriving_point [] p le h = omega arith
  arriving_point (f ∷ fs) zero le h =
      let first = arriving_first f fs in
      let here : one_if (arrives f) ≡ 0 = ap one_if (h.1 0 f (omega arith) (omega arith)) in
      let rest = arriving_point fs zero (omega arith) (
        λ j d low high. absurd (omega arith),
        λ j d low high. h.1 (suc j) d (omega arith) (omega arith),
      ) in
      omega arith
  arriving_point (f ∷ fs) (suc p) le h =
      let first = arriving_first f fs in
      let here : one_if (arrives f) ≡ 1 = ap one_if (h.0 0 f (omega arith) (omega arith)) in
      let rest = arriving_point fs p (omega arith) (
        λ j d low high. h.0 (suc j) d (omega arith) (omega arith),
        λ j d low high. h.1 (suc j) d (omega arith) (omega arith),
      ) in
      omega arith

-- ---- in blocks

none_below_front : (f : Flight) (fs gs : List Flight) → NoneBelow flight_cmp f (fs ++ gs) → NoneBelow flight_cmp f fs
none_below_front f [] gs h = tt
none_below_front f (x ∷ xs) gs h = (h.0, none_below_front f xs gs h.1)

-- the first part of what rises
pub first_rise : (fs gs : List Flight) → Climbs (fs ++ gs) → Climbs fs
first_rise [] gs h = tt
first_rise (f ∷ fs) gs h = (none_below_front f fs gs h.0, first_rise fs gs h.1)

module _ (bs : List (Deque Flight)) (i : ℕ) (b : Deque Flight) (lt : i < length bs) (is : b ≡ slice_index_or bs i b) where
  abbrev before : List Flight
  before = in_blocks (take i bs)

  abbrev behind : List Flight
  behind = in_blocks (drop (i + 1) bs)

  up_to_block : Climbs (in_blocks bs) → Climbs ((before ++ b.items) ++ behind)
  up_to_block h = subst Climbs (sym (around_block bs i b lt is)) h

  pub block_rises : Climbs (in_blocks bs) → Climbs b.items
  block_rises h = last_rise before b.items (first_rise (before ++ b.items) behind (up_to_block h))

  pub arriving_one_more : (till : ℕ) → arriving_before till (in_blocks (take (i + 1) bs))
      ≡ arriving_before till before + arriving_before till b.items
  arriving_one_more till = ap (arriving_before till) (one_block_more bs i b lt is) ∙ arriving_both till before b.items

  -- behind a block of which not all arrive none does
  pub arriving_in_all : (till : ℕ) → Climbs (in_blocks bs) → arriving_before till b.items < length b.items
      → arriving_before till (in_blocks bs) ≡ arriving_before till before + arriving_before till b.items
  arriving_in_all till h some =
      let all = ap (arriving_before till) (around_block bs i b lt is) in
      let both = arriving_both till (before ++ b.items) behind in
      let front = arriving_both till before b.items in
      let few = count_by-le-length (arrives till) before in
      let long = length-append before b.items in
      let none = none_behind till (before ++ b.items) behind (up_to_block h) (omega arith) in
      omega arith
