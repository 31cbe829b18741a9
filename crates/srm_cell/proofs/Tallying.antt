-- Packets counted by whether they went everywhere.
use Rattle.std.proofs.Common.{◌≡◌, ℕ, zero, suc, ◌+◌, ◌*◌, ◌<◌, ◌≤◌, ◌^◌, Bool, true, false, cond, ◌&&◌, ◌==◌, List, [], ◌∷◌, ◌++◌}
use Rattle.std.proofs.Common.{length, refl, sym, ap, ◌∙◌, subst, slice_index, nat_lt, lt-ltb, le-ltb, arith, add-zero}
use Rattle.std.proofs.Common.{zero-add, le_refl, length-append}
use Rattle.std.specs.List.{flat_map, range_with_len, count_by}
use Rattle.std.proofs.lemmas.List.{get_or-set_other}
use Rattle.std.proofs.lemmas.List.Sums.{count_by-le-length}
use Rattle.srm_net.specs.declared.packet.Body.{Body}
use Rattle.srm_net.specs.declared.packet.Body.TheVariants as body
use Rattle.srm_net.specs.declared.packet.Packet.{Packet}
use Rattle.srm_net.specs.Fates.{joins_members}
use Rattle.srm_net.specs.Network.{Network, IsNetwork}
use Rattle.srm_net.specs.Spreads.{PlainSpread, is_everywhere}
use Rattle.srm_net.proofs.Joining.{everywhere_crosses_the_same, everywhere_is_nowhere_dropped}
use Rattle.srm_scenario.specs.Plain.{PlainScenario}
use Rattle.srm_ledger.specs.declared.kind.Kind.{Kind}
use Rattle.srm_ledger.specs.declared.kind.Kind.TheVariants as kind
use Rattle.srm_ledger.specs.Counts.{counted_at, more_by, nothing_at, place_at, place_of}
use Rattle.srm_cell.specs.declared.everywhere.Everywhere.{Everywhere}
use Rattle.srm_cell.specs.declared.tally.Tally.{Tally}
use Rattle.srm_cell.specs.Setting.{Traffic, traffic_of, IsSpreadOf}
use Rattle.srm_cell.specs.Crossings.{kind_of, crossed, crossings_at, added_each}
use Rattle.srm_cell.specs.Totalled.{numbers_of, CountsBesides, MayCount}
use Rattle.srm_cell.specs.Tallies.{number_of, none_everywhere, one_everywhere, with_everywhere, everywhere_at, tallied, Tallies}
use Rattle.srm_cell.proofs.CrossingLemmas.{links_add}
use Rattle.srm_cell.proofs.RowPackets.{nothing_counted}

-- ---- two lists added, number by number

pub added_swapped : (ms ns : List ℕ) → added_each ms ns ≡ added_each ns ms
added_swapped [] [] = refl
added_swapped [] (b ∷ ns) = refl
added_swapped (a ∷ ms) [] = refl
added_swapped (a ∷ ms) (b ∷ ns) = let e : a + b ≡ b + a = omega arith in λ i. e i ∷ added_swapped ms ns i

pub added_grouped : (ms ns ks : List ℕ) → added_each (added_each ms ns) ks ≡ added_each ms (added_each ns ks)
added_grouped [] ns ks = refl
added_grouped (a ∷ ms) [] ks = refl
added_grouped (a ∷ ms) (b ∷ ns) [] = refl
added_grouped (a ∷ ms) (b ∷ ns) (c ∷ ks) =
    let e : (a + b) + c ≡ a + (b + c) = omega arith in λ i. e i ∷ added_grouped ms ns ks i

pub added_last : (ms ns ks : List ℕ) → added_each (added_each ms ns) ks ≡ added_each (added_each ms ks) ns
added_last ms ns ks = added_grouped ms ns ks ∙ ap (added_each ms) (added_swapped ns ks) ∙ sym (added_grouped ms ks ns)

-- ---- a packet that went everywhere

-- the five numbers of a link that these packets cross, or do not
abbrev fives : Bool → Everywhere → List ℕ
fives j e = cond j (e.drawops ∷ e.requests ∷ e.repairs ∷ e.sessions ∷ 0 ∷ []) (0 ∷ 0 ∷ 0 ∷ 0 ∷ 0 ∷ [])

-- those of one packet
abbrev fives_of : Body → Bool → Bool → List ℕ
fives_of b c d =
    (0 + cond ((place_of (kind_of b) == 0) && c) 1 0) ∷ (0 + cond ((place_of (kind_of b) == 1) && c) 1 0)
    ∷ (0 + cond ((place_of (kind_of b) == 2) && c) 1 0) ∷ (0 + cond ((place_of (kind_of b) == 3) && c) 1 0) ∷ (0 + cond d 1 0) ∷ []

one_more_of : (e : Everywhere) (b : Body) (j : Bool) → fives j (one_everywhere e (kind_of b)) ≡ added_each (fives j e) (fives_of b j false)
one_more_of e (body.Drawop n ink) true = simp (add-zero, zero-add)
one_more_of e (body.Drawop n ink) false = refl
one_more_of e (body.Request n scope) true = simp (add-zero, zero-add)
one_more_of e (body.Request n scope) false = refl
one_more_of e (body.Repair n ink local) true = simp (add-zero, zero-add)
one_more_of e (body.Repair n ink local) false = refl
one_more_of e (body.Session hs) true = simp (add-zero, zero-add)
one_more_of e (body.Session hs) false = refl

module _ (s : Traffic) (net : Network) (e : Everywhere) (p : Packet) where
  -- at a link that it crosses where that is on the ways between members
  at_link : (l : ℕ) → s.crosses p l ≡ joins_members net l → s.drops_at p l ≡ false
      → everywhere_at net (one_everywhere e (kind_of p.body)) l
      ≡ added_each (everywhere_at net e l) (crossings_at s (p ∷ []) l)
  at_link l crosses drops = one_more_of e p.body (joins_members net l)
      ∙ (λ i. added_each (everywhere_at net e l) (fives_of p.body (sym crosses i) (sym drops i)))

  -- the five numbers of each, added
  added_fives : (j : Bool) (ms ns : List ℕ) (l : ℕ) → joins_members net l ≡ j
      → added_each (everywhere_at net e l) (crossings_at s (p ∷ []) l) ++ added_each ms ns
      ≡ added_each (everywhere_at net e l ++ ms) (crossings_at s (p ∷ []) l ++ ns)
  added_fives true ms ns l joins = rw joins refl
  added_fives false ms ns l joins = rw joins refl

  at_links : (l n : ℕ) → ((m : ℕ) → m < l + n → (s.crosses p m ≡ joins_members net m) × (s.drops_at p m ≡ false))
      → flat_map (everywhere_at net (one_everywhere e (kind_of p.body))) (range_with_len l n)
      ≡ added_each (flat_map (everywhere_at net e) (range_with_len l n)) (flat_map (crossings_at s (p ∷ [])) (range_with_len l n))
  at_links l zero h = refl
  at_links l (suc n) h =
      let here = h l (omega arith) in
      let rest = at_links (l + 1) n (λ m lt. h m (omega arith)) in
      (λ i. at_link l here.0 here.1 i ++ rest i)
      ∙ added_fives (joins_members net l) (flat_map (everywhere_at net e) (range_with_len (l + 1) n))
      (flat_map (crossings_at s (p ∷ [])) (range_with_len (l + 1) n)) l refl

  pub went_everywhere : (stopped : List ℕ) (ps : List Packet) → s.links ≡ length net.links
      → ((m : ℕ) → m < s.links → (s.crosses p m ≡ joins_members net m) × (s.drops_at p m ≡ false))
      → tallied net (record { everywhere = e; stopped = stopped }) ≡ numbers_of s ps
      → tallied net (record { everywhere = one_everywhere e (kind_of p.body); stopped = stopped }) ≡ numbers_of s (ps ++ p ∷ [])
  unfolding tallied numbers_of
  went_everywhere stopped ps many h is = grind (arith, at_links, added_grouped, links_add)

-- a packet that was stopped somewhere
pub was_stopped : (s : Traffic) (net : Network) (e : Everywhere) (p : Packet) (some ps : List Packet)
    → tallied net (record { everywhere = e; stopped = numbers_of s some }) ≡ numbers_of s ps
    → tallied net (record { everywhere = e; stopped = numbers_of s (some ++ p ∷ []) }) ≡ numbers_of s (ps ++ p ∷ [])
unfolding tallied numbers_of
was_stopped s net e p some ps is = grind (arith, links_add, added_last)

-- ---- no number is above that of the packets

most : (s : Traffic) (ps : List Packet) (l n i : ℕ) → slice_index (flat_map (crossings_at s ps) (range_with_len l n)) i ≤ length ps
most s ps l zero i = omega arith
most s ps l (suc n) zero = count_by-le-length (λ q. (place_of (kind_of q.body) == 0) && s.crosses q l) ps
most s ps l (suc n) (suc zero) = count_by-le-length (λ q. (place_of (kind_of q.body) == 1) && s.crosses q l) ps
most s ps l (suc n) (suc (suc zero)) = count_by-le-length (λ q. (place_of (kind_of q.body) == 2) && s.crosses q l) ps
most s ps l (suc n) (suc (suc (suc zero))) = count_by-le-length (λ q. (place_of (kind_of q.body) == 3) && s.crosses q l) ps
most s ps l (suc n) (suc (suc (suc (suc zero)))) = count_by-le-length (λ q. s.drops_at q l) ps
most s ps l (suc n) (suc (suc (suc (suc (suc i))))) = most s ps (l + 1) n i

pub no_more : (s : Traffic) (ps : List Packet) (i : ℕ) → slice_index (numbers_of s ps) i ≤ length ps
unfolding numbers_of
no_more s ps i = most s ps 0 s.links i

-- one more packet that went everywhere
pub one_more_everywhere : (e : Everywhere) (j k : Kind) → number_of (one_everywhere e j) k ≤ number_of e k + 1
one_more_everywhere e j k = grind arith

-- ---- the numbers of all put together, link by link

skip_all : (e : Everywhere) (j : ℕ) (a0 a1 a2 a3 a4 : ℕ) (t : List ℕ) → with_everywhere e (suc j) (a0 ∷ a1 ∷ a2 ∷ a3 ∷ a4 ∷ t)
    ≡ a0 ∷ a1 ∷ a2 ∷ a3 ∷ a4 ∷ with_everywhere e j t
skip_all e j a0 a1 a2 a3 a4 t = grind arith

module _ (s : Traffic) (net : Network) (e : Everywhere) (some : List Packet) where
  -- the five numbers of link l, where the packets that went everywhere are among them, and where they are not
  abbrev five : Bool → ℕ → List ℕ
  five b l = cond b (added_each (crossings_at s some l) (everywhere_at net e l)) (crossings_at s some l)

  -- the five numbers of each of n links from l on; those of links below k with the packets that went everywhere
  abbrev pub put_below : ℕ → ℕ → ℕ → List ℕ
  put_below k l zero = []
  put_below k l (suc n) = five (nat_lt l k) l ++ put_below k (l + 1) n

  abbrev flat : ℕ → ℕ → List ℕ
  flat l n = flat_map (crossings_at s some) (range_with_len l n)

  none_put : (k l n : ℕ) → k ≤ l → put_below k l n ≡ flat l n
  none_put k l zero le = refl
  none_put k l (suc n) le = ap (λ b. five b l ++ put_below k (l + 1) n) (le-ltb l k le)
      ∙ ap (λ t. crossings_at s some l ++ t) (none_put k (l + 1) n (omega arith))

  -- the five numbers of each, added
  each_added : (j : Bool) (ms ns : List ℕ) (l : ℕ) → joins_members net l ≡ j
      → added_each (crossings_at s some l) (everywhere_at net e l) ++ added_each ms ns
      ≡ added_each (crossings_at s some l ++ ms) (everywhere_at net e l ++ ns)
  each_added true ms ns l joins = rw joins refl
  each_added false ms ns l joins = rw joins refl

  all_put : (k l n : ℕ) → l + n ≤ k → put_below k l n ≡ added_each (flat l n) (flat_map (everywhere_at net e) (range_with_len l n))
  all_put k l zero le = refl
  all_put k l (suc n) le = ap (λ b. five b l ++ put_below k (l + 1) n) (lt-ltb l k (omega arith))
      ∙ ap (λ t. added_each (crossings_at s some l) (everywhere_at net e l) ++ t) (all_put k (l + 1) n (omega arith))
      ∙ each_added (joins_members net l) (flat (l + 1) n) (flat_map (everywhere_at net e) (range_with_len (l + 1) n)) l refl

  pub first_put : numbers_of s some ≡ put_below 0 0 s.links
  unfolding numbers_of
  first_put = sym (none_put 0 0 s.links (le_refl 0))

  pub last_put : s.links ≡ length net.links → put_below s.links 0 s.links
      ≡ tallied net (record { everywhere = e; stopped = numbers_of s some })
  unfolding numbers_of tallied
  last_put many = all_put s.links 0 s.links (omega arith)
      ∙ ap (λ n. added_each (flat 0 s.links) (flat_map (everywhere_at net e) (range_with_len 0 n))) many

  pub length_put : (k l n : ℕ) → length (put_below k l n) ≡ 5 * n
  length_put k l zero = refl
  length_put k l (suc n) = let r = length_put k (l + 1) n in by (nat_lt l k) (joins_members net l) refl r
    where
      by : (b j : Bool) → joins_members net l ≡ j → length (put_below k (l + 1) n) ≡ 5 * n
          → length (five b l ++ put_below k (l + 1) n) ≡ 5 * suc n
      by false j h r = omega (arith, r)
      by true true h r = rw h (omega (arith, r))
      by true false h r = rw h (omega (arith, r))

  -- at a link that is on the ways between members
  here : (l : ℕ) (t : List ℕ) → joins_members net l ≡ true → with_everywhere e 0 (five false l ++ t) ≡ five true l ++ t
  here l t h = rw h (simp add-zero)

  before : (b : Bool) (l j : ℕ) (t : List ℕ) → with_everywhere e (suc j) (five b l ++ t) ≡ five b l ++ with_everywhere e j t
  before false l j t = skip_all e j (crossed s kind.Drawop l some) (crossed s kind.Request l some) (crossed s kind.Repair l some)
      (crossed s kind.Session l some) (count_by (λ q. s.drops_at q l) some) t
  before true l j t = by (joins_members net l) refl
    where
      by : (b : Bool) → joins_members net l ≡ b → with_everywhere e (suc j) (five true l ++ t) ≡ five true l ++ with_everywhere e j t
      by true h = rw h (skip_all e j (crossed s kind.Drawop l some + e.drawops) (crossed s kind.Request l some + e.requests)
          (crossed s kind.Repair l some + e.repairs) (crossed s kind.Session l some + e.sessions)
          (count_by (λ q. s.drops_at q l) some + 0) t)
      by false h = rw h (skip_all e j (crossed s kind.Drawop l some + 0) (crossed s kind.Request l some + 0)
          (crossed s kind.Repair l some + 0) (crossed s kind.Session l some + 0)
          (count_by (λ q. s.drops_at q l) some + 0) t)

  more : (l j n : ℕ) → j < n → joins_members net (l + j) ≡ true
      → with_everywhere e j (put_below (l + j) l n) ≡ put_below (l + j + 1) l n
  more l j zero lt h = absurd (omega arith)
  more l zero (suc n) lt h =
      let q : l + 0 ≡ l = omega arith in
      ap (λ m. with_everywhere e 0 (put_below m l (suc n))) q
      ∙ ap (with_everywhere e 0) (ap (λ b. five b l ++ put_below l (l + 1) n) (le-ltb l l (le_refl l))
      ∙ ap (λ t. five false l ++ t) (none_put l (l + 1) n (omega arith)))
      ∙ here l (flat (l + 1) n) (sym (ap (joins_members net) q) ∙ h)
      ∙ sym (ap (λ b. five b l ++ put_below (l + 0 + 1) (l + 1) n) (lt-ltb l (l + 0 + 1) (omega arith))
      ∙ ap (λ t. five true l ++ t) (none_put (l + 0 + 1) (l + 1) n (omega arith)))
  more l (suc j) (suc n) lt h =
      let q : l + suc j ≡ l + 1 + j = omega arith in
      let was : nat_lt l (l + suc j) ≡ true = lt-ltb l (l + suc j) (omega arith) in
      let now : nat_lt l (l + suc j + 1) ≡ true = lt-ltb l (l + suc j + 1) (omega arith) in
      ap (λ b. with_everywhere e (suc j) (five b l ++ put_below (l + suc j) (l + 1) n)) was
      ∙ before true l j (put_below (l + suc j) (l + 1) n)
      ∙ ap (λ t. five true l ++ t) (ap (λ m. with_everywhere e j (put_below m (l + 1) n)) q
      ∙ more (l + 1) j n (omega arith) (sym (ap (joins_members net) q) ∙ h) ∙ ap (λ m. put_below (m + 1) (l + 1) n) (sym q))
      ∙ ap (λ b. five b l ++ put_below (l + suc j + 1) (l + 1) n) (sym now)

  -- a number of a link that is yet to be put together is that of the packets that were stopped
  past_five : (b : Bool) (l m : ℕ) (t : List ℕ) → slice_index (five b l ++ t) (suc (suc (suc (suc (suc m))))) ≡ slice_index t m
  past_five false l m t = refl
  past_five true l m t = by (joins_members net l) refl
    where
      by : (j : Bool) → joins_members net l ≡ j → slice_index (five true l ++ t) (suc (suc (suc (suc (suc m))))) ≡ slice_index t m
      by true h = rw h refl
      by false h = rw h refl

  kept : (k l j n i : ℕ) → l + j ≡ k → slice_index (put_below k l n) (5 * j + i) ≡ slice_index (flat l n) (5 * j + i)
  kept k l j zero i e = refl
  kept k l zero (suc n) i e = ap (λ ns. slice_index ns (5 * 0 + i)) (none_put k l (suc n) (omega arith))
  kept k l (suc j) (suc n) i e =
      let q : 5 * suc j + i ≡ suc (suc (suc (suc (suc (5 * j + i))))) = omega arith in
      ap (slice_index (put_below k l (suc n))) q
      ∙ past_five (nat_lt l k) l (5 * j + i) (put_below k (l + 1) n)
      ∙ kept k (l + 1) j n i (omega arith)
      ∙ sym (ap (slice_index (flat l (suc n))) q)

  pub kept_there : (k i : ℕ) → slice_index (put_below k 0 s.links) (5 * k + i) ≡ slice_index (numbers_of s some) (5 * k + i)
  unfolding numbers_of
  kept_there k i = kept k 0 k s.links i (zero-add k)

  pub put_at : (k : ℕ) → k < s.links → joins_members net k ≡ true
      → with_everywhere e k (put_below k 0 s.links) ≡ put_below (k + 1) 0 s.links
  put_at k lt h =
      let q : 0 + k ≡ k = zero-add k in
      ap (λ m. with_everywhere e k (put_below m 0 s.links)) (sym q) ∙ more 0 k s.links lt (ap (joins_members net) q ∙ h)
      ∙ ap (λ m. put_below (m + 1) 0 s.links) q

  pub passed_by : (k : ℕ) → k < s.links → joins_members net k ≡ false → put_below k 0 s.links ≡ put_below (k + 1) 0 s.links
  passed_by k lt h = grind arith

-- ---- what a tally tells

-- a number put besides those of a kind leaves those of another as they are
pub counted_elsewhere : (v : ℕ) (ns : List ℕ) (l : ℕ) (j k : Kind) → (place_of k == place_of j) ≡ false
    → counted_at (more_by v ns l j) l k ≡ counted_at ns l k
counted_elsewhere v ns l j k h = grind (arith, get_or-set_other)

number_none : (k : Kind) → number_of none_everywhere k ≡ 0
number_none k = grind arith

nothing_besides : (s : Traffic) (net : Network) (l n : ℕ)
    → added_each (flat_map (crossings_at s []) (range_with_len l n)) (flat_map (everywhere_at net none_everywhere) (range_with_len l n))
    ≡ flat_map (crossings_at s []) (range_with_len l n)
nothing_besides s net l zero = refl
nothing_besides s net l (suc n) = by (joins_members net l) refl (nothing_besides s net (l + 1) n)
  where
    by : (j : Bool) → joins_members net l ≡ j
        → added_each (flat_map (crossings_at s []) (range_with_len (l + 1) n))
        (flat_map (everywhere_at net none_everywhere) (range_with_len (l + 1) n))
        ≡ flat_map (crossings_at s []) (range_with_len (l + 1) n)
        → added_each (flat_map (crossings_at s []) (range_with_len l (suc n)))
        (flat_map (everywhere_at net none_everywhere) (range_with_len l (suc n)))
        ≡ flat_map (crossings_at s []) (range_with_len l (suc n))
    by true h rest = rw h (ap (λ ns. 0 ∷ 0 ∷ 0 ∷ 0 ∷ 0 ∷ ns) rest)
    by false h rest = rw h (ap (λ ns. 0 ∷ 0 ∷ 0 ∷ 0 ∷ 0 ∷ ns) rest)

tallied_none : (s : Traffic) (net : Network) → s.links ≡ length net.links
    → tallied net (record { everywhere = none_everywhere; stopped = numbers_of s [] }) ≡ numbers_of s []
unfolding tallied numbers_of
tallied_none s net many = grind (arith, nothing_besides)

-- no number of packets that were stopped is above theirs
few_stopped : (s : PlainScenario) (net : Network) (some : List Packet) (stopped : List ℕ) → stopped ≡ numbers_of (traffic_of s net) some
    → (l : ℕ) (k : Kind) → counted_at stopped l k ≤ length some
few_stopped s net some stopped is l k =
    subst (λ ns. counted_at ns l k ≤ length some) (sym is) (no_more (traffic_of s net) some (place_at l k))

pub begun : (s : PlainScenario) (net : Network) (links : ℕ) (stopped : List ℕ) → length net.links ≡ links → stopped ≡ nothing_at links
    → Tallies s net [] (record { everywhere = none_everywhere; stopped = stopped })
begun s net links stopped many is =
    let t = traffic_of s net in
    let nothing : stopped ≡ numbers_of t [] = is ∙ ap nothing_at (sym many) ∙ nothing_counted t in
    record {
      numbers = ap (λ ns. tallied net (record { everywhere = none_everywhere; stopped = ns })) nothing ∙ tallied_none t net refl;
      some = [];
      some_are = nothing;
      others = λ k. let z = number_none k in omega (arith, z);
      room = λ l k. let z = number_none k in let f = few_stopped s net [] stopped nothing l k in omega (arith, z, f);
    }

-- there is room for one more
pub room_left : (s : PlainScenario) (net : Network) (ps : List Packet) (t : Tally) → Tallies s net ps t → length ps + 3 < 2 ^ 64
    → (l : ℕ) (k : Kind) → counted_at t.stopped l k + (number_of t.everywhere k + 1) < 2 ^ 64
room_left s net ps t is few l k = grind (arith, few_stopped)

pub more_everywhere : (s : PlainScenario) (net : Network) (ps : List Packet) (t : Tally) (p : Packet) (b : PlainSpread) → IsNetwork net
    → IsSpreadOf net s.drops p b → is_everywhere b ≡ true → p.id.sender < length net.hosts
    → ((l : ℕ) (k : Kind) → counted_at t.stopped l k + (number_of t.everywhere k + 1) < 2 ^ 64) → Tallies s net ps t
    → Tallies s net (ps ++ p ∷ []) (record { everywhere = one_everywhere t.everywhere (kind_of p.body); stopped = t.stopped })
more_everywhere s net ps t p b n spread all sender room is =
    grind (arith, went_everywhere, everywhere_crosses_the_same, everywhere_is_nowhere_dropped, one_more_everywhere, length-append)

pub more_stopped : (s : PlainScenario) (net : Network) (ps : List Packet) (t : Tally) (p : Packet) (new : List ℕ)
    → CountsBesides (traffic_of s net) (p ∷ []) t.stopped new
    → ((l : ℕ) (k : Kind) → counted_at new l k + number_of t.everywhere k < 2 ^ 64) → Tallies s net ps t
    → Tallies s net (ps ++ p ∷ []) (record { everywhere = t.everywhere; stopped = new })
more_stopped s net ps t p new counts room is = grind (arith, was_stopped, length-append)

-- and after a packet that was stopped
pub room_kept : (s : PlainScenario) (net : Network) (ps : List Packet) (t : Tally) (p : Packet) (new : List ℕ) → Tallies s net ps t
    → length ps + 3 < 2 ^ 64 → CountsBesides (traffic_of s net) (p ∷ []) t.stopped new
    → (l : ℕ) (k : Kind) → counted_at new l k + number_of t.everywhere k < 2 ^ 64
room_kept s net ps t p new is few counts l k =
    let f = few_stopped s net (is.some ++ p ∷ []) new (counts is.some is.some_are) l k in
    let a = length-append is.some (p ∷ []) in
    let o = is.others k in
    omega (arith, f, a, o, few)

pub may_count : (s : PlainScenario) (net : Network) (ps : List Packet) (t : Tally) → Tallies s net ps t → length ps + 3 < 2 ^ 64
    → MayCount (traffic_of s net) 1 t.stopped
may_count s net ps t is few = (is.some, let o = is.others kind.Dropped in omega (arith, o, few), is.some_are)
