-- Outages in the order of links and first ticks.
use Rattle.std.proofs.Common.{◌≡◌, ◌⊎◌, ℕ, zero, suc, ◌+◌, ◌-◌, ◌<◌, ◌≤◌, Bool, true, false, ◌&&◌, ◌||◌, ◌==◌, List, [], ◌∷◌, ◌++◌, length}
use Rattle.std.proofs.Common.{Some, refl, sym, ap, ◌∙◌, subst, inl, inr, arith, slice_index_or, nat_lt, nat_le, Ordering, nat_cmp, is_lt}
use Rattle.std.proofs.Common.{eqb-true, eq-eqb, Contains}
use Rattle.std.proofs.lemmas.Bool.{cases_eq, cases_Bool, ltb-false, or_cases, or_left, or_right, and_parts, and_from, ltb-true, leb-true}
use Rattle.std.proofs.lemmas.Bool.{lt-ltb, le-leb, false≢true, both_ways}
use Rattle.std.proofs.lemmas.Bool.Decides.{nat_tests}
use Rattle.std.proofs.lemmas.Cmp.{nat_cmp_total, on_total, then_total}
use Rattle.std.proofs.lemmas.List.Sorted.{ranks_by, sorted_far, list_any-IsPermutation}
use Rattle.std.specs.Cmp.{IsStrictWeakOrder}
use Rattle.std.specs.List.Sorted.{IsPermutation, IsSortedBy, IsPartitionedBy, IsPartitionPoint}
use Rattle.std.specs.Ordering.{ordering_then}
use Rattle.srm_net.specs.declared.link.OutageSpec.{OutageSpec}
use Rattle.srm_net.specs.DropRules.{is_out}
use Rattle.srm_net.specs.Laws.{SameOutagesOut}
use Rattle.srm_net.specs.Outages.{outage_at, no_outage, begins_by, last_lasts, LastsLongest}
use Rattle.srm_net.proofs.Lists.{index_get, get_index, get_push_old, get_push_new}
use Rattle.srm_net.proofs.Basics.{same_tests}

-- ---- places of a list

pub any_default : {A : Type 0} (xs : List A) (i : ℕ) (d e : A) → i < length xs → slice_index_or xs i d ≡ slice_index_or xs i e
any_default xs i d e h = let q : Some (slice_index_or xs i d) ≡ Some (slice_index_or xs i e) = sym (index_get xs i d h)
    ∙ index_get xs i e h in cc

pub at_old : (xs : List OutageSpec) (x : OutageSpec) (i : ℕ) → i < length xs → outage_at (xs ++ x ∷ []) i ≡ outage_at xs i
at_old xs x i h = get_index (xs ++ x ∷ []) i (outage_at xs i) no_outage (get_push_old xs x i h ∙ index_get xs i no_outage h)

pub at_new : (xs : List OutageSpec) (x : OutageSpec) (i : ℕ) → length xs ≡ i → outage_at (xs ++ x ∷ []) i ≡ x
at_new xs x i h = get_index (xs ++ x ∷ []) i x no_outage (get_push_new xs x i h)

-- ---- the last span that has begun

pub lasts_at : (xs : List OutageSpec) (n l t : ℕ) (s : OutageSpec) → 0 < n
    → n ≤ length xs → s ≡ slice_index_or xs (n - 1) s → last_lasts xs n l t ≡ ((s.link == l) && nat_lt t s.to)
lasts_at xs zero l t s h k e = absurd (omega arith)
lasts_at xs (suc n) l t s h k e =
    let m : suc n - 1 ≡ n = omega arith in
    let q : outage_at xs n ≡ s = any_default xs n no_outage s (omega arith) ∙ sym (subst (λ i. s ≡ slice_index_or xs i s) m e) in
    ap (λ (o : OutageSpec). (o.link == l) && nat_lt t o.to) q

-- ---- prolonging

-- what comes after the spans of the first n outages
pub record IsNextSpan (xs ss : List OutageSpec) (n : ℕ) (s : OutageSpec) : Type 0 where
  pub link : s.link ≡ (outage_at xs n).link
  pub from : s.from ≡ (outage_at xs n).from
  pub own : (outage_at xs n).to ≤ s.to
  pub before : 0 < n → (outage_at ss (n - 1)).link ≡ (outage_at xs n).link → (outage_at ss (n - 1)).to ≤ s.to
  pub one : ((outage_at xs n).to ≡ s.to) ⊎ ((0 < n) × ((outage_at ss (n - 1)).link ≡ (outage_at xs n).link)
      × ((outage_at ss (n - 1)).to ≡ s.to))

-- an outage that the one before does not outlast is not prolonged
pub next_as_it_is : (xs ss : List OutageSpec) (n : ℕ) (s : OutageSpec) → s ≡ outage_at xs n
    → (0 < n → (outage_at ss (n - 1)).link ≡ (outage_at xs n).link → (outage_at ss (n - 1)).to ≤ (outage_at xs n).to) → IsNextSpan xs ss n s
next_as_it_is xs ss n s e h = grind arith

-- the links rise
abbrev pub LinksRise : List OutageSpec → Type 0
LinksRise xs = (i j : ℕ) → i ≤ j → j < length xs → (outage_at xs i).link ≤ (outage_at xs j).link

longest_here : (xs ss : List OutageSpec) (n : ℕ) (s : OutageSpec) → n < length xs → LinksRise xs → ((i : ℕ) → i < n → LastsLongest xs ss i)
    → IsNextSpan xs ss n s → outage_at (ss ++ s ∷ []) n ≡ s
    → LastsLongest xs (ss ++ s ∷ []) n
longest_here xs ss n s h up old next is = record {
  link = ap (λ (o : OutageSpec). o.link) is ∙ next.link;
  from = ap (λ (o : OutageSpec). o.from) is ∙ next.from;
  latest = λ j le same. subst (λ (o : OutageSpec). (outage_at xs j).to ≤ o.to) (sym is) (elim (cases_eq j n) [
    | inl e ↦ subst (λ i. (outage_at xs i).to ≤ s.to) (sym e) next.own
    | inr e ↦
        (let k : n - 1 < n = omega arith in
        let few : j ≤ n - 1 = omega arith in
        let o = old (n - 1) k in
        let a = up j (n - 1) few (omega arith) in
        let b = up (n - 1) n (omega arith) h in
        let c : (outage_at xs (n - 1)).link ≡ (outage_at xs n).link = omega arith in
        let m = o.latest j few (same ∙ sym c) in
        let p = next.before (omega arith) (o.link ∙ c) in
        omega arith)
  ]);
  one = elim next.one [
    | inl e ↦ (n, omega arith, refl, e ∙ sym (ap (λ (o : OutageSpec). o.to) is))
    | inr e ↦
        (let o = old (n - 1) (let z = e.0 in omega arith) in
        let one = o.one in
        (one.0, (let k = one.1 in omega arith), one.2 ∙ sym o.link ∙ e.1, one.3 ∙ e.2 ∙ sym (ap (λ (o : OutageSpec). o.to) is)))
  ];
}

longest_before : (xs ss : List OutageSpec) (s : OutageSpec) (i : ℕ) → i < length ss → LastsLongest xs ss i
    → LastsLongest xs (ss ++ s ∷ []) i
longest_before xs ss s i h o = grind (arith, at_old)

pub longest_more : (xs ss : List OutageSpec) (n : ℕ) (s : OutageSpec) → length ss ≡ n → n < length xs → LinksRise xs
    → ((i : ℕ) → i < n → LastsLongest xs ss i) → IsNextSpan xs ss n s
    → (i : ℕ) → i < n + 1 → LastsLongest xs (ss ++ s ∷ []) i
longest_more xs ss n s e h up old next i lt =
    elim (cases_eq i n) [
      | inl q ↦ subst (LastsLongest xs (ss ++ s ∷ [])) (sym q) (longest_here xs ss n s h up old next (at_new ss s n e))
      | inr q ↦ longest_before xs ss s i (omega arith) (old i (omega arith))
    ]

-- ---- sorted outages

-- the order of the pairs by which the code sorts
abbrev pub keyed : OutageSpec → OutageSpec → Ordering
keyed a b = ordering_then (nat_cmp a.link b.link) (nat_cmp a.from b.from)

keyed_order : IsStrictWeakOrder (λ a b. is_lt (keyed a b))
keyed_order = ranks_by (then_total (on_total (λ (o : OutageSpec). o.link) nat_cmp_total)
    (on_total (λ (o : OutageSpec). o.from) nat_cmp_total)) (λ (o : OutageSpec). o)

pair_up_first : (a b c d : ℕ) → is_lt (ordering_then (nat_cmp b a) (nat_cmp d c)) ≡ false → a ≤ b
pair_up_first a b c d h = grind (arith, nat_tests)

pair_up_second : (a b c d : ℕ) → is_lt (ordering_then (nat_cmp b a) (nat_cmp d c)) ≡ false → a ≡ b → c ≤ d
pair_up_second a b c d h e = grind (arith, nat_tests)

-- each outage is of no later link than those after it, and among those of its link begins no later
pub record InOrder (xs : List OutageSpec) : Type 0 where
  pub links : LinksRise xs
  pub begins : (i j : ℕ) → i ≤ j → j < length xs → (outage_at xs i).link ≡ (outage_at xs j).link
      → (outage_at xs i).from ≤ (outage_at xs j).from

pub in_order : (xs : List OutageSpec) → IsSortedBy (λ a b. is_lt (keyed a b)) xs → InOrder xs
in_order xs up =
    let far = λ (i j : ℕ) (le : i ≤ j) (h : j < length xs). sorted_far (λ a b. is_lt (keyed a b)) keyed_order xs up i j no_outage le h in
    record {
      links = λ i j le h. pair_up_first (outage_at xs i).link (outage_at xs j).link (outage_at xs i).from (outage_at xs j).from
          (far i j le h);
      begins = λ i j le h e. pair_up_second (outage_at xs i).link (outage_at xs j).link (outage_at xs i).from (outage_at xs j).from
          (far i j le h) e;
    }

-- ---- what has begun

begins_in : (l t k f : ℕ) → (nat_lt k l || ((k == l) && nat_le f t)) ≡ true → (k < l) ⊎ ((k ≡ l) × (f ≤ t))
begins_in l t k f h = grind arith

begins_from : (l t k f : ℕ) → (k < l) ⊎ ((k ≡ l) × (f ≤ t)) → (nat_lt k l || ((k == l) && nat_le f t)) ≡ true
begins_from l t k f h4 = grind arith

begun_before : (l t a f b g : ℕ) → a ≤ b → (a ≡ b → f ≤ g) → (b < l) ⊎ ((b ≡ l) × (g ≤ t)) → (a < l) ⊎ ((a ≡ l) × (f ≤ t))
begun_before l t a f b g h m h8 = grind arith

-- sorted outages and their spans
pub record Prolongs (xs ss : List OutageSpec) : Type 0 where
  pub order : InOrder xs
  pub size : length ss ≡ length xs
  pub each : (i : ℕ) → i < length xs → LastsLongest xs ss i

-- what has begun stands first
pub begun_first : (xs ss : List OutageSpec) → Prolongs xs ss → (l t : ℕ) → IsPartitionedBy (begins_by l t) ss
begun_first xs ss p l t i j d le h begun =
    let size : length ss ≡ length xs = p.size in
    let hj : j < length xs = omega arith in
    let hi : i < length xs = omega arith in
    let a = p.each i hi in
    let b = p.each j hj in
    let then : begins_by l t (outage_at ss j) ≡ true = ap (begins_by l t) (any_default ss j no_outage d h) ∙ begun in
    let was = begins_in l t (outage_at ss j).link (outage_at ss j).from then in
    let links : (outage_at ss i).link ≤ (outage_at ss j).link =
    (let k = p.order.links i j le hj in let e = a.link in let f = b.link in omega arith) in
    let begins : (outage_at ss i).link ≡ (outage_at ss j).link → (outage_at ss i).from ≤ (outage_at ss j).from =
    λ e. (let k = p.order.begins i j le hj (sym a.link ∙ e ∙ b.link) in let f = a.from in let g = b.from in omega arith) in
    ap (begins_by l t) (any_default ss i d no_outage (omega arith))
    ∙ begins_from l t (outage_at ss i).link (outage_at ss i).from
    (begun_before l t (outage_at ss i).link (outage_at ss i).from (outage_at ss j).link (outage_at ss j).from links begins was)

-- ---- whether a link is out

-- outage o is on at tick t of link l
abbrev pub is_on : ℕ → ℕ → OutageSpec → Bool
is_on l t o = (o.link == l) && (nat_le o.from t && nat_lt t o.to)

-- some outage of the list is on
abbrev pub IsOutAt : List OutageSpec → ℕ → ℕ → Type 0
IsOutAt xs l t = (j : ℕ) × (j < length xs) × ((outage_at xs j).link ≡ l) × ((outage_at xs j).from ≤ t) × (t < (outage_at xs j).to)

out_in : (xs : List OutageSpec) (l t : ℕ) → is_out xs l t ≡ true → IsOutAt xs l t
out_in [] l t h = absurd (false≢true h)
out_in (x ∷ xs) l t h =
    elim (or_cases (is_on l t x) (is_out xs l t) h) [
      | inl e ↦
          (let p = and_parts (x.link == l) (nat_le x.from t && nat_lt t x.to) e in
          let q = and_parts (nat_le x.from t) (nat_lt t x.to) p.1 in
          (0, omega arith, eqb-true x.link l p.0, leb-true x.from t q.0, ltb-true t x.to q.1))
      | inr e ↦ (let r = out_in xs l t e in (suc r.0, (let k : r.0 < length xs = r.1 in omega arith), r.2, r.3, r.4))
    ]

out_from : (xs : List OutageSpec) (l t j : ℕ) → j < length xs → (outage_at xs j).link ≡ l → (outage_at xs j).from ≤ t
    → t < (outage_at xs j).to → is_out xs l t ≡ true
out_from [] l t j h e f g = absurd (omega arith)
out_from (x ∷ xs) l t zero h e f g =
    or_left (is_on l t x) (is_out xs l t) (and_from (x.link == l) (nat_le x.from t && nat_lt t x.to) (eq-eqb x.link l e)
    (and_from (nat_le x.from t) (nat_lt t x.to) (le-leb x.from t f) (lt-ltb t x.to g)))
out_from (x ∷ xs) l t (suc j) h e f g = or_right (is_on l t x) (is_out xs l t) (out_from xs l t j (omega arith) e f g)

module _ (xs ss : List OutageSpec) (p : Prolongs xs ss) (l t n : ℕ)
    (point : IsPartitionPoint (λ s. begins_by l t s ≡ true) (λ s. begins_by l t s ≡ false) ss n) where
  -- the last span that has begun, where it is of the link and ends later, is as long as an outage that is on
  lasting : (m : ℕ) → n ≡ suc m → m < length xs → last_lasts ss (suc m) l t ≡ true → is_out xs l t ≡ true
  lasting m e h it =
      let q = and_parts ((outage_at ss m).link == l) (nat_lt t (outage_at ss m).to) it in
      let link : (outage_at ss m).link ≡ l = eqb-true (outage_at ss m).link l q.0 in
      let later : t < (outage_at ss m).to = ltb-true t (outage_at ss m).to q.1 in
      let o = p.each m h in
      let one = o.one in
      let begun = begins_in l t (outage_at ss m).link (outage_at ss m).from (point.0 m no_outage (omega arith) (omega arith)) in
      let from : (outage_at ss m).from ≤ t = elim begun [ inl k ↦ absurd (omega arith) | inr k ↦ k.1 ] in
      let first : (outage_at xs one.0).from ≤ (outage_at xs m).from = p.order.begins one.0 m one.1 h one.2 in
      let same : (outage_at ss m).from ≡ (outage_at xs m).from = o.from in
      let to : (outage_at xs one.0).to ≡ (outage_at ss m).to = one.3 in
      let few : one.0 ≤ m = one.1 in
      out_from xs l t one.0 (omega arith) (one.2 ∙ sym o.link ∙ link) (omega arith) (omega arith)

  -- an outage that is on has begun, and the last span that has begun is of its link and ends no earlier
  lasts : IsOutAt xs l t → n ≤ length ss → last_lasts ss n l t ≡ true
  lasts (j, h, e, f, g) few =
      let size : length ss ≡ length xs = p.size in
      let here = p.each j h in
      let began : begins_by l t (outage_at ss j) ≡ true = begins_from l t (outage_at ss j).link (outage_at ss j).from
      (inr (here.link ∙ e, (let k = here.from in omega arith))) in
      let before : j < n = elim (cases_Bool (nat_lt j n)) [
        | inl k ↦ ltb-true j n k
        | inr k ↦ absurd (both_ways (begins_by l t (outage_at ss j)) (point.1 j no_outage (ltb-false j n k) (omega arith)) began)
      ] in
      last n refl few before
    where
      last : (k : ℕ) → n ≡ k → k ≤ length ss → j < k → last_lasts ss k l t ≡ true
      last zero q few before = absurd (omega arith)
      last (suc m) q few before =
          let size : length ss ≡ length xs = p.size in
          let hm : m < length xs = omega arith in
          let o = p.each m hm in
          let up : (outage_at xs j).link ≤ (outage_at xs m).link = p.order.links j m (omega arith) hm in
          let same : (outage_at ss m).link ≡ (outage_at xs m).link = o.link in
          let link : (outage_at ss m).link ≡ l = elim (begins_in l t (outage_at ss m).link (outage_at ss m).from
          (point.0 m no_outage (omega arith) (omega arith))) [ inl k ↦ absurd (omega arith) | inr k ↦ k.0 ] in
          let to : (outage_at xs j).to ≤ (outage_at ss m).to = o.latest j (omega arith) (e ∙ sym link ∙ same) in
          and_from ((outage_at ss m).link == l) (nat_lt t (outage_at ss m).to) (eq-eqb (outage_at ss m).link l link)
          (lt-ltb t (outage_at ss m).to (omega arith))

  lasting_all : (k : ℕ) → n ≡ k → k ≤ length ss → last_lasts ss k l t ≡ true → is_out xs l t ≡ true
  lasting_all zero q few it = absurd (false≢true it)
  lasting_all (suc m) q few it = lasting m q (let size : length ss ≡ length xs = p.size in omega arith) it

  pub sorted_tells : n ≤ length ss → is_out xs l t ≡ last_lasts ss n l t
  sorted_tells few = same_tests (is_out xs l t) (last_lasts ss n l t) (λ h. lasts (out_in xs l t h) few) (λ h. lasting_all n refl few h)

pub last_tells : (list xs ss : List OutageSpec) → IsPermutation list xs → Prolongs xs ss → (l t n : ℕ) → n ≤ length ss
    → IsPartitionPoint (λ s. begins_by l t s ≡ true) (λ s. begins_by l t s ≡ false) ss n → is_out list l t ≡ last_lasts ss n l t
last_tells list xs ss m p l t n few point = list_any-IsPermutation (is_on l t) list xs m ∙ sorted_tells xs ss p l t n point few

-- ---- lists with the same outages

out_there : (os qs : List OutageSpec) → ((o : OutageSpec) → Contains os o → Contains qs o) → (l t : ℕ) → is_out os l t ≡ true
    → is_out qs l t ≡ true
out_there os qs h l t e =
    let r = out_in os l t e in
    let o = outage_at os r.0 in
    let c = h o (r.0, r.1, any_default os r.0 o no_outage r.1) in
    let is : outage_at qs c.0 ≡ o = any_default qs c.0 no_outage o c.1 ∙ c.2 in
    out_from qs l t c.0 c.1 (ap (λ (o : OutageSpec). o.link) is ∙ r.2)
    (subst (λ (o : OutageSpec). o.from ≤ t) (sym is) r.3) (subst (λ (o : OutageSpec). t < o.to) (sym is) r.4)

pub same_outages_out : SameOutagesOut
same_outages_out os qs h l t = same_tests (is_out os l t) (is_out qs l t) (out_there os qs (λ o. (h o).0) l t)
    (out_there qs os (λ o. (h o).1) l t)
