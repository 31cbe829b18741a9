-- Results, each in the slot of its index.
use Rattle.std.proofs.Common.{◌≡◌, ◌≢◌, ◌<◌, ◌≤◌, ℕ, zero, suc, ◌+◌, cond, ◌==◌, List, [], ◌∷◌, ◌++◌, length, map, slice_get, slice_index}
use Rattle.std.proofs.Common.{Option, Some, Ok, Err, Result, set, length-set, length-append, refl, sym, ap, ◌∙◌, subst, arith, append_assoc}
use Rattle.std.proofs.Common.{IsOk, None, eq-eqb, ne_eqb, lt_of_not-le}
use Rattle.std.proofs.lemmas.Option.{slice_get_cases, slice_get_read}
use Rattle.std.specs.List.{AllZip, Contains}
use mathlib.Core.Logic.{dite}
use native.Mathlib.Decide.{ℕ_discrete, dec_le}
use Rattle.srm_ledger.specs.Seats.{SeatView}
use Rattle.srm_cell.specs.declared.fault.CellFault.{CellFault}
use Rattle.srm_crew.specs.Indices.{times, EachOnce}
use Rattle.srm_crew.specs.declared.bag_fault.EmptyFault.{EmptyFault}
use Rattle.srm_crew.specs.declared.bag_fault.EmptyFault.TheVariants as empty
use Rattle.srm_crew.specs.declared.taken.Taken.{Taken}
use Rattle.srm_crew.specs.Passes.{BagView, PassView, RefusesEmpty, TellsEmpty}
use Rattle.srm_interfaces.specs.Crews.{HasGrown}
use Rattle.srm_crew.specs.Shared.{HoldsAt, sum_of, InOrder, ComeOf, HasWorked}
use Rattle.srm_crew.proofs.Peeling.{once_length, sum_same}

-- ---- indices, each once

found_once : (ps : List ℕ) (k : ℕ) → k < length ps → 1 ≤ times (slice_index ps k) ps
found_once [] k lt = absurd (omega arith)
found_once (p ∷ ps) zero lt = let e : cond {A = ℕ} (p == p) 1 0 ≡ 1 = ap (λ b. cond {A = ℕ} b 1 0) (eq-eqb p p refl) in omega (arith, e)
found_once (p ∷ ps) (suc k) lt = let r = found_once ps k (omega arith) in omega (arith, r)

found_twice : (ps : List ℕ) (i j : ℕ) → i < j → j < length ps → slice_index ps i ≡ slice_index ps j → 2 ≤ times (slice_index ps j) ps
found_twice [] i j near lt e = absurd (omega arith)
found_twice (p ∷ ps) i zero near lt e = absurd (omega arith)
found_twice (p ∷ ps) zero (suc j) near lt e =
    let r = found_once ps j (omega arith) in
    let o : cond {A = ℕ} (slice_index ps j == p) 1 0 ≡ 1 = ap (λ b. cond {A = ℕ} b 1 0) (eq-eqb (slice_index ps j) p (sym e)) in
    omega (arith, r, o)
found_twice (p ∷ ps) (suc i) (suc j) near lt e = let r = found_twice ps i j (omega arith) (omega arith) e in omega (arith, r)

once_below : (ps : List ℕ) (n : ℕ) → EachOnce ps n → (k : ℕ) → k < length ps → slice_index ps k < n
once_below ps n h k lt = dite (dec_le n (slice_index ps k))
    (λ far. absurd (let a = found_once ps k lt in let b = h.1 (slice_index ps k) far in omega (arith, a, b))) (λ near. lt_of_not-le near)

once_apart : (ps : List ℕ) (n i j : ℕ) → EachOnce ps n → i < j → j < length ps → slice_index ps i ≢ slice_index ps j
once_apart ps n i j h near lt e =
    let a = found_twice ps i j near lt e in
    let b = h.0 (slice_index ps j) (once_below ps n h j lt) in absurd (omega (arith, a, b))

found_at : (ps : List ℕ) (p : ℕ) → 1 ≤ times p ps → (k : ℕ) × (k < length ps) × (slice_index ps k ≡ p)
found_at [] p h = absurd (omega arith)
found_at (q ∷ qs) p h = dite (ℕ_discrete p q)
    (λ e. (0, omega arith, sym e))
    (λ apart. let z : cond {A = ℕ} (p == q) 1 0 ≡ 0 = ap (λ b. cond {A = ℕ} b 1 0) (ne_eqb p q apart) in let r =
    found_at qs p (omega (arith, h, z)) in (suc r.0, (let lt = r.1 in omega (arith, lt)), r.2))

-- ---- lists

module _ {A : Type 0} where
  get_middle : (xs ys : List A) (a : A) → slice_get ((xs ++ a ∷ []) ++ ys) (length xs) ≡ Some a
  get_middle [] ys a = refl
  get_middle (x ∷ xs) ys a = get_middle xs ys a

  get_set_same : (l : List A) (i : ℕ) (a : A) → i < length l → slice_get (set l i a) i ≡ Some a
  get_set_same [] i a h = absurd (omega arith)
  get_set_same (x ∷ xs) zero a h = refl
  get_set_same (x ∷ xs) (suc i) a h = get_set_same xs i a (omega arith)

  get_set_other : (l : List A) (i j : ℕ) (a : A) → j ≢ i → slice_get (set l i a) j ≡ slice_get l j
  get_set_other [] i j a apart = refl
  get_set_other (x ∷ xs) zero zero a apart = absurd (apart refl)
  get_set_other (x ∷ xs) zero (suc j) a apart = refl
  get_set_other (x ∷ xs) (suc i) zero a apart = refl
  get_set_other (x ∷ xs) (suc i) (suc j) a apart = get_set_other xs i j a (λ e. apart (ap suc e))

  get_some : (l : List A) (k : ℕ) (a : A) → slice_get (map Some l) k ≡ Some (Some a) → slice_get l k ≡ Some a
  get_some [] k a e = cc
  get_some (x ∷ xs) zero a e = cc
  get_some (x ∷ xs) (suc k) a e = get_some xs k a e

  map_long : (l : List A) → length (map (λ (x : A). Some x) l) ≡ length l
  map_long [] = refl
  map_long (x ∷ xs) = ap suc (map_long xs)

module _ {A B : Type 0} where
  zip_long : (R : A → B → Type 0) (xs : List A) (ys : List B) → AllZip R xs ys → length xs ≡ length ys
  zip_long R [] [] z = refl
  zip_long R [] (y ∷ ys) z = absurd z
  zip_long R (x ∷ xs) [] z = absurd z
  zip_long R (x ∷ xs) (y ∷ ys) z = ap suc (zip_long R xs ys z.1)

  zip_points : (R : A → B → Type 0) (xs : List A) (ys : List B) → length xs ≡ length ys
      → ((k : ℕ) → k < length xs → (x : A) × (y : B) × (slice_get xs k ≡ Some x) × (slice_get ys k ≡ Some y) × R x y) → AllZip R xs ys
  zip_points R [] [] e h = tt
  zip_points R [] (y ∷ ys) e h = absurd (omega arith)
  zip_points R (x ∷ xs) [] e h = absurd (omega arith)
  zip_points R (x ∷ xs) (y ∷ ys) e h =
      let o = h 0 (omega arith) in
      let a : o.0 ≡ x = cc in
      let b : o.1 ≡ y = cc in (
        subst (λ v. R x v) b (subst (λ u. R u o.1) a o.4),
        zip_points R xs ys (omega arith) (λ k lt. h (suc k) (omega arith)),
      )

module _ {B : Type 0} where
  -- one result of an index
  zip_found : (R S : ℕ → B → Type 0) (ps : List ℕ) (ys : List B) → AllZip R ps ys → AllZip S ps ys → (k : ℕ) → k < length ps → (y : B)
      × R (slice_index ps k) y × S (slice_index ps k) y
  zip_found R S [] ys z w k lt = absurd (omega arith)
  zip_found R S (p ∷ ps) [] z w k lt = absurd z
  zip_found R S (p ∷ ps) (y ∷ ys) z w zero lt = (y, z.0, w.0)
  zip_found R S (p ∷ ps) (y ∷ ys) z w (suc k) lt = zip_found R S ps ys z.1 w.1 k (omega arith)

zip_held : {D : Type 0} (all : List D) (ps : List ℕ) (ds : List D) → AllZip (λ p d. slice_get all p ≡ Some d) ps ds
    → AllZip (λ p d. HoldsAt (λ x. x ≡ d) all p) ps ds
zip_held all [] [] z = tt
zip_held all [] (d ∷ ds) z = absurd z
zip_held all (p ∷ ps) [] z = absurd z
zip_held all (p ∷ ps) (d ∷ ds) z = ((d, z.0, refl), zip_held all ps ds z.1)

zip_by_index : {D : Type 0} (P : ℕ → D → Type 0) (ps : List ℕ) (ds : List D)
    → length ps ≡ length ds → ((k : ℕ) (d : D) → slice_get ds k ≡ Some d → k < length ps → P (slice_index ps k) d) → AllZip P ps ds
zip_by_index P [] [] e h = tt
zip_by_index P [] (d ∷ ds) e h = absurd (omega arith)
zip_by_index P (p ∷ ps) [] e h = absurd (omega arith)
zip_by_index P (p ∷ ps) (d ∷ ds) e h = (
  h 0 d refl (omega arith),
  zip_by_index P ps ds (omega arith) (λ k x g lt. h (suc k) x g (omega arith)),
)

-- ---- slots

module _ {D : Type 0} where
  -- the results from m on stand in the slots of their indices
  abbrev pub FilledFrom : List ℕ → List D → ℕ → List (Option D) → Type 0
  FilledFrom indices all m slots = (k : ℕ) → m ≤ k → k < length all → slice_get slots (slice_index indices k) ≡ Some (slice_get all k)

  pub record Stepped (indices : List ℕ) (all new : List D) (x : D) (slots : List (Option D)) : Type 0 where
    pub within : length new < length indices
    pub near : slice_index indices (length new) < length slots
    pub rest : (tail : List D) × (all ≡ new ++ tail)
    pub long : length (set slots (slice_index indices (length new)) (Some x)) ≡ length all
    pub filled : FilledFrom indices all (length new) (set slots (slice_index indices (length new)) (Some x))

  pub one_step : (indices : List ℕ) (all old new tail : List D) (x : D) (slots : List (Option D)) → EachOnce indices (length all)
      → length indices ≡ length all → length slots ≡ length all
      → all ≡ old ++ tail → old ≡ new ++ x ∷ [] → FilledFrom indices all (length old) slots → Stepped indices all new x slots
  one_step indices all old new tail x slots once many long split last filled =
      let parts : all ≡ (new ++ x ∷ []) ++ tail = split ∙ ap (λ l. l ++ tail) last in
      let m : ℕ = length new in
      let one_less : length old ≡ m + 1 = ap length last ∙ length-append new (x ∷ []) in
      let len : length all ≡ (m + 1) + length tail = ap length parts ∙ length-append (new ++ x ∷ []) tail
      ∙ ap (λ n. n + length tail) (length-append new (x ∷ [])) in
      let lt : m < length indices = omega (arith, many, len) in
      let index : ℕ = slice_index indices m in
      let under = once_below indices (length all) once m lt in
      let here : slice_get all m ≡ Some x = ap (λ l. slice_get l m) parts ∙ get_middle new tail x in
      record {
        within = lt;
        near = omega (arith, under, long);
        rest = (x ∷ tail, parts ∙ append_assoc new (x ∷ []) tail);
        long = length-set slots index (Some x) ∙ long;
        filled = λ k from far. dite (ℕ_discrete k m)
            (λ e. subst (λ (i : ℕ). slice_get (set slots index (Some x)) (slice_index indices i) ≡ Some (slice_get all i)) (sym e)
            (get_set_same slots index (Some x) (omega (arith, under, long)) ∙ ap (λ o. Some o) (sym here)))
            (λ apart. let after : m < k = omega (arith, from, apart) in
            get_set_other slots index (slice_index indices k) (Some x)
            (λ e. once_apart indices (length all) m k once after (omega (arith, far, many)) (sym e))
            ∙ filled k (omega (arith, after, one_less)) far);
      }

  pub ordered : (indices : List ℕ) (all v : List D) (slots : List (Option D)) → length indices ≡ length all → length slots ≡ length all
      → FilledFrom indices all 0 slots → map (λ (x : D). Some x) v ≡ slots → InOrder indices all v
  ordered indices all v slots many long filled same = grind (arith, map_long, zip_by_index, get_some)

  pub none_empty : (indices : List ℕ) (all : List D) (slots : List (Option D)) → EachOnce indices (length all)
      → length indices ≡ length all → length slots ≡ length all → FilledFrom indices all 0 slots → Contains slots None → ⊥
  none_empty indices all slots once many long filled gap =
      let o = once.0 gap.0 (omega (arith, gap.1, long)) in grind (arith, found_at indices gap.0, slice_get_cases, slice_get_read)

-- ---- all items

module _ {T D : Type 0} (R : T → Result D CellFault → Type 0) (numbers : D → List ℕ) where
  -- what workers did, where every index was taken once and the results are in order
  pub all_told : (items : List T) (P p : PassView T) (S s : SeatView) (r v : List D) (indices : List ℕ) → P.put ≡ items → P.taken ≡ []
      → HasWorked R numbers P S [] p s r → indices ≡ p.taken → EachOnce indices (length items) → InOrder indices r v
      → AllZip (λ x d. R x (Ok d)) items v × HasGrown (λ k. sum_of numbers k v) S s
  all_told items P p S s r v indices put none w is once order =
      let same : indices ≡ w.indices = is ∙ ap (λ q. q.taken) w.taken ∙ ap (λ l. l ++ w.indices) none in
      let come : ComeOf R items w.indices w.more = subst (λ l. ComeOf R l w.indices w.more) put w.come in
      let come2 : ComeOf R items indices w.more = subst (λ l. ComeOf R items l w.more) (sym same) come in
      let come3 : ComeOf R items indices r = subst (λ l. ComeOf R items indices l) (sym w.gave) come2 in
      let many : length indices ≡ length items = once_length (length items) indices once in
      let as_many : length indices ≡ length r = zip_long (λ p d. HoldsAt (λ x. R x (Ok d)) items p) indices r come3 in
      let long : length v ≡ length items = order.0 ∙ sym as_many ∙ many in
      let sums = sum_same numbers v indices r (subst (EachOnce indices) (sym long) once) (zip_held v indices r order.1) in (
        zip_points (λ x d. R x (Ok d)) items v (sym long) (λ k lt.
            let o = once.0 k lt in
            let i = found_at indices k (omega (arith, o)) in
            let f = zip_found (λ p d. HoldsAt (λ x. R x (Ok d)) items p) (λ p d. slice_get v p ≡ Some d)
            indices r come3 order.1 i.0 i.1 in (
              f.1.0,
              f.0,
              subst (λ (q : ℕ). slice_get items q ≡ Some f.1.0) i.2 f.1.1,
              subst (λ (q : ℕ). slice_get v q ≡ Some f.0) i.2 f.2,
              f.1.2,
            )),
        record {
          ledger = w.grown.ledger;
          weight = w.grown.weight;
          shares = λ k.
              let e = w.grown.shares k in
              let a = sums k in
              let b : sum_of numbers k r ≡ sum_of numbers k w.more = ap (sum_of numbers k) w.gave in omega (arith, e, a, b);
          seen = w.grown.seen;
        },
      )

  -- the indices of all results
  pub record Indexed (items : List T) (r : List D) (indices : List ℕ) : Type 0 where
    pub once : EachOnce indices (length r)
    pub many : length indices ≡ length r
    pub whole : EachOnce indices (length items)

  pub all_indexed : (items : List T) (P p : PassView T) (S s : SeatView) (r : List D) (indices : List ℕ) → P.put ≡ items → P.taken ≡ []
      → HasWorked R numbers P S [] p s r → indices ≡ p.taken → EachOnce p.taken (length p.put) → Indexed items r indices
  all_indexed items P p S s r indices put none w is once =
      let put2 : p.put ≡ items = ap (λ q. q.put) w.taken ∙ put in
      let same : indices ≡ w.indices = is ∙ ap (λ q. q.taken) w.taken ∙ ap (λ l. l ++ w.indices) none in
      let whole : EachOnce indices (length items) = subst (λ l. EachOnce indices (length l)) put2
      (subst (λ l. EachOnce l (length p.put)) (sym is) once) in
      let many : length indices ≡ length r = ap length same ∙ zip_long (λ p d. HoldsAt (λ x. R x (Ok d)) P.put p) w.indices w.more w.come
      ∙ sym (ap length w.gave) in
      record { once = subst (EachOnce indices) (sym (once_length (length items) indices whole) ∙ many) whole; many = many; whole = whole }

  not_refused : (P p : PassView T) (S s : SeatView) (r : List D) (e : EmptyFault) → P.weight ≡ 65536 → HasWorked R numbers P S [] p s r
      → (p.weight ≡ 65536 → EachOnce p.taken (length p.put)) → RefusesEmpty p e → ⊥
  not_refused P p S s r empty.NotWhole is w whole h = let weight : p.weight ≡ 65536 = ap (λ q. q.weight) w.taken
      ∙ is in omega (arith, weight, h)
  not_refused P p S s r empty.NotEmpty is w whole h = let long = once_length (length p.put) p.taken (whole h.0) in let short = h.1 in
      omega (arith, long, short)

  -- the bag is emptied
  pub emptied : (b : BagView) (P p : PassView T) (S s : SeatView) (r : List D) (t : Result Taken (BagView × PassView T × EmptyFault))
      → P.weight ≡ 65536 → HasWorked R numbers P S [] p s r → (p.weight ≡ 65536 → EachOnce p.taken (length p.put))
      → TellsEmpty b p t → IsOk t
  emptied b P p S s r (Ok t) is w whole h = refl
  emptied b P p S s r (Err e) is w whole h = absurd (not_refused P p S s r e.2 is w whole h.2)
