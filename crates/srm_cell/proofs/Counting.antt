-- Counting a packet link by link.
use Rattle.std.proofs.Common.{◌≡◌, ℕ, zero, suc, ◌+◌, ◌*◌, ◌<◌, ◌≤◌, Bool, true, false, cond, ◌&&◌, ◌==◌, List, [], ◌∷◌, ◌++◌, length, refl}
use Rattle.std.proofs.Common.{sym, ap, ◌∙◌, slice_index, nat_lt, lt-ltb, le-ltb, arith, add-zero, zero-add, le_refl, length-append}
use Rattle.std.specs.List.{flat_map, range_with_len, count_by}
use Rattle.std.proofs.lemmas.List.Sums.{count_by-le-length}
use Rattle.srm_net.specs.declared.packet.Body.{Body}
use Rattle.srm_net.specs.declared.packet.Body.TheVariants.{Drawop, Request, Repair, Session}
use Rattle.srm_net.specs.declared.packet.Packet.{Packet}
use Rattle.srm_net.proofs.Basics.{one_if, count_last}
use Rattle.srm_ledger.specs.declared.kind.Kind.{Kind}
use Rattle.srm_ledger.specs.declared.kind.Kind.TheVariants as kind
use Rattle.srm_ledger.specs.Counts.{place_of}
use Rattle.srm_cell.specs.Setting.{Traffic}
use Rattle.srm_cell.specs.Crossings.{kind_of, crossed, crossings_at}
use Rattle.srm_cell.specs.Totalled.{numbers_of, bump}

-- ---- one link

head : (b : Body) (c d : Bool) (a0 a1 a2 a3 a4 : ℕ) (t : List ℕ)
    → bump d 4 (bump c (place_of (kind_of b)) (a0 ∷ a1 ∷ a2 ∷ a3 ∷ a4 ∷ t))
    ≡ (a0 + one_if ((place_of (kind_of b) == 0) && c)) ∷ (a1 + one_if ((place_of (kind_of b) == 1) && c))
    ∷ (a2 + one_if ((place_of (kind_of b) == 2) && c)) ∷
    (a3 + one_if ((place_of (kind_of b) == 3) && c)) ∷ (a4 + one_if d) ∷ t
head (Drawop n ink) true true a0 a1 a2 a3 a4 t = simp add-zero
head (Drawop n ink) true false a0 a1 a2 a3 a4 t = simp add-zero
head (Drawop n ink) false true a0 a1 a2 a3 a4 t = simp add-zero
head (Drawop n ink) false false a0 a1 a2 a3 a4 t = simp add-zero
head (Request n scope) true true a0 a1 a2 a3 a4 t = simp add-zero
head (Request n scope) true false a0 a1 a2 a3 a4 t = simp add-zero
head (Request n scope) false true a0 a1 a2 a3 a4 t = simp add-zero
head (Request n scope) false false a0 a1 a2 a3 a4 t = simp add-zero
head (Repair n ink local) true true a0 a1 a2 a3 a4 t = simp add-zero
head (Repair n ink local) true false a0 a1 a2 a3 a4 t = simp add-zero
head (Repair n ink local) false true a0 a1 a2 a3 a4 t = simp add-zero
head (Repair n ink local) false false a0 a1 a2 a3 a4 t = simp add-zero
head (Session hs) true true a0 a1 a2 a3 a4 t = simp add-zero
head (Session hs) true false a0 a1 a2 a3 a4 t = simp add-zero
head (Session hs) false true a0 a1 a2 a3 a4 t = simp add-zero
head (Session hs) false false a0 a1 a2 a3 a4 t = simp add-zero

-- the five numbers of a link are left as they are by a count at a later one
skip : (b : Bool) (j i : ℕ) (a0 a1 a2 a3 a4 : ℕ) (t : List ℕ) → bump b (5 * suc j + i) (a0 ∷ a1 ∷ a2 ∷ a3 ∷ a4 ∷ t)
    ≡ a0 ∷ a1 ∷ a2 ∷ a3 ∷ a4 ∷ bump b (5 * j + i) t
skip b j i a0 a1 a2 a3 a4 t = grind arith

module _ (s : Traffic) (ps : List Packet) (p : Packet) where
  abbrev all : List Packet
  all = ps ++ p ∷ []

  crossed_more : (k : Kind) (l : ℕ) → crossed s k l all
      ≡ crossed s k l ps + one_if ((place_of (kind_of p.body) == place_of k) && s.crosses p l)
  crossed_more k l = count_last (λ q. (place_of (kind_of q.body) == place_of k) && s.crosses q l) ps p

  dropped_more : (l : ℕ) → count_by (λ q. s.drops_at q l) all ≡ count_by (λ q. s.drops_at q l) ps + one_if (s.drops_at p l)
  dropped_more l = count_last (λ q. s.drops_at q l) ps p

  -- the five numbers of each of n links from l on; those of links below k with the packet
  abbrev pub mixed : ℕ → ℕ → ℕ → List ℕ
  mixed k l zero = []
  mixed k l (suc n) = crossings_at s (cond (nat_lt l k) all ps) l ++ mixed k (l + 1) n

  abbrev flat : List Packet → ℕ → ℕ → List ℕ
  flat qs l n = flat_map (crossings_at s qs) (range_with_len l n)

  all_old : (k l n : ℕ) → k ≤ l → mixed k l n ≡ flat ps l n
  all_old k l zero le = refl
  all_old k l (suc n) le = ap (λ b. crossings_at s (cond b all ps) l ++ mixed k (l + 1) n) (le-ltb l k le)
      ∙ ap (λ t. crossings_at s ps l ++ t) (all_old k (l + 1) n (omega arith))

  all_new : (k l n : ℕ) → l + n ≤ k → mixed k l n ≡ flat all l n
  all_new k l zero le = refl
  all_new k l (suc n) le = ap (λ b. crossings_at s (cond b all ps) l ++ mixed k (l + 1) n) (lt-ltb l k (omega arith))
      ∙ ap (λ t. crossings_at s all l ++ t) (all_new k (l + 1) n (omega arith))

  pub none_counted : mixed 0 0 s.links ≡ numbers_of s ps
  unfolding numbers_of
  none_counted = all_old 0 0 s.links (le_refl 0)

  pub all_counted : mixed s.links 0 s.links ≡ numbers_of s all
  unfolding numbers_of
  all_counted = all_new s.links 0 s.links (omega arith)

  pub length_mixed : (k l n : ℕ) → length (mixed k l n) ≡ 5 * n
  length_mixed k l zero = refl
  length_mixed k l (suc n) = let e = length_mixed k (l + 1) n in omega (arith, e)

  here : (l : ℕ) (t : List ℕ) → bump (s.drops_at p l) 4 (bump (s.crosses p l) (place_of (kind_of p.body)) (crossings_at s ps l ++ t))
      ≡ crossings_at s all l ++ t
  here l t = head p.body (s.crosses p l) (s.drops_at p l) (crossed s kind.Drawop l ps) (crossed s kind.Request l ps)
      (crossed s kind.Repair l ps) (crossed s kind.Session l ps)
      (count_by (λ q. s.drops_at q l) ps) t
      ∙ (λ i. sym (crossed_more kind.Drawop l) i ∷ sym (crossed_more kind.Request l) i ∷ sym (crossed_more kind.Repair l) i
      ∷ sym (crossed_more kind.Session l) i ∷ sym
      (dropped_more l) i ∷ t)

  more : (l j n : ℕ) → j < n → bump (s.drops_at p (l + j)) (5 * j + 4)
      (bump (s.crosses p (l + j)) (5 * j + place_of (kind_of p.body)) (mixed (l + j) l n)) ≡ mixed (l + j + 1) l n
  more l j zero lt = absurd (omega arith)
  more l zero (suc n) lt =
      let e : l + 0 ≡ l = omega arith in
      let z : 5 * 0 + place_of (kind_of p.body) ≡ place_of (kind_of p.body) = omega arith in
      ap (λ m. bump (s.drops_at p m) 4 (bump (s.crosses p m) (5 * 0 + place_of (kind_of p.body)) (mixed m l (suc n)))) e
      ∙ ap (λ m. bump (s.drops_at p l) 4 (bump (s.crosses p l) m (mixed l l (suc n)))) z
      ∙ ap (λ x. bump (s.drops_at p l) 4 (bump (s.crosses p l) (place_of (kind_of p.body)) x))
      (ap (λ b. crossings_at s (cond b all ps) l ++ mixed l (l + 1) n) (le-ltb l l (le_refl l))
      ∙ ap (λ t. crossings_at s ps l ++ t) (all_old l (l + 1) n (omega arith)))
      ∙ here l (flat ps (l + 1) n)
      ∙ sym (ap (λ b. crossings_at s (cond b all ps) l ++ mixed (l + 0 + 1) (l + 1) n) (lt-ltb l (l + 0 + 1) (omega arith))
      ∙ ap (λ t. crossings_at s all l ++ t) (all_old (l + 0 + 1) (l + 1) n (omega arith)))
  more l (suc j) (suc n) lt =
      let e : l + suc j ≡ l + 1 + j = omega arith in
      let was : nat_lt l (l + suc j) ≡ true = lt-ltb l (l + suc j) (omega arith) in
      let now : nat_lt l (l + suc j + 1) ≡ true = lt-ltb l (l + suc j + 1) (omega arith) in
      ap (λ b. bump (s.drops_at p (l + suc j)) (5 * suc j + 4)
      (bump (s.crosses p (l + suc j)) (5 * suc j + place_of (kind_of p.body))
      (crossings_at s (cond b all ps) l ++ mixed (l + suc j) (l + 1) n))) was
      ∙ ap (bump (s.drops_at p (l + suc j)) (5 * suc j + 4))
      (skip (s.crosses p (l + suc j)) j (place_of (kind_of p.body)) (crossed s kind.Drawop l all) (crossed s kind.Request l all)
      (crossed s kind.Repair l all)
      (crossed s kind.Session l all) (count_by (λ q. s.drops_at q l) all) (mixed (l + suc j) (l + 1) n))
      ∙ skip (s.drops_at p (l + suc j)) j 4 (crossed s kind.Drawop l all) (crossed s kind.Request l all) (crossed s kind.Repair l all)
      (crossed s kind.Session l all)
      (count_by (λ q. s.drops_at q l) all)
      (bump (s.crosses p (l + suc j)) (5 * j + place_of (kind_of p.body)) (mixed (l + suc j) (l + 1) n))
      ∙ ap (λ t. crossings_at s all l ++ t)
      (ap (λ m. bump (s.drops_at p m) (5 * j + 4) (bump (s.crosses p m) (5 * j + place_of (kind_of p.body)) (mixed m (l + 1) n))) e
      ∙ more (l + 1) j n (omega arith) ∙ ap (λ m. mixed (m + 1) (l + 1) n) (sym e))
      ∙ ap (λ b. crossings_at s (cond b all ps) l ++ mixed (l + suc j + 1) (l + 1) n) (sym now)

  pub counted_link : (k : ℕ) → k < s.links → bump (s.drops_at p k) (5 * k + 4)
      (bump (s.crosses p k) (5 * k + place_of (kind_of p.body)) (mixed k 0 s.links)) ≡ mixed (k + 1) 0 s.links
  counted_link k lt =
      let e : 0 + k ≡ k = zero-add k in
      ap (λ m. bump (s.drops_at p m) (5 * k + 4) (bump (s.crosses p m) (5 * k + place_of (kind_of p.body)) (mixed m 0 s.links)))
      (sym e) ∙ more 0 k s.links lt ∙ ap (λ m. mixed (m + 1) 0 s.links) e

  -- no number is above that of the packets
  few : (q : Packet → Bool) (b : Bool) → count_by q (cond b all ps) ≤ length ps + 1
  few q true = let e = length-append ps (p ∷ []) in let h = count_by-le-length q all in omega (arith, e, h)
  few q false = let h = count_by-le-length q ps in omega (arith, h)

  pub most : (l i n k : ℕ) → slice_index (mixed k l n) i ≤ length ps + 1
  most l i zero k = omega arith
  most l zero (suc n) k = few (λ q. (place_of (kind_of q.body) == 0) && s.crosses q l) (nat_lt l k)
  most l (suc zero) (suc n) k = few (λ q. (place_of (kind_of q.body) == 1) && s.crosses q l) (nat_lt l k)
  most l (suc (suc zero)) (suc n) k = few (λ q. (place_of (kind_of q.body) == 2) && s.crosses q l) (nat_lt l k)
  most l (suc (suc (suc zero))) (suc n) k = few (λ q. (place_of (kind_of q.body) == 3) && s.crosses q l) (nat_lt l k)
  most l (suc (suc (suc (suc zero)))) (suc n) k = few (λ q. s.drops_at q l) (nat_lt l k)
  most l (suc (suc (suc (suc (suc i))))) (suc n) k = most (l + 1) i n k
