-- Members that hear a packet one after the other.
use Rattle.std.proofs.Common.{◌≡◌, ℕ, zero, suc, ◌+◌, ◌≤◌, true, cond, List, [], ◌∷◌, length, Some, option_map, refl, sym, ap}
use Rattle.std.proofs.Common.{◌∙◌, slice_get, slice_set, nat_lt, lt-ltb, le-ltb, arith, zero-add}
use Rattle.srm_net.specs.declared.packet.Packet.{Packet}
use Rattle.srm_cell.specs.Setting.{Traffic}
use Rattle.srm_cell.specs.Cells.{PlainCell, hear}
use Rattle.srm_model.specs.Hearing.{heard_below}
use Rattle.std.proofs.lemmas.Option.{same_Some}

module _ (s : Traffic) (p : Packet) where
  pub none_heard : (k i : ℕ) (cs : List PlainCell) → k ≤ i → heard_below s p k i cs ≡ cs
  none_heard k i [] le = refl
  none_heard k i (c ∷ cs) le = ap (λ b. cond b (hear s p i c) c ∷ heard_below s p k (suc i) cs) (le-ltb i k le)
      ∙ ap (λ l. c ∷ l) (none_heard k (suc i) cs (omega arith))

  pub length_heard : (k i : ℕ) (cs : List PlainCell) → length (heard_below s p k i cs) ≡ length cs
  length_heard k i [] = refl
  length_heard k i (c ∷ cs) = ap suc (length_heard k (suc i) cs)

  abbrev pub if_below : ℕ → ℕ → PlainCell → PlainCell
  if_below k m c = cond (nat_lt m k) (hear s p m c) c

  pub get_heard : (k i j : ℕ) (cs : List PlainCell) → slice_get (heard_below s p k i cs) j
      ≡ option_map (if_below k (i + j)) (slice_get cs j)
  get_heard k i j [] = refl
  get_heard k i zero (c ∷ cs) = let e : i ≡ i + 0 = omega arith in ap (λ m. Some (if_below k m c)) e
  get_heard k i (suc j) (c ∷ cs) = let e : suc i + j ≡ i + suc j = omega arith in get_heard k (suc i) j cs
      ∙ ap (λ m. option_map (if_below k m) (slice_get cs j)) e

  -- member k has not heard it yet
  pub get_next : (k : ℕ) (cs : List PlainCell) → slice_get (heard_below s p k 0 cs) k ≡ slice_get cs k
  get_next k cs = grind (arith, get_heard)

  -- and then it hears
  heard_more : (i j : ℕ) (cs : List PlainCell) (c : PlainCell) → slice_get cs j ≡ Some c
      → slice_set (heard_below s p (i + j) i cs) j (hear s p (i + j) c) ≡ heard_below s p (i + j + 1) i cs
  heard_more i j [] c h = cc
  heard_more i zero (x ∷ xs) c h =
      let e : i + 0 ≡ i = omega arith in
      let same = same_Some x c h in
      let now : nat_lt i (i + 0 + 1) ≡ true = lt-ltb i (i + 0 + 1) (omega arith) in
      ap (λ l. hear s p (i + 0) c ∷ l) (none_heard (i + 0) (suc i) xs (omega arith)) ∙ ap (λ m. hear s p m c ∷ xs) e
      ∙ ap (λ y. hear s p i y ∷ xs) (sym same)
      ∙ sym (ap (λ b. cond b (hear s p i x) x ∷ heard_below s p (i + 0 + 1) (suc i) xs) now
      ∙ ap (λ l. hear s p i x ∷ l) (none_heard (i + 0 + 1) (suc i) xs (omega arith)))
  heard_more i (suc j) (x ∷ xs) c h =
      let e : i + suc j ≡ suc i + j = omega arith in
      let was : nat_lt i (i + suc j) ≡ true = lt-ltb i (i + suc j) (omega arith) in
      let now : nat_lt i (i + suc j + 1) ≡ true = lt-ltb i (i + suc j + 1) (omega arith) in
      ap (λ b. cond b (hear s p i x) x ∷ slice_set (heard_below s p (i + suc j) (suc i) xs) j (hear s p (i + suc j) c)) was
      ∙ ap (λ k. hear s p i x ∷ slice_set (heard_below s p k (suc i) xs) j (hear s p k c)) e
      ∙ ap (λ l. hear s p i x ∷ l) (heard_more (suc i) j xs c h)
      ∙ ap (λ k. hear s p i x ∷ heard_below s p (k + 1) (suc i) xs) (sym e)
      ∙ ap (λ b. cond b (hear s p i x) x ∷ heard_below s p (i + suc j + 1) (suc i) xs) (sym now)

  pub heard_next : (k : ℕ) (cs : List PlainCell) (c : PlainCell) → slice_get cs k ≡ Some c
      → slice_set (heard_below s p k 0 cs) k (hear s p k c) ≡ heard_below s p (k + 1) 0 cs
  heard_next k cs c h =
      ap (λ m. slice_set (heard_below s p m 0 cs) k (hear s p m c)) (sym (zero-add k)) ∙ heard_more 0 k cs c h
      ∙ ap (λ m. heard_below s p (m + 1) 0 cs) (zero-add k)
