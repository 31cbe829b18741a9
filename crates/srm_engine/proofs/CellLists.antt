-- Cells in groups, in the order of their members.
use Rattle.std.proofs.Common.{◌≡◌, ℕ, suc, ◌+◌, ◌<◌, ◌≤◌, ◌⊎◌, inl, inr, List, [], ◌∷◌, ◌++◌, length, map}
use Rattle.std.proofs.Common.{refl, sym, ap, ◌∙◌, subst, arith, add-zero, add-one, length-append, append-nil}
use Rattle.std.proofs.Common.{append_assoc}
use Rattle.std.proofs.lemmas.List.{length-map, map-append}
use Rattle.std.proofs.lemmas.List.Elements.{All-nil, All-cons, All-head, All-tail}
use Rattle.std.specs.List.{range_with_len}
use Rattle.std.specs.Global.{Vec}
use Rattle.srm_member.specs.Record.{Record}
use Rattle.srm_cell.specs.declared.cell.Cell.{Cell}
use Rattle.srm_cell.specs.Cells.{PlainCell}
use Rattle.srm_cell.specs.Views.{IsSoundCell, plain_cell}
use Rattle.srm_cell.specs.Jobs.{AreSound, own_cells}
use Rattle.srm_engine.specs.Seen.{AreFrom, AreInOrder, plain_cells}
use Rattle.srm_model.specs.WindowRuns.{cells_from}
use Rattle.srm_interfaces.proofs.GroupedLemmas.{all_in_append}
use Rattle.srm_engine.specs.Groups.{AreCuts, AreFull, sizes, all_in}

-- ---- cells of members that follow one another

same_first : {A : Type 0} (x y : A) (xs ys : List A) → x ∷ xs ≡ y ∷ ys → (x ≡ y) × (xs ≡ ys)
same_first x y xs ys e = (cc, cc)

module _ {M : Type 0} (f : M → Record) where
  pub none_from : (i : ℕ) → AreFrom f i []
  none_from i = record { sound = All-nil (IsSoundCell f); numbers = refl }

  pub first_from : (i : ℕ) (c : Cell M) (cs : List (Cell M)) → AreFrom f i (c ∷ cs) → (c.number ≡ i) × AreFrom f (suc i) cs
  first_from i c cs h =
      let r = same_first c.number i (map (λ (x : Cell M). x.number) cs) (range_with_len (i + 1) (length cs)) h.numbers in (
        r.0,
        record {
          sound = All-tail (IsSoundCell f) c cs h.sound;
          numbers = r.1 ∙ ap (λ k. range_with_len k (length cs)) (add-one i);
        },
      )

  pub more_from : (i : ℕ) (c : Cell M) (cs : List (Cell M)) → IsSoundCell f c → c.number ≡ i → AreFrom f (suc i) cs
      → AreFrom f i (c ∷ cs)
  more_from i c cs sound number h = record {
    sound = All-cons (IsSoundCell f) c cs sound h.sound;
    numbers = (λ k. number k ∷ h.numbers k) ∙ ap (λ k. i ∷ range_with_len k (length cs)) (sym (add-one i));
  }

  pub both_from : (i : ℕ) (cs ds : List (Cell M)) → AreFrom f i (cs ++ ds) → AreFrom f i cs × AreFrom f (i + length cs) ds
  both_from i [] ds h = (none_from i, subst (λ k. AreFrom f k ds) (sym (add-zero i)) h)
  both_from i (c ∷ cs) ds h =
      let r = first_from i c (cs ++ ds) h in
      let more = both_from (suc i) cs ds r.1 in
      let at : suc i + length cs ≡ i + suc (length cs) = omega arith in (
        more_from i c cs (All-head (IsSoundCell f) c (cs ++ ds) h.sound) r.0 more.0,
        subst (λ k. AreFrom f k ds) at more.1,
      )

  -- the cells as they are seen, each with its member
  pub own_from : (i : ℕ) (cs : List (Cell M)) → AreFrom f i cs → own_cells f cs ≡ cells_from i (plain_cells f cs)
  own_from i [] h = refl
  own_from i (c ∷ cs) h =
      let r = first_from i c cs h in
      let more = own_from (suc i) cs r.1 in
      λ k. record { member = r.0 k; cell = plain_cell f c } ∷ more k

  -- the same members
  pub still_from : (i : ℕ) (cs ds : List (Cell M)) → AreFrom f i cs → AreSound f ds
      → map (λ (c : Cell M). c.number) ds ≡ map (λ (c : Cell M). c.number) cs → AreFrom f i ds
  still_from i cs ds h sound same =
      let many : length cs ≡ length ds =
      sym (length-map cs (λ (c : Cell M). c.number)) ∙ ap length (sym same) ∙ length-map ds (λ (c : Cell M). c.number) in
      record { sound = sound; numbers = same ∙ h.numbers ∙ ap (range_with_len i) many }

  -- all cells, each with its member, where they are seen as these
  pub own_all : (cs : List (Cell M)) (ps : List PlainCell) → AreInOrder f cs → plain_cells f cs ≡ ps → own_cells f cs ≡ cells_from 0 ps
  own_all cs ps h shown = own_from 0 cs h ∙ ap (cells_from 0) shown

  pub as_many : (cs : List (Cell M)) (ps : List PlainCell) → plain_cells f cs ≡ ps → length cs ≡ length ps
  as_many cs ps shown = sym (length-map cs (plain_cell f)) ∙ ap length shown

-- ---- sizes

-- a group is of `cut` cells, or is the last
pub record First (cut n : ℕ) (ns : List ℕ) : Type 0 where
  pub some : 0 < n
  pub most : n ≤ cut
  pub full : (n ≡ cut) ⊎ (ns ≡ [])
  pub others : AreCuts cut ns

pub first_cut : (cut n : ℕ) (ns : List ℕ) → 0 < cut → AreCuts cut (n ∷ ns) → First cut n ns
first_cut cut n [] pos h = record { some = h.0; most = h.1; full = inr refl; others = tt }
first_cut cut n (m ∷ ns) pos h = let e = h.0 in record { some = omega arith; most = omega arith; full = inl e; others = h.1 }

pub full_more : (cut : ℕ) (ns : List ℕ) (n : ℕ) → AreFull cut ns → n ≡ cut → AreFull cut (ns ++ n ∷ [])
full_more cut [] n h e = (e, tt)
full_more cut (m ∷ ns) n h e = (h.0, full_more cut ns n h.1 e)

pub full_cuts : (cut : ℕ) (ns : List ℕ) → 0 < cut → AreFull cut ns → AreCuts cut ns
full_cuts cut [] pos h = tt
full_cuts cut (n ∷ []) pos h = let e = h.0 in (omega arith, omega arith)
full_cuts cut (n ∷ m ∷ ns) pos h = (h.0, full_cuts cut (m ∷ ns) pos h.1)

pub last_cuts : (cut : ℕ) (ns : List ℕ) (n : ℕ) → 0 < n → n ≤ cut → AreFull cut ns → AreCuts cut (ns ++ n ∷ [])
last_cuts cut [] n some most h = (some, most)
last_cuts cut (m ∷ []) n some most h = (h.0, (some, most))
last_cuts cut (m ∷ k ∷ ns) n some most h = (h.0, last_cuts cut (k ∷ ns) n some most h.1)

-- groups of the same sizes hold as many
pub all_long : {A B : Type 0} (xs : List (Vec A)) (ys : List (Vec B)) → sizes xs ≡ sizes ys → length (all_in xs) ≡ length (all_in ys)
all_long [] [] e = refl
all_long [] (y ∷ ys) e = cc
all_long (x ∷ xs) [] e = cc
all_long (x ∷ xs) (y ∷ ys) e =
    let first : length x.items ≡ length y.items = cc in
    let rest : sizes xs ≡ sizes ys = cc in
    let more = all_long xs ys rest in
    omega (arith, first, more, length-append x.items (all_in xs), length-append y.items (all_in ys))

module _ {A : Type 0} where
  pub no_more_groups : (gs : List (Vec A)) → sizes gs ≡ [] → gs ≡ []
  no_more_groups [] h = refl
  no_more_groups (g ∷ gs) h = cc

  pub few_groups : (cut : ℕ) (gs : List (Vec A)) → 0 < cut → AreCuts cut (sizes gs) → length gs ≤ length (all_in gs)
  few_groups cut [] pos h = omega arith
  few_groups cut (g ∷ gs) pos h =
      let a = first_cut cut (length g.items) (sizes gs) pos h in
      let some = a.some in
      let more = few_groups cut gs pos a.others in
      let both = length-append g.items (all_in gs) in
      omega arith

  -- ---- one group after the other

  pub closed : (gs hs : List (Vec A)) (g h : Vec A) → hs ≡ gs ++ g ∷ [] → h.items ≡ [] → all_in hs ++ h.items ≡ all_in gs ++ g.items
  closed gs hs g h e n = (λ k. all_in (e k) ++ n k) ∙ append-nil (all_in (gs ++ g ∷ [])) ∙ all_in_append gs (g ∷ [])
      ∙ ap (λ l. all_in gs ++ l) (append-nil g.items)

  pub sizes_more : (cut : ℕ) (gs hs : List (Vec A)) (g : Vec A) → hs ≡ gs ++ g ∷ [] → length g.items ≡ cut → AreFull cut (sizes gs)
      → AreFull cut (sizes hs)
  sizes_more cut gs hs g e n h = subst (AreFull cut) (sym (ap sizes e ∙ map-append (λ (v : Vec A). length v.items) gs (g ∷ [])))
      (full_more cut (sizes gs) (length g.items) h n)

  pub sizes_last : (cut : ℕ) (gs hs : List (Vec A)) (g : Vec A) → hs ≡ gs ++ g ∷ [] → 0 < length g.items → length g.items ≤ cut
      → AreFull cut (sizes gs) → AreCuts cut (sizes hs)
  sizes_last cut gs hs g e some most h = subst (AreCuts cut) (sym (ap sizes e ∙ map-append (λ (v : Vec A). length v.items) gs (g ∷ [])))
      (last_cuts cut (sizes gs) (length g.items) some most h)

  pub next_in : (gs hs : List (Vec A)) (g h k : Vec A) (c : A) (rest more all : List A) → (all_in gs ++ g.items) ++ rest ≡ all → rest
      ≡ c ∷ more → all_in hs ++ h.items ≡ all_in gs ++ g.items → k.items ≡ h.items ++ c ∷ []
      → (all_in hs ++ k.items) ++ more ≡ all
  next_in gs hs g h k c rest more all e r same pushed = grind (arith, append_assoc)

  pub nothing_in : (xs : List A) → length xs ≡ 0 → xs ≡ []
  nothing_in [] e = refl
  nothing_in (x ∷ xs) e = absurd (omega arith)
