-- The cells at the beginning of a run.
use Rattle.std.proofs.Common.{◌≡◌, ◌⊎◌, ℕ, zero, suc, ◌+◌, List, [], ◌∷◌, ◌++◌, length, refl, None}
use Rattle.std.proofs.Common.{sym, ap, ◌∙◌, subst, map, arith, length-append, add-one, zero-add, Vec, Global}
use Rattle.std.specs.List.{range_with_len}
use Rattle.srm_scenario.specs.declared.mark.Mark.{Mark}
use Rattle.srm_scenario.specs.Plain.{PlainScenario, script_of}
use Rattle.srm_scenario.specs.ScriptLists.{scripts_of}
use Rattle.srm_member.specs.Record.{Record, opening_record, fixed_part}
use Rattle.srm_cell.specs.declared.cell.Cell.{Cell}
use Rattle.srm_cell.specs.Setting.{Setting, setting_of, fixed_of}
use Rattle.srm_cell.specs.Crossings.{packets_of, crossings}
use Rattle.srm_cell.specs.Cells.{PlainCell, opening_cell, known_of}
use Rattle.srm_cell.specs.Views.{IsCell, IsNew}
use Rattle.srm_model.specs.World.{World, opening, opening_cells}
use Rattle.srm_engine.specs.Seen.{AreCellsInOrder}
use Rattle.srm_cell.specs.Totalled.{numbers_of}
use Rattle.srm_engine.proofs.Openings.{records_from}
use Rattle.srm_model.proofs.OneStep.{length_opening}
use Rattle.std.specs.List.{range_with_len}
use Rattle.std.proofs.lemmas.List.{length-map, map-append}
use Rattle.std.proofs.lemmas.List.Elements.{All-append, All-cons, All-nil}
use Rattle.srm_cell.specs.Cells.{OwnCell}
use Rattle.srm_cell.specs.Views.{IsSoundCell, plain_cell}

range_more : (i n : ℕ) → range_with_len i n ++ (i + n) ∷ [] ≡ range_with_len i (n + 1)
range_more i zero = let e : i + 0 ≡ i = omega arith in ap (λ k. k ∷ []) e
range_more i (suc n) = let e : i + suc n ≡ (i + 1) + n = omega arith in
    let more : suc (n + 1) ≡ suc n + 1 = omega arith in
    ap (λ k. i ∷ (range_with_len (i + 1) n ++ k ∷ [])) e ∙ ap (λ l. i ∷ l) (range_more (i + 1) n) ∙ ap (range_with_len i) more

module _ {M : Type 0} where
  pub more_cells : (f : M → Record) (cs : List (Cell M)) (ps : List PlainCell) (c : Cell M) (q : PlainCell)
      → AreCellsInOrder f cs ps → IsCell f c (record { member = length ps; cell = q })
      → AreCellsInOrder f (cs ++ c ∷ []) (ps ++ q ∷ [])
  more_cells f cs ps c q h is =
      let many : length ps ≡ length cs = sym (ap length h.1) ∙ length-map cs (plain_cell f) in (
        record {
          sound = All-append (IsSoundCell f) cs (c ∷ []) h.0.sound (All-cons (IsSoundCell f) c [] is.sound (All-nil (IsSoundCell f)));
          numbers = map-append (λ (x : Cell M). x.number) cs (c ∷ [])
              ∙ (λ i. h.0.numbers i ++ (ap (λ (o : OwnCell). o.member) is.is ∙ many ∙ sym (zero-add (length cs))) i ∷ [])
              ∙ range_more 0 (length cs) ∙ ap (range_with_len 0) (sym (length-append cs (c ∷ [])));
        },
        map-append (plain_cell f) cs (c ∷ []) ∙ (λ i. h.1 i ++ (is.is i).cell ∷ []),
      )

  pub none_seen : (f : M → Record) (s : Setting) → AreCellsInOrder f [] (opening_cells s 0 0)
  unfolding opening_cells
  none_seen f s = (record { sound = All-nil (IsSoundCell f); numbers = refl }, refl)

  pub opened_cell : (f : M → Record) (p : PlainScenario) (seed k : ℕ) (c : Cell M) (r : Record)
      (marks : List Mark)
      → r ≡ opening_record (fixed_of p seed k) → marks ≡ script_of p k
      → IsNew f r marks 0 c
      → IsCell f c (record { member = k; cell = opening_cell (setting_of p seed) k })
  opened_cell f p seed k c r marks e h is = record {
    sound = is.sound;
    is = is.is ∙ (λ i. record {
      member = (fixed_part (e i)).member;
      cell = record { holds = known_of (e i); sent = 0; inbox = []; script = h i; exit = None };
    });
  }

one_more_cell : (s : Setting) (n i : ℕ) → opening_cells s (suc n) i ≡ opening_cells s n i ++ opening_cell s (i + n) ∷ []
unfolding opening_cells
one_more_cell s zero i = let e : i ≡ i + 0 = omega arith in ap (λ k. opening_cell s k ∷ []) e
one_more_cell s (suc n) i = let e : suc i + n ≡ i + suc n = omega arith in ap (λ l. opening_cell s i ∷ l) (one_more_cell s n (suc i))
    ∙ ap (λ k. opening_cell s i ∷ (opening_cells s n (suc i) ++ opening_cell s k ∷ [])) e

pub next_opening : (s : Setting) (n : ℕ) → opening_cells s (n + 1) 0 ≡ opening_cells s n 0 ++ opening_cell s n ∷ []
next_opening s n = let e : 0 + n ≡ n = omega arith in ap (λ k. opening_cells s k 0) (add-one n) ∙ one_more_cell s n 0
    ∙ ap (λ k. opening_cells s n 0 ++ opening_cell s k ∷ []) e

pub opening_is : (s : Setting) → opening_cells s s.traffic.members 0 ≡ (opening s).cells
unfolding opening
opening_is s = refl

pub nothing_sent : (s : Setting) → [] ≡ packets_of (opening s).trace
unfolding opening
nothing_sent s = refl

pub totals_are : (s : Setting) (w : World) → numbers_of s.traffic (packets_of w.trace) ≡ crossings s.traffic w.trace
unfolding numbers_of crossings
totals_are s w = refl

-- ---- cells that open one after the other

-- of nothing none is to come
none_left : {A : Type 0} (f : ℕ → A) (k n : ℕ) → [] ≡ map f (range_with_len k n) → n ≡ 0
none_left f k zero h = refl
none_left f k (suc n) h = cc

module _ {M : Type 0} (f : M → Record) (p : PlainScenario) (seed : ℕ) where
  -- the cells so far are those of the first members, and the members and scripts that are left are those of the others
  pub record OpenSoFar (ms : List M) (vs : List (Vec Mark Global)) (cs : List (Cell M)) : Type 0 where
    pub left : ℕ
    pub all : length cs + left ≡ length p.members
    pub records : map f ms ≡ records_from p seed (length cs) left
    pub scripts : map (λ marks. marks.items) vs ≡ map (script_of p) (range_with_len (length cs) left)
    pub cells : AreCellsInOrder f cs (opening_cells (setting_of p seed) (length cs) 0)

  pub open_none : (ms : List M) (vs : List (Vec Mark Global)) → map f ms ≡ records_from p seed 0 (length p.members)
      → map (λ marks. marks.items) vs ≡ scripts_of p → OpenSoFar ms vs []
  open_none ms vs h e = record {
    left = length p.members;
    all = zero-add _;
    records = h;
    scripts = e;
    cells = none_seen f (setting_of p seed);
  }

  -- the next member and its script, and those after it
  record IsNext (m : M) (ms : List M) (v : Vec Mark Global) (vs : List (Vec Mark Global)) (k left : ℕ) : Type 0 where
    rest : ℕ
    one : left ≡ suc rest
    opening : f m ≡ opening_record (fixed_of p seed k)
    records : map f ms ≡ records_from p seed (k + 1) rest
    script : v.items ≡ script_of p k
    scripts : map (λ marks. marks.items) vs ≡ map (script_of p) (range_with_len (k + 1) rest)

  next_is : (m : M) (ms : List M) (v : Vec Mark Global) (vs : List (Vec Mark Global)) (cs : List (Cell M))
      → (o : OpenSoFar (m ∷ ms) (v ∷ vs) cs) → IsNext m ms v vs (length cs) o.left
  next_is m ms v vs cs o = grind arith

  -- the same of lists that begin so
  begins : (m : M) (ms ns : List M) (v : Vec Mark Global) (vs ws : List (Vec Mark Global)) (cs : List (Cell M)) → ns ≡ m ∷ ms → ws ≡ v ∷ vs
      → OpenSoFar ns ws cs → OpenSoFar (m ∷ ms) (v ∷ vs) cs
  begins m ms ns v vs ws cs e d o =
      subst (λ (l : List (Vec Mark Global)). OpenSoFar (m ∷ ms) l cs) d (subst (λ (l : List M). OpenSoFar l ws cs) e o)

  -- the cell of the next member is opened
  pub open_next : (m : M) (ms ns : List M) (v : Vec Mark Global) (vs ws : List (Vec Mark Global)) (cs : List (Cell M)) (c : Cell M)
      → ns ≡ m ∷ ms → ws ≡ v ∷ vs → OpenSoFar ns ws cs
      → IsNew f (f m) v.items 0 c
      → OpenSoFar ms vs (cs ++ c ∷ [])
  open_next m ms ns v vs ws cs c e d before is =
      let k = length cs in
      let s = setting_of p seed in
      let o = begins m ms ns v vs ws cs e d before in
      let i = next_is m ms v vs cs o in
      let q = opening_cell s k in
      let here = subst (λ j. IsCell f c (record { member = j; cell = q })) (sym (length_opening s k 0))
      (opened_cell f p seed k c (f m) v.items i.opening i.script is) in
      let now : length (cs ++ c ∷ []) ≡ k + 1 = length-append cs (c ∷ []) in
      let was = o.all in
      let one = i.one in
      record {
        left = i.rest;
        all = omega arith;
        records = i.records ∙ ap (λ j. records_from p seed j i.rest) (sym now);
        scripts = i.scripts ∙ ap (λ j. map (script_of p) (range_with_len j i.rest)) (sym now);
        cells = subst (λ j. AreCellsInOrder f (cs ++ c ∷ []) (opening_cells s j 0)) (sym now)
            (subst (λ (qs : List PlainCell). AreCellsInOrder f (cs ++ c ∷ []) qs) (sym (next_opening s k))
            (more_cells f cs (opening_cells s k 0) c q o.cells here));
      }

  -- where no member or no script is left, all cells are open
  pub open_all : (ms : List M) (vs : List (Vec Mark Global)) (cs : List (Cell M)) → OpenSoFar ms vs cs → (ms ≡ []) ⊎ (vs ≡ [])
      → AreCellsInOrder f cs (opening_cells (setting_of p seed) (length p.members) 0)
  open_all ms vs cs o none = grind (arith, none_left)
