-- What is seen of the cells and next times of all members, where one of them changes.
use Rattle.std.proofs.Common.{◌≡◌, ℕ, zero, suc, List, [], ◌∷◌, length, map, zero-add, ◌+◌, Option, Some, None, Result, Ok, Err}
use Rattle.std.proofs.Common.{refl, sym, ap}
use Rattle.std.proofs.Common.{◌∙◌, subst, slice_get, slice_set, arith}
use Rattle.std.proofs.lemmas.Grind.{common_steps}
use Rattle.std.proofs.Math.ListN.{length-set}
use Rattle.std.proofs.lemmas.List.{length-map}
use Rattle.std.specs.List.{range_with_len}
use Rattle.std.proofs.lemmas.List.Elements.{All-set}
use Rattle.std.specs.declared.vec.IntoIter.{IntoIter}
use Rattle.std.specs.Vec.Iter.{into_iter_items, into_iter_len}
use Rattle.srm_member.specs.declared.row.Row.{Row}
use Rattle.srm_member.specs.Record.{Record}
use Rattle.srm_cell.specs.declared.cell.Cell.{Cell}
use Rattle.srm_cell.specs.declared.fault.CellFault.{CellFault}
use Rattle.srm_cell.specs.Cells.{OwnCell, PlainCell, next_event, own_step, time_of, StepOutcome, Idle, Done, Stepped}
use Rattle.srm_cell.specs.Views.{IsSoundCell, TellsStep, Refuses, event_of, plain_cell}
use Rattle.srm_engine.specs.Seen.{AreFrom, AreInOrder, AreSeen, AreWhole, ShowCells, TakesStep, TellsOwnStep, plain_cells, times_of}
use Rattle.srm_engine.specs.declared.cells.Cells.{Cells}
use Rattle.srm_engine.proofs.CellLists.{first_from}
use Rattle.srm_model.proofs.NamesKept.{get_map}
use Rattle.srm_net.proofs.Lists.{all_get}
use Rattle.std.proofs.lemmas.Option.{same_Some}

-- the next times of the cells of member i and on
abbrev pub times_from : ℕ → List PlainCell → List (Option ℕ)
times_from i [] = []
times_from i (p ∷ ps) = time_of (next_event i p) ∷ times_from (suc i) ps

-- an iterator with nothing left
pub no_items : {X Z : Type 0} (it : IntoIter X Z) → into_iter_len it ≡ 0 → into_iter_items it ≡ []
no_items it h = let ok = it.rest.ok in grind (arith, common_steps)

-- what was there, written back, changes nothing
pub set_same : {A : Type 0} (xs : List A) (i : ℕ) (x : A) → slice_get xs i ≡ Some x → slice_set xs i x ≡ xs
set_same [] i x h = refl
set_same (y ∷ ys) zero x h = ap (λ z. z ∷ ys) (same_Some x y (sym h))
set_same (y ∷ ys) (suc i) x h = ap (λ l. y ∷ l) (set_same ys i x h)

map_set : {A B : Type 0} (g : A → B) (xs : List A) (i : ℕ) (x : A) → map g (slice_set xs i x) ≡ slice_set (map g xs) i (g x)
map_set g [] i x = refl
map_set g (y ∷ ys) zero x = refl
map_set g (y ∷ ys) (suc i) x = ap (λ l. g y ∷ l) (map_set g ys i x)

pub map_get : {A B : Type 0} (g : A → B) (xs : List A) (i : ℕ) (x : A) → slice_get xs i ≡ Some x → slice_get (map g xs) i ≡ Some (g x)
map_get g [] i x h = cc
map_get g (y ∷ ys) zero x h = ap (λ z. Some (g z)) (same_Some y x h)
map_get g (y ∷ ys) (suc i) x h = map_get g ys i x h

range_at : (i n m k : ℕ) → slice_get (range_with_len i n) m ≡ Some k → k ≡ i + m
range_at i zero m k h = cc
range_at i (suc n) zero k h = let e = same_Some i k h in omega arith
range_at i (suc n) (suc m) k h = let e = range_at (i + 1) n m k h in omega arith

module _ {M : Type 0} (f : M → Record) where
  pub sound_at : (i : ℕ) (cs : List (Cell M)) (k : ℕ) (c : Cell M) → AreFrom f i cs → slice_get cs k ≡ Some c → IsSoundCell f c
  sound_at i cs k c h at = all_get (IsSoundCell f) cs k c h.sound at

  pub number_at : (i : ℕ) (cs : List (Cell M)) (k : ℕ) (c : Cell M) → AreFrom f i cs → slice_get cs k ≡ Some c → c.number ≡ i + k
  number_at i cs k c h at = range_at i (length cs) k c.number
      (ap (λ l. slice_get l k) (sym h.numbers) ∙ map_get (λ (x : Cell M). x.number) cs k c at)

  pub number_is : (cs : List (Cell M)) (m : ℕ) (c : Cell M) → AreInOrder f cs → slice_get cs m ≡ Some c → c.number ≡ m
  number_is cs m c h at = number_at 0 cs m c h at ∙ zero-add m

  -- a cell of the same member takes the place of one
  pub set_order : (cs : List (Cell M)) (m : ℕ) (old new : Cell M) → AreInOrder f cs → slice_get cs m ≡ Some old → IsSoundCell f new
      → new.number ≡ old.number → AreInOrder f (slice_set cs m new)
  set_order cs m old new h at sound same = record {
    sound = All-set (IsSoundCell f) cs m new sound h.sound;
    numbers = map_set (λ (x : Cell M). x.number) cs m new
        ∙ ap (slice_set (map (λ (x : Cell M). x.number) cs) m) same
        ∙ set_same (map (λ (x : Cell M). x.number) cs) m old.number (map_get (λ (x : Cell M). x.number) cs m old at)
        ∙ h.numbers ∙ ap (range_with_len 0) (sym (length-set cs m new));
  }

  pub set_seen : (cs : List (Cell M)) (ts ts1 : List (Option ℕ)) (m : ℕ) (old new : Cell M) (t : Option ℕ)
      → AreSeen f cs ts → slice_get cs m ≡ Some old → IsSoundCell f new → new.number ≡ old.number → t ≡ time_of (event_of f new)
      → ts1 ≡ slice_set ts m t → AreSeen f (slice_set cs m new) ts1
  set_seen cs ts ts1 m old new t h at sound same e u = record {
    order = set_order cs m old new h.order at sound same;
    times = u ∙ (λ i. slice_set (h.times i) m (e i)) ∙ sym (map_set (λ (x : Cell M). time_of (event_of f x)) cs m new);
  }

  pub set_plain : (cs : List (Cell M)) (m : ℕ) (new : Cell M) → plain_cells f (slice_set cs m new)
      ≡ slice_set (plain_cells f cs) m (plain_cell f new)
  set_plain cs m new = map_set (plain_cell f) cs m new

  -- what a cell's step tells is told of all
  pub taken : (cs : List (Cell M)) (ts ts1 : List (Option ℕ)) (m : ℕ) (old new : Cell M) (o : StepOutcome Stepped)
      (row : Option Row) (t : Option ℕ)
      → AreSeen f cs ts → slice_get cs m ≡ Some old → TellsStep f old o (Ok row) new
      → (IsSoundCell f new → t ≡ time_of (event_of f new)) → ts1 ≡ slice_set ts m t
      → TellsOwnStep f m (plain_cells f cs) o (Ok row) (slice_set cs m new) ts1
  taken cs ts ts1 m old new o None t h at tells e u = (
    tells.0,
    set_seen cs ts ts1 m old new t h at tells.1.sound (ap (λ (q : OwnCell). q.member) tells.1.is) (e tells.1.sound) u,
    set_plain cs m new ∙ ap (λ (q : OwnCell). slice_set (plain_cells f cs) m q.cell) tells.1.is
        ∙ set_same (plain_cells f cs) m (plain_cell f old) (map_get (plain_cell f) cs m old at),
  )
  taken cs ts ts1 m old new o (Some row) t h at tells e u = (
    plain_cell f new,
    tells.0,
    set_seen cs ts ts1 m old new t h at tells.1.0 tells.1.1 (e tells.1.0) u,
    set_plain cs m new,
  )

  -- ---- cells that are seen as these

  pub shown_many : (cs : Cells M) (ps : List PlainCell) → ShowCells f cs ps → length cs.cells.items ≡ length ps
  shown_many cs ps h = sym (length-map cs.cells.items (plain_cell f)) ∙ ap length h.1

  pub shown_at : (cs : Cells M) (ps : List PlainCell) (m : ℕ) (p : PlainCell) → ShowCells f cs ps → slice_get ps m ≡ Some p
      → (c : Cell M) × (slice_get cs.cells.items m ≡ Some c) × (plain_cell f c ≡ p)
  shown_at cs ps m p h at = get_map (plain_cell f) cs.cells.items m p (ap (λ l. slice_get l m) h.1 ∙ at)

  times_shown : (i : ℕ) (cs : List (Cell M)) → AreFrom f i cs → times_of f cs ≡ times_from i (plain_cells f cs)
  times_shown i [] h = refl
  times_shown i (c ∷ cs) h =
      let r = first_from f i c cs h in
      let more = times_shown (suc i) cs r.1 in
      λ k. time_of (next_event (r.0 k) (plain_cell f c)) ∷ more k

  -- their next times are those of the cells
  pub shown_times : (cs : Cells M) (ps : List PlainCell) → ShowCells f cs ps → cs.times ≡ times_from 0 ps
  shown_times cs ps h = h.0.times ∙ times_shown 0 cs.cells.items h.0.order ∙ ap (times_from 0) h.1

  pub times_many : (cs : Cells M) → AreWhole f cs → length cs.times ≡ length cs.cells.items
  times_many cs h = ap length h.times ∙ length-map cs.cells.items (λ c. time_of (event_of f c))

  -- what a member's own step tells of cells that are seen as these
  abbrev pub ToldStep : ℕ → List PlainCell → StepOutcome Stepped → Result (Option Row) CellFault → Cells M → Type 0
  ToldStep m ps o (Ok None) new = (o ≡ Idle) × ShowCells f new ps
  ToldStep m ps o (Ok (Some row)) new = (d : Stepped) × (o ≡ Done d) × (d.row ≡ row) × ShowCells f new (slice_set ps m d.cell)
  ToldStep m ps o (Err e) new = Refuses o e

  pub told_step : (m till : ℕ) (old new : Cells M) (r : Result (Option Row) CellFault) → TakesStep f m till old r new
      → (ps : List PlainCell) (p : PlainCell) → ShowCells f old ps → slice_get ps m ≡ Some p → ToldStep m ps (own_step till m p) r new
  told_step m till old new r takes ps p h at =
      let x = shown_at old ps m p h at in
      subst (λ q. ToldStep m ps (own_step till m q) r new) x.2
      (subst (λ qs. ToldStep m qs (own_step till m (plain_cell f x.0)) r new) h.1 (as_told (plain_cells f old.cells.items)
      (own_step till m (plain_cell f x.0)) r (takes h.0 x.0 x.1)))
    where
      as_told : (qs : List PlainCell) (o : StepOutcome Stepped) (r : Result (Option Row) CellFault)
          → TellsOwnStep f m qs o r new.cells.items new.times → ToldStep m qs o r new
      as_told qs o (Ok None) t = (t.0, (t.1, t.2))
      as_told qs o (Ok (Some row)) t = (record { cell = t.0; row = row }, t.1, refl, (t.2, t.3))
      as_told qs o (Err e) t = t
