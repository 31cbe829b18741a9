-- Jobs that were advanced in pieces.
use Rattle.std.proofs.Common.{◌≡◌, ◌<◌, ◌≤◌, ◌⊎◌, ◌+◌, ◌-◌, ◌*◌, ◌/◌, ℕ, suc, List, [], ◌∷◌, ◌++◌, map, length}
use Rattle.std.proofs.Common.{Result, Ok, Err, refl, sym, ap, ◌∙◌, subst, inl, inr, ⊎_elim, append_assoc, append-nil}
use Rattle.std.proofs.Common.{length-append, lt_of_not-le, arith}
use Rattle.std.proofs.Math.Nat.{suc-mul, mul-le-mul_right, lt-mul-div-succ}
use mathlib.Core.Logic.{dite}
use native.Mathlib.Decide.{dec_le}
use Rattle.std.proofs.lemmas.List.{map-append}
use Rattle.std.proofs.lemmas.List.Elements.{Contains-append_right, Contains-get_or}
use Rattle.std.specs.List.{Contains}
use Rattle.std.specs.Global.{Vec}
use Rattle.srm_cell.specs.declared.fault.CellFault.{CellFault}
use Rattle.srm_cell.specs.declared.fault.CellFault.TheVariants as cell
use Rattle.srm_cell.specs.Cells.{StepOutcome, Stepped}
use Rattle.srm_cell.specs.Jobs.{PlainJob}
use Rattle.srm_interfaces.specs.Crews.{AnyEnds}
use Rattle.srm_crew.specs.Pieces.{PutTogether}
use Rattle.srm_interfaces.proofs.InPieces.{all_in}

pub any_first : (o : StepOutcome Stepped) (ps qs : List PlainJob) → AnyEnds o ps → AnyEnds o (ps ++ qs)
any_first o [] qs h = absurd h
any_first o (p ∷ ps) qs (inl a) = inl a
any_first o (p ∷ ps) qs (inr a) = inr (any_first o ps qs a)

pub any_last : (o : StepOutcome Stepped) (ps qs : List PlainJob) → AnyEnds o qs → AnyEnds o (ps ++ qs)
any_last o [] qs h = h
any_last o (p ∷ ps) qs h = inr (any_last o ps qs h)

module _ {D : Type 0} where
  -- what was put together of these pieces, and what is left of them
  abbrev pub TogetherSoFar : List D → List (Result (Vec D) CellFault) → List (Result (Vec D) CellFault) → Type 0
  TogetherSoFar all left rs = (ds : List (Vec D)) × (map Ok ds ++ left ≡ rs) × (all ≡ all_in ds)

  pub all_in_more : (ds : List (Vec D)) (d : Vec D) → all_in (ds ++ d ∷ []) ≡ all_in ds ++ d.items
  all_in_more [] d = append-nil d.items
  all_in_more (x ∷ ds) d = ap (λ l. x.items ++ l) (all_in_more ds d) ∙ sym (append_assoc x.items (all_in ds) d.items)

  pub together_none : (rs : List (Result (Vec D) CellFault)) → TogetherSoFar [] rs rs
  together_none rs = ([], refl, refl)

  pub together_more : (all : List D) (r : Result (Vec D) CellFault) (left rs : List (Result (Vec D) CellFault)) (d : Vec D)
      → TogetherSoFar all (r ∷ left) rs → r ≡ Ok d → TogetherSoFar (all ++ d.items) left rs
  together_more all r left rs d h is = (
    h.0 ++ d ∷ [],
    ap (λ xs. xs ++ left) (map-append Ok h.0 (d ∷ [])) ∙ append_assoc (map Ok h.0) (Ok d ∷ []) left
        ∙ ap (λ x. map Ok h.0 ++ x ∷ left) (sym is) ∙ h.1,
    ap (λ l. l ++ d.items) h.2 ∙ sym (all_in_more h.0 d),
  )

  pub together_all : (v : Vec D) (left rs : List (Result (Vec D) CellFault)) → TogetherSoFar v.items left rs → left ≡ []
      → PutTogether rs (Ok v)
  together_all v left rs h none =
      (h.0, sym h.1 ∙ ap (λ l. map Ok h.0 ++ l) none ∙ append-nil (map Ok h.0), h.2)

  refusal_stands : (all : List D) (r : Result (Vec D) CellFault) (left rs : List (Result (Vec D) CellFault)) (e : CellFault)
      → TogetherSoFar all (r ∷ left) rs → r ≡ Err e → Contains rs (Err e)
  refusal_stands all r left rs e h is =
      subst (λ xs. Contains xs (Err e)) h.1
      (Contains-append_right (map Ok h.0) (r ∷ left) (Err e)
      (subst (λ x. Contains (x ∷ left) (Err e)) (sym is) (Contains-get_or (Err e ∷ left) 0 (Err e) (omega arith))))

  pub together_fault : (all : List D) (r : Result (Vec D) CellFault) (left rs : List (Result (Vec D) CellFault)) (e : CellFault)
      → TogetherSoFar all (r ∷ left) rs → r ≡ Err e → PutTogether rs (Err e)
  together_fault all r left rs cell.NoMemory h is = tt
  together_fault all r left rs cell.Spent h is = refusal_stands all r left rs cell.Spent h is
  together_fault all r left rs cell.CountFull h is = refusal_stands all r left rs cell.CountFull h is

module _ {A : Type 0} where
  -- one item more goes to the piece that has not ended
  pub piece_longer : (front : List A) (own new : Vec A) (x : A) (left whole : List A) → new.items ≡ own.items ++ x ∷ []
      → (front ++ own.items) ++ x ∷ left ≡ whole → (front ++ new.items) ++ left ≡ whole
  piece_longer front own new x left whole is h = grind (arith, append_assoc)

  -- a piece ends, and an empty one begins
  pub piece_ends : (ps more : List (Vec A)) (own empty : Vec A) → more ≡ ps ++ own ∷ [] → empty.items ≡ []
      → all_in more ++ empty.items ≡ all_in ps ++ own.items
  piece_ends ps more own empty is none = grind (arith, append-nil, all_in_more)

  -- the last piece ends, and nothing is left
  pub last_piece : (ps more : List (Vec A)) (own : Vec A) (left whole : List A) → more ≡ ps ++ own ∷ [] → left ≡ []
      → (all_in ps ++ own.items) ++ left ≡ whole → all_in more ≡ whole
  last_piece ps more own left whole is none h = grind (arith, all_in_more, append-nil)

  -- ---- how many pieces there are

  pub one_piece_more : (ps more : List (Vec A)) (own : Vec A) → more ≡ ps ++ own ∷ [] → length more ≡ suc (length ps)
  one_piece_more ps more own is = let e = ap length is in let l = length-append ps (own ∷ []) in omega (arith, e, l)

  pub has_one : (xs more : List A) (x : A) → more ≡ xs ++ x ∷ [] → 1 ≤ length more
  has_one xs more x is = let e = ap length is in let l = length-append xs (x ∷ []) in omega (arith, e, l)

  -- each piece that has ended has so many items at least
  pub sized_more : (size : ℕ) (ps more : List (Vec A)) (own : Vec A) → more ≡ ps ++ own ∷ [] → size ≤ length own.items
      → length ps * size ≤ length (all_in ps) → length more * size ≤ length (all_in more)
  sized_more size ps more own is enough h =
      let whole : length (all_in more) ≡ length (all_in ps) + length own.items = ap (λ l. length (all_in l)) is
      ∙ ap length (all_in_more ps own) ∙ length-append (all_in ps) own.items in
      subst (λ n. n * size ≤ length (all_in more)) (sym (one_piece_more ps more own is))
      (let m = suc-mul (length ps) size in omega (arith, m, whole, enough, h))

  -- so all but the last have no more items than all but one, where the last has one, or is alone
  pub few_pieces : (size : ℕ) (ps more : List (Vec A)) (own : Vec A) (left whole : List A) → more ≡ ps ++ own ∷ [] → left ≡ []
      → (all_in ps ++ own.items) ++ left ≡ whole → length ps * size ≤ length (all_in ps)
      → (length ps ≡ 0) ⊎ (1 ≤ length own.items) → (length more - 1) * size ≤ length whole - 1
  few_pieces size ps more own left whole is none h sized last =
      let long : length more - 1 ≡ length ps = let e = one_piece_more ps more own is in omega (arith, e) in
      let rest = ap length none in
      let all = ap length h in
      let both = length-append (all_in ps ++ own.items) left in
      let each = length-append (all_in ps) own.items in
      subst (λ n. n * size ≤ length whole - 1) (sym long)
      (⊎_elim (λ alone. subst (λ n. n * size ≤ length whole - 1) (sym alone) (omega arith))
      (λ some. omega (arith, some, sized, rest, all, both, each)) last)

-- pieces of so many items, and at least one, are no more than there is room for
pub few_enough : (n room pieces : ℕ) → 0 < room → (pieces - 1) * (n / room + 1) ≤ n - 1 → pieces ≤ room
few_enough n room pieces some few = dite (dec_le pieces room) (λ near. near)
    (λ far. absurd (
    let past = lt-mul-div-succ n some in
    let most : room * (n / room + 1) ≤ (pieces - 1) * (n / room + 1) =
    mul-le-mul_right (n / room + 1) (let l = lt_of_not-le far in omega (arith, l)) in
    omega (arith, past, most, few)))
