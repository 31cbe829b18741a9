-- What workers did, put together: one item more, more work with the same pass, and the work of two.
use Rattle.std.proofs.Common.{◌≡◌, ℕ, ◌+◌, List, [], ◌∷◌, ◌++◌, length, max, Some, All, Result, Ok}
use Rattle.std.proofs.Common.{Err, refl, sym, ap, ◌∙◌, subst, arith, append_assoc, append-nil}
use Rattle.std.proofs.lemmas.Option.{get_or_from_slice_get, slice_get_within}
use Rattle.std.specs.Global.{Vec}
use Rattle.srm_net.proofs.Basics.{zip_append}
use Rattle.srm_ledger.specs.Seats.{SeatView, half_with_shares, both_seats}
use Rattle.srm_ledger.specs.Seats as seats
use Rattle.srm_ledger.specs.Tally.{larger}
use Rattle.srm_ledger.proofs.Zips.{added_at}
use Rattle.srm_ledger.proofs.Keeps.{replicate_zero}
use Rattle.srm_cell.specs.declared.fault.CellFault.{CellFault}
use Rattle.srm_cell.specs.declared.fault.CellFault.TheVariants as cell
use Rattle.srm_interfaces.specs.declared.fault.CrewFault.{CrewFault}
use Rattle.srm_interfaces.specs.declared.fault.CrewFault.TheVariants as fault
use Rattle.srm_crew.specs.Indices.{EachAtMostOnce}
use Rattle.srm_crew.specs.Passes.{PassView, half_with_list, half_without_list, both_passes, TellsTake}
use Rattle.srm_crew.specs.Shared.{HoldsAt, sum_of, ComeOf, Stops, HasWorked, TellsWork, TellsItem, TellsBoth}

pub sum_of-append : {D : Type 0} (numbers : D → List ℕ) (k : ℕ) (xs ys : List D) → sum_of numbers k (xs ++ ys)
    ≡ sum_of numbers k xs + sum_of numbers k ys
sum_of-append numbers k [] ys = omega arith
sum_of-append numbers k (x ∷ xs) ys = let e = sum_of-append numbers k xs ys in omega (arith, e)

-- halves that have read the same come back as a seat that has read just that
larger_same : (xs : List ℕ) → larger xs xs ≡ xs
larger_same [] = refl
larger_same (x ∷ xs) = ap (λ l. max x x ∷ l) (larger_same xs) ∙ ap (λ n. n ∷ xs) (omega arith)

-- what holds of each item that was put holds of one that is taken
pub ready_at : {T : Type 0} (P : T → Type 0) (put : List T) (p q : PassView T) (x : T) → p.put ≡ put → All P put → TellsTake p (Some x) q
    → P x
ready_at P put p q x same all take = grind (arith, get_or_from_slice_get, slice_get_within)

module _ {T D : Type 0} (R : T → Result D CellFault → Type 0) (numbers : D → List ℕ) where
  pub worked_none : (p : PassView T) (s : SeatView) (r : List D) → HasWorked R numbers p s r p s r
  worked_none p s r = record {
    indices = [];
    more = [];
    taken = λ i. record { bag = p.bag; weight = p.weight; put = p.put; taken = sym (append-nil p.taken) i };
    gave = sym (append-nil r);
    come = tt;
    grown = record { ledger = refl; weight = refl; shares = λ k. omega arith; seen = refl };
  }

  -- work after work
  pub worked_more : (P p q : PassView T) (S s t : SeatView) (U u v : List D) → HasWorked R numbers P S U p s u
      → HasWorked R numbers p s u q t v → HasWorked R numbers P S U q t v
  worked_more P p q S s t U u v a b = grind (arith, append_assoc, zip_append, sum_of-append)

  -- a fault after work
  pub stops_after : (P p : PassView T) (S s : SeatView) (U u : List D) (e : CrewFault) → HasWorked R numbers P S U p s u
      → Stops R numbers p.put p.taken s e → Stops R numbers P.put P.taken S e
  stops_after P p S s U u fault.NoMemory a h = tt
  stops_after P p S s U u fault.Spent a h = (h.0, subst (λ l. HoldsAt (λ x. R x (Err cell.Spent)) l h.0) (ap (λ x. x.put) a.taken) h.1)
  stops_after P p S s U u fault.CountFull a h = (
    h.0,
    subst (λ l. HoldsAt (λ x. R x (Err cell.CountFull)) l h.0)
        (ap (λ x. x.put) a.taken) h.1,
  )
  stops_after P p S s U u fault.ShareFull a h =
      let put : p.put ≡ P.put = ap (λ x. x.put) a.taken in
      let all : p.taken ++ h.0 ≡ P.taken ++ (a.indices ++ h.0) = ap (λ x. x.taken ++ h.0) a.taken ∙ append_assoc P.taken a.indices h.0 in (
        a.indices ++ h.0,
        a.more ++ h.1,
        subst (λ l. EachAtMostOnce l (length P.put)) all (subst (λ l. EachAtMostOnce (p.taken ++ h.0) (length l)) put h.2),
        zip_append (λ p d. HoldsAt (λ x. R x (Ok d)) P.put p) a.indices a.more h.0 h.1 a.come (subst (λ l. ComeOf R l h.0 h.1) put h.3),
        (
          h.4.0,
          (let x = a.grown.shares h.4.0 in let y = h.4.1 in let e = sum_of-append numbers h.4.0 a.more h.1 in
              omega (arith, x, y, e)),
        ),
      )

  -- more work, or a fault, after work
  pub tells_after : (P p : PassView T) (S s : SeatView) (u : List D) (x : Result (PassView T × SeatView × Vec D) CrewFault)
      → HasWorked R numbers P S [] p s u → TellsWork R numbers p s u x → TellsWork R numbers P S [] x
  tells_after P p S s u (Ok v) a b = worked_more P p v.0 S s v.1 [] u v.2.items a b
  tells_after P p S s u (Err e) a b = stops_after P p S s [] u e a b

  -- one item
  pub item_worked : (p q : PassView T) (s t : SeatView) (u v : Vec D) (x : T) → TellsTake p (Some x) q
      → TellsItem (λ r. R x r) numbers s u (Ok tt) t v → HasWorked R numbers p s u.items q t v.items
  item_worked p q s t u v x take item = grind arith

  pub item_stops : (p q : PassView T) (s t : SeatView) (u v : Vec D) (x : T) (e : CrewFault) → TellsTake p (Some x) q
      → TellsItem (λ r. R x r) numbers s u (Err e) t v → Stops R numbers p.put p.taken s e
  item_stops p q s t u v x fault.NoMemory take item = tt
  item_stops p q s t u v x fault.Spent take item = (take.0, (x, take.2, item))
  item_stops p q s t u v x fault.CountFull take item = (take.0, (x, take.2, item))
  item_stops p q s t u v x fault.ShareFull take item = (
    take.0 ∷ [],
    item.0 ∷ [],
    subst (λ (l : PassView T). EachAtMostOnce l.taken (length l.put)) take.1 take.4,
    ((x, take.2, item.1), tt),
    (item.2.0, (let e = item.2.1 in omega (arith, e))),
  )

  -- ---- the work of two, with the halves of one pass and of one seat

  first_stops : (P : PassView T) (S : SeatView) (e : CrewFault) → Stops R numbers P.put P.taken (half_with_shares S) e
      → Stops R numbers P.put P.taken S e
  first_stops P S e h = grind arith

  second_stops : (P : PassView T) (S : SeatView) (e : CrewFault) → P.taken ≡ [] → Stops R numbers P.put [] (seats.half_without S) e
      → Stops R numbers P.put P.taken S e
  second_stops P S e none h = grind (arith, replicate_zero)

  both_worked : (P p q m : PassView T) (S s t n : SeatView) (u v w : List D)
      → HasWorked R numbers (half_with_list P) (half_with_shares S) [] p s u
      → HasWorked R numbers (half_without_list P) (seats.half_without S) [] q t v
      → m ≡ both_passes p q → n ≡ both_seats s t → w ≡ u ++ v → HasWorked R numbers P S [] m n w
  both_worked P p q m S s t n u v w a b passes seats' results =
      grind (arith, append_assoc, zip_append, added_at, larger_same, replicate_zero, sum_of-append)

  pub halves_tell : (P : PassView T) (S : SeatView) (a b r : Result (PassView T × SeatView × Vec D) CrewFault) → P.taken ≡ []
      → TellsWork R numbers (half_with_list P) (half_with_shares S) [] a
      → TellsWork R numbers (half_without_list P) (seats.half_without S) [] b
      → TellsBoth a b r → TellsWork R numbers P S [] r
  halves_tell P S (Err e) b r none x y h = subst (TellsWork R numbers P S []) (sym h) (first_stops P S e x)
  halves_tell P S (Ok a) (Err e) r none x y h = subst (TellsWork R numbers P S []) (sym h) (second_stops P S e none y)
  halves_tell P S (Ok a) (Ok b) (Ok v) none x y h = both_worked P a.0 b.0 v.0 S a.1 b.1 v.1 a.2.items b.2.items v.2.items x y h.0 h.1 h.2
  halves_tell P S (Ok a) (Ok b) (Err fault.NoMemory) none x y h = tt
  halves_tell P S (Ok a) (Ok b) (Err fault.Spent) none x y h = absurd h
  halves_tell P S (Ok a) (Ok b) (Err fault.CountFull) none x y h = absurd h
  halves_tell P S (Ok a) (Ok b) (Err fault.ShareFull) none x y h =
      let all : a.0.taken ++ b.0.taken ≡ P.taken ++ (x.indices ++ y.indices) = (λ i. (x.taken i).taken ++ (y.taken i).taken)
      ∙ append_assoc P.taken x.indices y.indices in (
        x.indices ++ y.indices,
        x.more ++ y.more,
        subst (λ l. EachAtMostOnce l (length P.put)) all
            (subst (λ (l : List T). EachAtMostOnce (a.0.taken ++ b.0.taken) (length l)) (ap (λ p. p.put) x.taken) h.0),
        zip_append (λ p d. HoldsAt (λ x. R x (Ok d)) P.put p) x.indices x.more y.indices y.more x.come y.come,
        (
          h.1.0,
          (let o = h.1.1 in
              let m = x.grown.shares h.1.0 in let n = y.grown.shares h.1.0 in
              let z = replicate_zero (length S.shares) h.1.0 in
              let e = sum_of-append numbers h.1.0 x.more y.more in omega (arith, o, m, n, z, e)),
        ),
      )

  -- the same work, of a pass and a seat that are these
  pub tells_same : (P p : PassView T) (S s : SeatView) (u : List D) (x : Result (PassView T × SeatView × Vec D) CrewFault) → p ≡ P → s ≡ S
      → u ≡ [] → TellsWork R numbers p s u x → TellsWork R numbers P S [] x
  tells_same P p S s u x a b z h =
      subst (λ l. TellsWork R numbers P S l x) z (subst (λ q. TellsWork R numbers P q u x) b (subst (λ q. TellsWork R numbers q s u x) a h))

  pub halves_told : (P p q : PassView T) (S s t : SeatView) (a b r : Result (PassView T × SeatView × Vec D) CrewFault) → P.taken ≡ []
      → p ≡ half_with_list P → s ≡ half_with_shares S → q ≡ half_without_list P → t ≡ seats.half_without S
      → TellsWork R numbers p s [] a → TellsWork R numbers q t [] b → TellsBoth a b r → TellsWork R numbers P S [] r
  halves_told P p q S s t a b r none ps ss qs ts x y h = grind (arith, halves_tell)

  -- why workers stop, of these items
  pub stops_of : (items : List T) (p : PassView T) (S : SeatView) (e : CrewFault) → p.put ≡ items → p.taken ≡ []
      → Stops R numbers p.put p.taken S e → Stops R numbers items [] S e
  stops_of items p S e put none h = subst (λ l. Stops R numbers items l S e) none (subst (λ l. Stops R numbers l p.taken S e) put h)
