-- What is held group by group, as one list.
use Rattle.std.proofs.Common.{◌≡◌, ◌∙◌, ◌+◌, ◌<◌, ◌++◌, ◌∷◌, [], ℕ, List, length, get_or, take, refl, sym, ap, subst}
use Rattle.std.proofs.Common.{append_assoc, append-nil, length-append, arith}
use Rattle.std.specs.Global.{Vec}
use Rattle.std.specs.List.{AllZip}
use Rattle.std.proofs.lemmas.List.{take_more}
use Rattle.srm_cell.specs.Crossings.{joined}
use Rattle.srm_interfaces.specs.Grouped.{all_in}
use Rattle.srm_interfaces.specs.InTurn.{WereClosed}
use Rattle.srm_interfaces.specs.Watches.{IsClosed}

module _ {A : Type 0} where
  pub all_in_append : (gs hs : List (Vec A)) → all_in (gs ++ hs) ≡ all_in gs ++ all_in hs
  all_in_append [] hs = refl
  all_in_append (g ∷ gs) hs = ap (λ l. g.items ++ l) (all_in_append gs hs) ∙ sym (append_assoc g.items (all_in gs) (all_in hs))

  pub all_in_push : (gs : List (Vec A)) (g : Vec A) → all_in (gs ++ g ∷ []) ≡ all_in gs ++ g.items
  all_in_push gs g = all_in_append gs (g ∷ []) ∙ ap (λ l. all_in gs ++ l) (append-nil g.items)

  -- the groups so far, and one more
  pub all_in_more : (gs : List (Vec A)) (i : ℕ) (g : Vec A) → i < length gs → g ≡ get_or gs i g
      → all_in (take (i + 1) gs) ≡ all_in (take i gs) ++ g.items
  all_in_more gs i g lt is =
      ap all_in (take_more gs i g lt) ∙ (λ k. all_in (take i gs ++ sym is k ∷ [])) ∙ all_in_push (take i gs) g

-- ---- what was closed

module _ {K : Type 0} (closes : List K → List K → Type 0) where
  -- as much is kept as was kept before
  pub closed_long : (full : List (List K)) (groups : List (Vec K)) → AllZip (λ own (g : Vec K). IsClosed closes own g.items) full groups
      → length (joined full) ≡ length (all_in groups)
  closed_long [] [] h = refl
  closed_long [] (g ∷ groups) h = absurd h
  closed_long (own ∷ full) [] h = absurd h
  closed_long (own ∷ full) (g ∷ groups) h =
      let first = h.0.0 in
      let more = closed_long full groups h.1 in
      omega (arith, first, more, length-append own (joined full), length-append g.items (all_in groups))

  module _ (stays : (old new : List K) → closes old new → new ≡ old) where
    as_it_was : (full : List (List K)) (groups : List (Vec K)) → AllZip (λ own (g : Vec K). IsClosed closes own g.items) full groups
        → joined full ≡ all_in groups
    as_it_was [] [] h = refl
    as_it_was [] (g ∷ groups) h = absurd h
    as_it_was (own ∷ full) [] h = absurd h
    as_it_was (own ∷ full) (g ∷ groups) h = λ i. sym (stays own g.items h.0.1) i ++ as_it_was full groups h.1 i

    -- where all stays as it is, what was so of all that was kept is so of what is
    pub still_so : (was : List K → Type 0) (groups : List (Vec K)) → WereClosed closes was groups → was (all_in groups)
    still_so was groups h = subst was (as_it_was h.full groups h.closed) h.so
