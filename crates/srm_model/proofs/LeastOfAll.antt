-- The event that the sequential run takes next is the least of all that is pending.
use Rattle.std.proofs.Common.{◌≡◌, ℕ, suc, ◌+◌, true, List, [], ◌∷◌, ◌++◌, Option, Some, None, refl, sym, ap, ◌∙◌}
use Rattle.std.proofs.Common.{subst, slice_get, nat_lt, lt-ltb, cond, arith, add-zero}
use Rattle.std.specs.List.{Contains}
use Rattle.srm_net.specs.declared.key.Key.{Key}
use Rattle.srm_net.specs.Keys.{key_cmp}
use Rattle.srm_net.specs.Orders.{NoneBelow}
use Rattle.srm_net.proofs.TotalOrders.{key_total}
use Rattle.srm_member.proofs.AllIn.{AllIn}
use Rattle.srm_member.proofs.OrderLemmas.{from_refl}
use Rattle.srm_cell.specs.Cells.{PlainCell, Event, next_event, before, pending_keys}
use Rattle.srm_cell.proofs.CellSteps.{before_some}
use Rattle.srm_cell.proofs.LeastEvents.{next_events_are_least}
use Rattle.srm_cell.proofs.Rising.{OnEvent, IsAbove, next_above}
use Rattle.srm_cell.proofs.Tidy.{NotBefore, Least, above_least}
use Rattle.srm_model.specs.World.{least_event}
use Rattle.srm_model.specs.Laws.{keys_from, StepsTakeTheLeast}
use Rattle.srm_model.proofs.PendingKeys.{each_above, all_above_keys}
use Rattle.srm_model.proofs.RunLemmas.{least_from, shifted, none_earlier}
use Rattle.srm_model.proofs.Sequential.{good_reached, least_of_all}

none_below : (k : Key) (ls : List Key) → AllIn (NotBefore k) ls → NoneBelow key_cmp k ls
none_below k [] h = tt
none_below k (l ∷ ls) h = (h.0, none_below k ls h.1)

contains_later : {A : Type 0} (x y : A) (xs : List A) → Contains xs y → Contains (x ∷ xs) y
contains_later x y xs (i, l, e) = (suc i, omega arith, e)

each_later : {A : Type 0} (x : A) (xs ys : List A) → AllIn (Contains xs) ys → AllIn (Contains (x ∷ xs)) ys
each_later x xs [] h = tt
each_later x xs (y ∷ ys) h = (contains_later x y xs h.0, each_later x xs ys h.1)

contains_each : {A : Type 0} (xs : List A) → AllIn (Contains xs) xs
contains_each [] = tt
contains_each (x ∷ xs) = ((0, omega arith, refl), each_later x xs xs (contains_each xs))

on_some : (Q : Event → Type 0) (o : Option Event) (e : Event) → OnEvent Q o → o ≡ Some e → Q e
on_some Q None e h q = cc
on_some Q (Some d) e h q = let same : d ≡ e = cc in subst Q same h

no_keys : (i : ℕ) (cs : List PlainCell) → ((j : ℕ) (c : PlainCell) → slice_get cs j ≡ Some c → next_event (i + j) c ≡ None
    → pending_keys (i + j) c ≡ []) → least_event i cs ≡ None → keys_from i cs ≡ []
unfolding least_event
no_keys i [] none h = refl
no_keys i (c ∷ cs) none h =
    let parts = none_earlier (next_event i c) (least_event (suc i) cs) h in
    let first : pending_keys i c ≡ [] = rw add-zero at (none 0 c refl (rw (add-zero i) parts.0)) in
    let rest : keys_from (suc i) cs ≡ [] = no_keys (suc i) cs (λ j d g n. rw (shifted i j) at (none (suc j) d g (rw (shifted i j) n)))
    parts.1 in
    ap (λ ks. ks ++ keys_from (suc i) cs) first ∙ rest

module _ (cs : List PlainCell) where
  is_pending : (e : Event) → least_event 0 cs ≡ Some e → Contains (keys_from 0 cs) e.key
  is_pending e h =
      let early : nat_lt e.key.time (e.key.time + 1) ≡ true = lt-ltb e.key.time (e.key.time + 1) (omega arith) in
      let from = least_from (e.key.time + 1) 0 cs e (ap (before (e.key.time + 1)) h ∙ ap (λ b. cond b (Some e) None) early) in
      let above = each_above (Contains (keys_from 0 cs)) 0 cs (contains_each (keys_from 0 cs)) from.0 from.1 from.2 in
      let next = before_some (e.key.time + 1) (next_event (0 + from.0) from.1) e from.3 in
      (on_some (IsAbove (Contains (keys_from 0 cs)) (0 + from.0)) _ e (next_above (Contains (keys_from 0 cs)) (0 + from.0) from.1 above)
      next.0).0

pub steps_take_the_least : StepsTakeTheLeast
steps_take_the_least s w fit reached =
    let good = good_reached s fit reached.0 w reached.1 in (
      λ e h. (
        is_pending w.cells e h,
        none_below e.key (keys_from 0 w.cells) (all_above_keys (NotBefore e.key) 0 w.cells (λ j c g.
            above_least e.key (0 + j) c (good.tidy j c g)
            (least_of_all e.key 0 w.cells (subst (Least e.key) (sym h) (from_refl key_cmp key_total e.key)) j c g))),
      ),
      λ h. no_keys 0 w.cells (λ j c g. (let t = good.tidy j c g in (next_events_are_least (0 + j) c t.flights t.marks).1)) h,
    )
