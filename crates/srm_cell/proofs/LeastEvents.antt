-- The next event of a cell is the least of all that it has pending.
use Rattle.std.proofs.Common.{◌≡◌, ℕ, List, [], ◌∷◌, ◌++◌, map, None, refl, sym, ◌∙◌, subst}
use Rattle.srm_net.specs.declared.key.Key.{Key}
use Rattle.srm_net.specs.Keys.{key_cmp}
use Rattle.srm_net.specs.Orders.{NoneBelow}
use Rattle.srm_net.proofs.TotalOrders.{key_total}
use Rattle.srm_scenario.specs.declared.mark.Mark.{Mark}
use Rattle.srm_member.specs.declared.due.Due.{Due}
use Rattle.srm_member.proofs.AllIn.{AllIn}
use Rattle.srm_member.proofs.OrderLemmas.{from_refl}
use Rattle.srm_cell.specs.declared.flight.Flight.{Flight}
use Rattle.srm_cell.specs.Cells.{PlainCell, earlier, first_arrival, first_mark, arrival_key, mark_key, timer_key}
use Rattle.srm_cell.specs.Laws.{NextEventsAreLeast}
use Rattle.srm_cell.proofs.CellLemmas.{first_timer, next_event_is}
use Rattle.srm_cell.proofs.Tidy.{NotBefore, Least, above_least}
use Rattle.srm_cell.proofs.Heard.{some_first}
use Rattle.srm_cell.specs.Cells.{timers_in}

none_of : {A : Type 0} (k : Key) (f : A → Key) (xs : List A) → AllIn (λ x. NotBefore k (f x)) xs → NoneBelow key_cmp k (map f xs)
none_of k f [] h = tt
none_of k f (x ∷ xs) h = (h.0, none_of k f xs h.1)

none_in_both : (k : Key) (xs ys : List Key) → NoneBelow key_cmp k xs → NoneBelow key_cmp k ys → NoneBelow key_cmp k (xs ++ ys)
none_in_both k [] ys a b = b
none_in_both k (x ∷ xs) ys a b = (a.0, none_in_both k xs ys a.1 b)

nothing : (m : ℕ) (c : PlainCell) (fs : List Flight) (ks : List Mark) (ds : List Due)
    → earlier (first_arrival m c fs) (earlier (first_mark m c ks) (first_timer m c ds)) ≡ None
    → map (arrival_key m) fs ++ (map (mark_key m) ks ++ map (timer_key m) ds) ≡ []
nothing m c [] [] [] h = refl
nothing m c (f ∷ fs) ks ds h = absurd (some_first _ _ h)
nothing m c [] (k ∷ ks) ds h = absurd (some_first _ _ h)
nothing m c [] [] (d ∷ ds) h = absurd (some_first _ _ h)

pub next_events_are_least : NextEventsAreLeast
next_events_are_least m c flights marks = (
  λ e h.
      let a = above_least e.key m c (record { flights = flights; marks = marks })
      (subst (Least e.key) (sym h) (from_refl key_cmp key_total e.key)) in
      none_in_both e.key (map (arrival_key m) c.inbox) _ (none_of e.key (arrival_key m) c.inbox a.flights)
      (none_in_both e.key (map (mark_key m) c.script) _ (none_of e.key (mark_key m) c.script a.marks)
      (none_of e.key (timer_key m) (timers_in c.holds) a.dues)),
  λ h. nothing m c c.inbox c.script (timers_in c.holds) (sym (next_event_is m c) ∙ h),
)
