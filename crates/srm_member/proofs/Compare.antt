-- Names and timers are compared by their numbers.
use Rattle.std.proofs.Common.{arith, length, ◌<◌, [], ◌∷◌, ◌≡◌, Bool, cond, List}
use Rattle.std.proofs.Common.{None, refl, subst}
use Rattle.std.specs.Ordering.{nat_cmp, ordering_then, eq_by_cmp}
use Rattle.std.specs.List.{list_any}
use Rattle.std.specs.FinMap.Entries.{put}
use Rattle.std.specs.Map.{lookup, remove_entry}
use Rattle.std.specs.BTreeMap.{insert_entry, is_at}
use Rattle.srm_member.specs.React.{without}
use Rattle.srm_member.specs.Pending.{has}
use Rattle.srm_member.proofs.Maps as maps
use Rattle.srm_net.specs.declared.packet.Name.{Name}
use Rattle.srm_net.specs.Names.{name_cmp}
use Rattle.srm_net.proofs.TotalOrders.{ranks_compared}
use Rattle.srm_member.specs.declared.due.Due.{Due}
use Rattle.srm_member.specs.Record.{due_cmp}
use Rattle.srm_net.specs.contracts.packet.NameOrd.TheImpl as name_order
use Rattle.srm_member.specs.contracts.due.DueOrd.TheImpl as due_order

pub dues_compared : due_order.cmp-value.it ≡ due_cmp
dues_compared i a b =
    ordering_then (nat_cmp a.time b.time) (ordering_then (ranks_compared a.rank b.rank i) (name_cmp a.name b.name))

pub name_put : {V : Type 0} (n : Name) (v : V) (es : List (Name × V)) → put name_cmp n v es ≡ insert_entry name_order.cmp-value.it es n v
name_put n v es = maps.put-insert_entry name_cmp n v es

pub name_without : {V : Type 0} (n : Name) (es : List (Name × V)) → lookup
    (is_at (name_order.cmp-value.it n)) (remove_entry (is_at (name_order.cmp-value.it n)) es) ≡ None
    → remove_entry (is_at (name_order.cmp-value.it n)) es ≡ without n es
name_without n es h = maps.without-remove_entry name_cmp n es h

-- an update of a set of timers, in the words of specs/
pub due_update : (e : Due) (b : Bool) (index index2 : List Due)
    → ((d : Due) → list_any (is_at (due_order.cmp-value.it d)) index2
    ≡ cond (is_at (due_order.cmp-value.it e) d) b (list_any (is_at (due_order.cmp-value.it d)) index))
    → (d : Due) → has index2 d ≡ cond (eq_by_cmp due_cmp e d) b (has index d)
due_update e b index index2 h = subst (λ R. (d : Due) → list_any (is_at (R d)) index2
    ≡ cond (is_at (R e) d) b (list_any (is_at (R d)) index)) dues_compared h

pub empty_of : (index : List Due) → (0 < length index → ⊥) → index ≡ []
empty_of [] h = refl
empty_of (d ∷ ds) h = absurd (h (omega arith))
