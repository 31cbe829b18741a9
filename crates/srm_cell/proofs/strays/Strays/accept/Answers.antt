use Rattle.std.proofs.Common.{◌≡◌, ◌∙◌, heap_items}
use Rattle.std.specs.List.{IsDistinct}
use Rattle.std.specs.Ordering.{eq_by_cmp}
use Rattle.srm_net.specs.Orders.{place, ordered}
use Rattle.srm_cell.specs.Flights.{flight_cmp, flight_total}
use Rattle.srm_cell.proofs.HeapLemmas.{pushed}
use Rattle.srm_cell.proofs.InboxLines.{apart}
use Rattle.srm_cell.proofs.strays.Strays.accept.Goals as goal

is_sent : (c : goal.In_ok-push) → c.new.result ≡ record { arrival = c.args.arrival; packet = c.args.packet.now }
is_sent c =
    let e = c.in_ok-packet.ensures.cases in
    c.new.ensures ∙ (λ i. record { arrival = c.args.arrival; packet = record { id = e.0 i; sent = e.1.0 i; body = e.1.1 i } })

in_heap : (c : goal.In_ok-push) → (ordered flight_cmp (heap_items c.push.new.self)
    ≡ place flight_cmp c.new.result (ordered flight_cmp (heap_items c.self.inside.waiting)))
    × IsDistinct (eq_by_cmp flight_cmp) (heap_items c.push.new.self)
in_heap c = pushed flight_cmp flight_total c.new.result (heap_items c.self.inside.waiting) (heap_items c.push.new.self)
    c.in_ok-push.ensures.permutation
    (apart c.new.result (heap_items c.self.inside.waiting) (rw (c.self.view_is, is_sent c) c.requires)) c.self.invariant.1

pub invariant_of-self-2 : goal.invariant_of-self-2
invariant_of-self-2 c = (c.in_ok-push.ensures.heap_order c.self.invariant.0, (in_heap c).1)

pub returns-clause-ok : goal.returns-clause-ok
returns-clause-ok c = (in_heap c).0 ∙ (λ i. place flight_cmp (is_sent c i) (c.self.view_is i))
