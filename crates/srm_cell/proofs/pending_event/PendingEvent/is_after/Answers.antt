use Rattle.std.proofs.Common.{◌≡◌, ◌==◌, refl, ap, ◌∙◌, Ordering, Less, Equal, Greater}
use Rattle.std.specs.Ordering.{is_gt, ordering_index}
use Rattle.srm_net.proofs.TotalOrders.{keys_compared}
use Rattle.srm_cell.proofs.pending_event.PendingEvent.is_after.Goals as goal

greater : (o : Ordering) → (ordering_index o == 2) ≡ is_gt o
greater Less = refl
greater Equal = refl
greater Greater = refl

pub returns : goal.returns
returns c =
    c.eq.ensures ∙ greater c.cmp.result ∙ ap is_gt (c.cmp.ensures ∙ keys_compared c.args.self.now.key c.args.other.now.key)
