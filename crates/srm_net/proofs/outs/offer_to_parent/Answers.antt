use Rattle.std.proofs.Common.{◌<◌, refl, sym, subst, arith}
use Rattle.srm_net.specs.Nearness.{TellsUpTo}
use Rattle.srm_net.specs.Rooting.{at}
use Rattle.srm_net.proofs.OutLemmas.{parent_node, down_is, offered_up}
use Rattle.srm_net.proofs.outs.offer_to_parent.Goals as goal

pub position-here-requires : goal.position-here-requires
position-here-requires c = let (w, b, told) = c.requires in subst (λ k. c.args.node < k) (sym b.rooted.long) b.node

pub position-requires : goal.position-requires
position-requires c =
    let (w, b, told) = c.requires in
    subst (λ k. c.position-here.result.parent < k) (sym b.rooted.long) (parent_node b c.position-here.ensures refl)

pub overflow_sub-delay : goal.overflow_sub-delay
overflow_sub-delay c =
    let (w, b, told) = c.requires in
    let k = down_is b c.position-here.ensures c.position.ensures in
    omega arith

pub offer-requires-clause-from : goal.offer-requires-clause-from
offer-requires-clause-from c = let (w, b, told) = c.requires in subst (λ k. c.args.node < k) (sym told.sound.long) b.node

pub offer-requires-clause-to : goal.offer-requires-clause-to
offer-requires-clause-to c =
    let (w, b, told) = c.requires in
    subst (λ k. c.position-here.result.parent < k) (sym told.sound.long) (parent_node b c.position-here.ensures refl)

pub returns : goal.returns
returns c w b told =
    let ps = c.args.rooted.now.positions.items in
    subst (TellsUpTo w ps (at ps c.args.node).place) (sym c.offer.ensures.1)
    (offered_up b c.position-here.ensures c.position.ensures told c.offer.ensures.2)
