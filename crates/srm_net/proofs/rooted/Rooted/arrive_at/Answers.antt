use Rattle.std.proofs.Common.{◌∙◌, ◌+◌, ◌-◌, ◌^◌, ◌<◌, None, IfSome, refl, sym, ap, subst, slice_set, slice_index_or}
use Rattle.srm_net.specs.Paths.{takes_out}
use Rattle.srm_net.specs.Rooting.{at}
use Rattle.srm_net.specs.Spreads.{past_link, TellsFirst}
use Rattle.srm_net.proofs.Arrivals.{downwards_read, first_more}
use Rattle.srm_net.proofs.rooted.Rooted.arrive_at.Goals as goal

pub position-requires : goal.position-requires
position-requires c =
    let q = c.requires.rooted in
    subst (λ n. c.position-here.result.parent < n) (sym q.2.long)
    (downwards_read q.0 _ q.2 q.3 q.4 c.requires.apart q.5 c.position-here.ensures refl).node

pub overflow_sub-ticks : goal.overflow_sub-ticks
overflow_sub-ticks c =
    let q = c.requires.rooted in
    (downwards_read q.0 _ q.2 q.3 q.4 c.requires.apart q.5 c.position-here.ensures c.position.ensures).less

pub slice_copy_out-at : goal.slice_copy_out-at
slice_copy_out-at c =
    let q = c.requires.rooted in
    subst (λ n. c.from.result < n) (sym q.5.above.nodes) (subst (λ i. i < q.0.nodes) (sym c.from.ensures)
    (downwards_read q.0 _ q.2 q.3 q.4 c.requires.apart q.5 c.position-here.ensures c.position.ensures).node)

pub past-requires-clause-in_time : goal.past-requires-clause-in_time
past-requires-clause-in_time c =
    let q = c.requires.rooted in
    let ticks = c.position-here.result.down - c.position.result.down in
    subst (λ i. IfSome (slice_index_or c.args.arrivals.now i None) (λ t. t + ticks < 2 ^ 64)) (sym c.from.ensures)
    ((downwards_read q.0 _ q.2 q.3 q.4 c.requires.apart q.5 c.position-here.ensures c.position.ensures).in_time q.1 c.requires.sent)

pub returns : goal.returns
returns c w r hf hx first =
    let down = downwards_read w _ r hf hx c.requires.apart first c.position-here.ensures c.position.ensures in
    let past = past_link (takes_out c.args.drops.now c.args.packet.id) c.position-here.result.link
    (c.position-here.result.down - c.position.result.down) in
    subst (λ i. TellsFirst w c.args.self.now.positions.items (takes_out c.args.drops.now c.args.packet.id) c.args.packet.from
    c.args.packet.sent ((at c.args.self.now.positions.items c.args.node).place + 1)
    (slice_set c.args.arrivals.now i c.past.result)) (sym c.from-2.ensures)
    (first_more w _ r hx first
    (c.past.ensures ∙ ap (λ i. past (slice_index_or c.args.arrivals.now i None)) c.from.ensures ∙ down.arrival_is))
