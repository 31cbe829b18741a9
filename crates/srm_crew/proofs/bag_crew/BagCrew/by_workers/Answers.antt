use Rattle.std.proofs.Common.{◌∙◌}
use Rattle.srm_crew.proofs.WorkedLemmas.{stops_of}
use Rattle.srm_crew.proofs.Ordering.{all_told, all_indexed, emptied}
use Rattle.srm_crew.proofs.bag_crew.BagCrew.by_workers.Goals as goal

pub returns-in-Err : goal.returns-in-Err
returns-in-Err g c =
    stops_of (λ x r. goal.F-post g c.args.work x r) g.D.Counted.numbers c.args.items.items c.put_all-pass.result c.args.seat
    c.in-Err.fault c.put_all-pass.ensures.2 c.put_all-pass.ensures.3 c.in-Err.ensures.work

pub unwrap-taken-requires : goal.unwrap-taken-requires
unwrap-taken-requires g c =
    emptied (λ x r. goal.F-post g c.args.work x r) g.D.Counted.numbers _ c.put_all-pass.result c.in-Ok-shared.shared.0 c.args.seat
    c.in-Ok-shared.shared.1 c.in-Ok-shared.shared.2.items c.empty.result c.put_all-pass.ensures.1
    c.in-Ok-shared.ensures.work c.in-Ok-shared.ensures.whole c.empty.ensures

pub in_order-requires-clause-once : goal.in_order-requires-clause-once
in_order-requires-clause-once g c =
    let told = rw c.unwrap-taken.ensures at c.empty.ensures in
    let all =
    all_indexed (λ x r. goal.F-post g c.args.work x r) g.D.Counted.numbers c.args.items.items c.put_all-pass.result c.in-Ok-shared.shared.0
    c.args.seat c.in-Ok-shared.shared.1 c.in-Ok-shared.shared.2.items c.as_slice.result.now c.put_all-pass.ensures.2
    c.put_all-pass.ensures.3 c.in-Ok-shared.ensures.work (c.as_slice.ensures ∙ told.1) told.3 in
    all.once

pub in_order-requires-clause-indices : goal.in_order-requires-clause-indices
in_order-requires-clause-indices g c =
    let told = rw c.unwrap-taken.ensures at c.empty.ensures in
    let all =
    all_indexed (λ x r. goal.F-post g c.args.work x r) g.D.Counted.numbers c.args.items.items c.put_all-pass.result c.in-Ok-shared.shared.0
    c.args.seat c.in-Ok-shared.shared.1 c.in-Ok-shared.shared.2.items c.as_slice.result.now c.put_all-pass.ensures.2
    c.put_all-pass.ensures.3 c.in-Ok-shared.ensures.work (c.as_slice.ensures ∙ told.1) told.3 in
    all.many

pub returns-in-Ok-in_order : goal.returns-in-Ok-in_order
returns-in-Ok-in_order g c =
    let told = rw c.unwrap-taken.ensures at c.empty.ensures in
    let all =
    all_indexed (λ x r. goal.F-post g c.args.work x r) g.D.Counted.numbers c.args.items.items c.put_all-pass.result c.in-Ok-shared.shared.0
    c.args.seat c.in-Ok-shared.shared.1 c.in-Ok-shared.shared.2.items c.as_slice.result.now c.put_all-pass.ensures.2
    c.put_all-pass.ensures.3 c.in-Ok-shared.ensures.work (c.as_slice.ensures ∙ told.1) told.3 in
    all_told (λ x r. goal.F-post g c.args.work x r) g.D.Counted.numbers c.args.items.items c.put_all-pass.result c.in-Ok-shared.shared.0
    c.args.seat c.in-Ok-shared.shared.1 c.in-Ok-shared.shared.2.items c.in-Ok-in_order.all.items c.as_slice.result.now
    c.put_all-pass.ensures.2 c.put_all-pass.ensures.3 c.in-Ok-shared.ensures.work (c.as_slice.ensures ∙ told.1) all.whole
    c.in-Ok-in_order.ensures
