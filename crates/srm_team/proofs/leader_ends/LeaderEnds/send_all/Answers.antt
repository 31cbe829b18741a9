use Rattle.std.proofs.Common.{◌≡◌, ◌∙◌, ◌+◌, Some, slice_get, length, refl, sym, ap, subst}
use Rattle.std.proofs.lemmas.Iterator.Adapters.{YieldsList-from_vec}
use Rattle.std.proofs.lemmas.Iterator.Consumers.{YieldsList-turn}
use Rattle.std.proofs.lemmas.List.{length_push}
use Rattle.std.proofs.lemmas.Option.{slice_get_within, slice_get_read}
use Rattle.srm_team.proofs.leader_ends.LeaderEnds.send_all.Goals as goal

pub new-order-requires-clause-known : goal.new-order-requires-clause-known
new-order-requires-clause-known g c =
    slice_get_within c.again.result c.args.number c.args.asked.now.value
    (ap (λ bs. slice_get bs c.args.number) c.again.ensures ∙ c.requires.asked)

pub new-order-requires-clause-asked : goal.new-order-requires-clause-asked
new-order-requires-clause-asked g c b h =
    let items = c.args.batch.items.items in
    let t = YieldsList-turn (YieldsList-from_vec items (cc) (cc)) c.loop-item.yielded _ c.loop-item.yielded_by _ c.next.new.self
    c.in-Some.item c.in-Some.is c.next.ensures.steps in
    let q : Some b ≡ Some c.args.asked.now.value = sym h ∙ ap (λ bs. slice_get bs c.args.number) c.again.ensures ∙ c.requires.asked in
    let same : b ≡ c.args.asked.now.value = cc in
    let here : slice_get items (length c.loop-item.yielded) ≡ Some c.in-Some.item =
    slice_get_read items (length items) (length c.loop-item.yielded) c.in-Some.item refl t.0 t.1 in
    subst (λ v. (v.work ≡ c.args.batch.work) × (slice_get v.items.items c.loop-item.place ≡ Some c.in-Some.item))
    (c.requires.batch ∙ sym same)
    (refl, subst (λ p. slice_get items p ≡ Some c.in-Some.item) (sym c.loop-item.invariant) here)

pub new-order-requires-clause-ready : goal.new-order-requires-clause-ready
new-order-requires-clause-ready g c =
    let items = c.args.batch.items.items in
    let t = YieldsList-turn (YieldsList-from_vec items (cc) (cc)) c.loop-item.yielded _ c.loop-item.yielded_by _ c.next.new.self
    c.in-Some.item c.in-Some.is c.next.ensures.steps in
    subst (λ x. g.W.Work.ready c.args.batch.work x) (sym t.1) (c.requires.ready (length c.loop-item.yielded) c.in-Some.item t.0)

pub loop-item-preserved : goal.loop-item-preserved
loop-item-preserved g c = ap (λ n. n + 1) c.loop-item.invariant ∙ sym (length_push c.loop-item.yielded c.in-Some.item)
