use Rattle.std.proofs.Common.{◌≡◌, Some, length, slice_get, refl, eq-eqb}
use Rattle.std.proofs.lemmas.Option.{slice_get_read}
use Rattle.std.proofs.lemmas.Map.Keys.{any_passes_from_place}
use Rattle.srm_explain.proofs.misfits.place_on.Goals as goal

pub returns-then-member-node : goal.returns-then-member-node
returns-then-member-node c =
    let members = c.args.members.now in
    let place = c.loop-place.place in
    let member = c.index-members-place.result in
    let at : slice_get members place ≡ Some member =
    slice_get_read members (length members) place member refl c.loop-place-test.true c.index-members-place.is in
    let node = c.if-member-node.true in
    (any_passes_from_place _ members place member at (eq-eqb member.spec.node c.args.node node), member, at, node)
