use Rattle.std.proofs.Common.{◌≡◌, ◌∙◌, ◌++◌, ◌∷◌, [], length, map, sym, ap, arith, zero-add}
use Rattle.std.proofs.lemmas.List.FromFn.{map-range_with_len_more}
use Rattle.std.specs.List.{range_with_len}
use Rattle.srm_net.specs.Paths.{distance}
use Rattle.srm_engine.proofs.session_distances.find_distances.Goals as goal

pub loop-member-preserved : goal.loop-member-preserved
loop-member-preserved c =
    let m = c.loop-member.member in
    c.in_ok-push.ensures.items ∙ (λ i. c.loop-member.invariant i ++ c.distance.ensures.value i ∷ [])
    ∙ sym (map-range_with_len_more (λ b. distance c.args.net.now c.args.from b) 0 m m (zero-add m))

pub returns : goal.returns
returns c =
    let all : c.loop-member.member ≡ length c.args.net.now.hosts = omega arith in
    c.loop-member.invariant ∙ ap (λ n. map (λ b. distance c.args.net.now c.args.from b) (range_with_len 0 n)) all
