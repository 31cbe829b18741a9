use Rattle.std.proofs.Common.{◌≡◌, ◌∙◌, ◌+◌, ◌++◌, ◌<◌, ◌∷◌, List, take, drop, get_or, length, sym, subst, ap, add-one, arith}
use Rattle.std.proofs.Math.Seq.{take-suc}
use Rattle.std.proofs.lemmas.List.{drop_more, take_more_set, drop-set-lt, length-set}
use Rattle.srm_member.specs.declared.row.Row.{Row}
use Rattle.srm_interfaces.proofs.WatchLemmas.{keep_one_more}
use Rattle.srm_interfaces.proofs.watched.keep_each.Goals as goal

pub loop-own-preserved : goal.loop-own-preserved
loop-own-preserved g c =
    let keeps = g.W.Watch.keeps c.args.watch.now in
    let i = c.loop-own.own-index in
    let old = c.args.kept.now in
    let kept = c.loop-own.kept in
    let lists = c.args.lists.now in
    let after = c.add.new.kept in
    let d = c.own-item.result in
    let at : c.loop-own.index ≡ i = c.loop-own.invariant.0 in
    let long : length kept ≡ length old = c.loop-own.invariant.1 in
    let test = c.loop-own-test.true in
    let many = c.requires in
    let within : i < length kept = omega arith in
    let before : i < length old = omega arith in
    let listed : i < length lists = omega arith in
    let rows = get_or lists i c.index-lists-index.result in
    let others : get_or kept i d ∷ drop (i + 1) kept ≡ get_or old i d ∷ drop (i + 1) old =
    sym (drop_more kept i d within) ∙ c.loop-own.invariant.2 ∙ drop_more old i d before in
    let own : get_or old i d ≡ get_or kept i d = cc in
    let rest : drop (i + 1) kept ≡ drop (i + 1) old = cc in
    let seen : c.as_slice.result.now ≡ rows = c.as_slice.ensures ∙ c.index-lists-index.is
    ∙ ap (λ n. get_or lists n c.index-lists-index.result) at in
    let more : (whole : List Row) → keeps (get_or old i d) whole → keeps after (whole ++ rows) =
    λ whole k. subst (λ rs. keeps after (whole ++ rs)) seen (c.in_ok-add.ensures whole (subst (λ x. keeps x whole) own k)) in (
      ap (λ n. n + 1) at,
      length-set kept i after ∙ long,
      drop-set-lt (i + 1) kept i after (omega arith) ∙ rest,
      rw (
        ap (λ n. take n old) (add-one i) ∙ take-suc old i d before,
        ap (λ n. take n lists) (add-one i)
            ∙ take-suc lists i c.index-lists-index.result listed,
        take_more_set kept i after within,
      )
          (keep_one_more keeps (take i old) (take i lists) (take i kept) (get_or old i d) rows after c.loop-own.invariant.3 more),
    )
