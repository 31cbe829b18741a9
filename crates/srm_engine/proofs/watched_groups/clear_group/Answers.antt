use Rattle.std.proofs.Common.{◌∙◌, ◌<◌, [], length, arith}
use Rattle.std.proofs.lemmas.List.{length-set}
use Rattle.srm_engine.proofs.WatchedLemmas.{one_done}
use Rattle.srm_engine.proofs.watched_groups.clear_group.Goals as goal

pub loop-own-preserved : goal.loop-own-preserved
loop-own-preserved g c =
    let group = c.loop-own.group in
    let i = c.loop-own.own-index in
    let v = c.loop-own.invariant in
    let test = c.loop-own-test.true in
    let long = v.0 in
    let within : i < length group = omega arith in (
      length-set group i c.clear.new.kept ∙ v.0,
      one_done (λ k. g.W.Watch.keeps c.args.watch.now k []) group i c.clear.new.kept within v.1 c.clear.ensures,
    )
