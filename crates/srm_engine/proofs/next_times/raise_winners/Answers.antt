use Rattle.std.proofs.Common.{◌≡◌, ◌∙◌, ◌-◌, ◌<◌, ℕ, arith, length, slice_set, get_or-set_other}
use Rattle.std.proofs.Math.ListN.{length-set}
use Rattle.srm_engine.proofs.Index.{node_set}
use Rattle.srm_engine.proofs.next_times.raise_winners.Goals as goal

pub loop-place-preserved : goal.loop-place-preserved
loop-place-preserved c =
    let ws = c.loop-place.words in
    let i = c.loop-place.invariant in
    let k : ℕ = c.loop-place.place - 1 in
    let w = c.min.result in
    let lt : 1 < c.loop-place.place = c.loop-place-test.true in
    let most = c.loop-place.auto.place in
    let same = c.loop-place.auto.words in
    let long : length (slice_set ws k w) ≡ length ws = length-set ws k w in
    record {
      leaves = λ j leaf. get_or-set_other ws k j w 0 (λ a. omega arith) ∙ i.leaves j leaf;
      nodes = λ j le pos below. node_set ws k j w (omega arith) pos (λ a. omega arith)
          (λ ne. i.nodes j (omega arith) pos (omega arith)) (λ a. c.min.ensures);
    }
