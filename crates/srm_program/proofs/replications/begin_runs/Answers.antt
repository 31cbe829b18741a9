use Rattle.std.proofs.Common.{◌≡◌, ◌∙◌, ◌+◌, ◌-◌, ◌++◌, ◌∷◌, [], ap, append_assoc, arith}
use Rattle.std.specs.List.{range_with_len}
use Rattle.srm_program.proofs.ReplicationLemmas.{range_more}
use Rattle.srm_program.proofs.replications.begin_runs.Goals as goal

pub loop-seed-preserved : goal.loop-seed-preserved
loop-seed-preserved g c =
    let was = c.loop-seed.invariant in
    let seed = c.loop-seed.seed in
    let n = seed - c.args.next in
    let one : range_with_len c.args.next n ++ seed ∷ [] ≡ range_with_len c.args.next (n + 1) =
    range_more c.args.next n seed (omega (arith, was.further)) in
    let more : n + 1 ≡ seed + 1 - c.args.next = omega (arith, was.further) in
    record {
      further = omega (arith, was.further);
      within = omega (arith, c.loop-seed-test.true);
      work = c.begin.ensures.work ∙ was.work;
      begun = c.in-Ok.ensures.begun ∙ ap (λ l. l ++ seed ∷ []) was.begun
          ∙ append_assoc c.args.relay.now.under_way (range_with_len c.args.next n) (seed ∷ [])
          ∙ ap (λ l. c.args.relay.now.under_way ++ l) (one ∙ ap (range_with_len c.args.next) more);
    }
