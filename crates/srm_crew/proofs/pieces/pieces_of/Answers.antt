use Rattle.std.proofs.Common.{◌≡◌, ◌∙◌, ◌++◌, ◌∷◌, [], ap, arith}
use Rattle.std.proofs.lemmas.Grind.{common_steps}
use Rattle.std.specs.Vec.Iter.{into_iter_items}
use Rattle.srm_interfaces.proofs.InPieces.{all_in}
use Rattle.srm_crew.proofs.JobPieces.{piece_longer, piece_ends, last_piece, one_piece_more}
use Rattle.srm_crew.proofs.pieces.pieces_of.Goals.{then-due-share+then-len-cuts+in_ok-push, else-due-share}
use Rattle.srm_crew.proofs.pieces.pieces_of.Goals as goal

pub loop-job-preserved : goal.loop-job-preserved
loop-job-preserved g c =
    let i = rw c.in-Some.ensures.steps.0 at c.loop-job.invariant.2 in
    let left = into_iter_items c.next.new.self in
    let pushed = c.in_ok-push-2.ensures.items in
    elim c.if-due-share.branch [
      | then-due-share+then-len-cuts+in_ok-push w ↦
          let same = piece_ends c.loop-job.pieces.items w.push.new.self.items c.loop-job.piece w.new-piece-then-len-cuts.result
          w.in_ok-push.ensures.items w.new-piece-then-len-cuts.ensures.items in (
            tt,
            tt,
            piece_longer (all_in c.if-due-share.pieces.items) c.if-due-share.piece c.push-in-loop-job.new.self c.in-Some.job left
                c.args.jobs.items pushed
                (rw (w.pieces-is, w.piece-is) (ap (λ l. l ++ c.in-Some.job ∷ left) same ∙ i)),
            rw w.pieces-is (
                let long = one_piece_more c.loop-job.pieces.items w.push.new.self.items c.loop-job.piece w.in_ok-push.ensures.items in
                let few = w.if-len-cuts.true in
                let len = w.len.ensures in omega (arith, long, few, len)),
          )
      | else-due-share w ↦ (
        tt,
        tt,
        piece_longer (all_in c.if-due-share.pieces.items) c.if-due-share.piece c.push-in-loop-job.new.self c.in-Some.job left
            c.args.jobs.items pushed (rw (w.pieces-is, w.piece-is) i),
        rw w.pieces-is c.loop-job.invariant.3,
      )
    ]

pub returns-clause-all : goal.returns-clause-all
returns-clause-all g c =
    let ok = c.loop-job.job-iterator.rest.ok in
    let none : into_iter_items c.loop-job.job-iterator ≡ [] = grind (arith, common_steps) in
    last_piece c.loop-job.pieces.items c.push-2.new.self.items c.loop-job.piece (into_iter_items c.loop-job.job-iterator)
    c.args.jobs.items c.in_ok-push-3.ensures.items none c.loop-job.invariant.2

pub returns-clause-few : goal.returns-clause-few
returns-clause-few g c =
    let long = one_piece_more c.loop-job.pieces.items c.push-2.new.self.items c.loop-job.piece c.in_ok-push-3.ensures.items in
    let few = c.loop-job.invariant.3 in omega (arith, long, few)
