use Rattle.std.proofs.Common.{◌≡◌, ◌∙◌, ◌++◌, ◌∷◌, [], ap, inr, arith}
use Rattle.std.proofs.lemmas.Grind.{common_steps}
use Rattle.std.specs.Vec.Iter.{into_iter_items}
use Rattle.srm_interfaces.proofs.InPieces.{all_in}
use Rattle.srm_crew.proofs.JobPieces.{piece_longer, piece_ends, last_piece, has_one, sized_more, few_pieces}
use Rattle.srm_crew.proofs.pieces.even_pieces.Goals.{then-len-size+in_ok-push, else-len-size}
use Rattle.srm_crew.proofs.pieces.even_pieces.Goals as goal

pub loop-group-preserved : goal.loop-group-preserved
loop-group-preserved g c =
    let i = rw c.in-Some.ensures.steps.0 at c.loop-group.invariant.2 in
    let left = into_iter_items c.next.new.self in
    let pushed = c.in_ok-push-2.ensures.items in
    let some = has_one c.if-len-size.piece.items c.push-in-loop-group.new.self.items c.in-Some.group pushed in
    elim c.if-len-size.branch [
      | then-len-size+in_ok-push w ↦
          let same = piece_ends c.loop-group.pieces.items w.push.new.self.items c.loop-group.piece w.new-piece-then-len-size.result
          w.in_ok-push.ensures.items w.new-piece-then-len-size.ensures.items in (
            tt,
            tt,
            piece_longer (all_in c.if-len-size.pieces.items) c.if-len-size.piece c.push-in-loop-group.new.self c.in-Some.group left
                c.args.groups.items pushed
                (rw (w.pieces-is, w.piece-is) (ap (λ l. l ++ c.in-Some.group ∷ left) same ∙ i)),
            rw w.pieces-is (sized_more c.args.size c.loop-group.pieces.items w.push.new.self.items c.loop-group.piece
                w.in_ok-push.ensures.items (let enough = w.if-len-size.true in let len = c.len.ensures in omega (arith, enough, len))
                c.loop-group.invariant.3),
            inr some,
          )
      | else-len-size w ↦ (
        tt,
        tt,
        piece_longer (all_in c.if-len-size.pieces.items) c.if-len-size.piece c.push-in-loop-group.new.self c.in-Some.group left
            c.args.groups.items pushed (rw (w.pieces-is, w.piece-is) i),
        rw w.pieces-is c.loop-group.invariant.3,
        inr some,
      )
    ]

pub returns-clause-all : goal.returns-clause-all
returns-clause-all g c =
    let ok = c.loop-group.group-iterator.rest.ok in
    let none : into_iter_items c.loop-group.group-iterator ≡ [] = grind (arith, common_steps) in
    last_piece c.loop-group.pieces.items c.push-2.new.self.items c.loop-group.piece (into_iter_items c.loop-group.group-iterator)
    c.args.groups.items c.in_ok-push-3.ensures.items none c.loop-group.invariant.2

pub returns-clause-few : goal.returns-clause-few
returns-clause-few g c =
    let ok = c.loop-group.group-iterator.rest.ok in
    let none : into_iter_items c.loop-group.group-iterator ≡ [] = grind (arith, common_steps) in
    few_pieces c.args.size c.loop-group.pieces.items c.push-2.new.self.items c.loop-group.piece
    (into_iter_items c.loop-group.group-iterator) c.args.groups.items c.in_ok-push-3.ensures.items none
    c.loop-group.invariant.2 c.loop-group.invariant.3 c.loop-group.invariant.4
