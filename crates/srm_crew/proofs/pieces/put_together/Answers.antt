use Rattle.std.proofs.Common.{◌≡◌, ◌++◌, [], sym, ◌∙◌, arith}
use Rattle.std.proofs.lemmas.Grind.{common_steps}
use Rattle.std.specs.Vec.Iter.{into_iter_items}
use Rattle.srm_cell.proofs.Pushes.{pushed_if}
use Rattle.srm_crew.proofs.JobPieces.{together_none, together_more, together_all, together_fault}
use Rattle.srm_crew.proofs.pieces.put_together.Goals as goal

pub loop-told-init : goal.loop-told-init
loop-told-init g c = (
  tt,
  tt,
  rw (c.into_iter-told-iterator.ensures.into_iter_gives.0, c.new-all.ensures.items) (together_none c.args.pieces.items),
)

pub loop-told-preserved : goal.loop-told-preserved
loop-told-preserved g c = (
  tt,
  tt,
  let so = rw c.in-Some.ensures.steps.0 at c.loop-told.invariant.2 in
      let all = pushed_if c.append.result (c.loop-told.all.items ++ c.in-Ok.piece.items) c.loop-told.all.items
      c.append.new.self.items (sym c.is_err.ensures.value ∙ c.if-is_err.false) c.append.ensures.items in
      rw all (together_more c.loop-told.all.items c.in-Some.told (into_iter_items c.next.new.self) c.args.pieces.items
      c.in-Ok.piece so c.in-Ok.is),
)

pub returns-in-Err : goal.returns-in-Err
returns-in-Err g c =
    let so = rw c.in-Some.ensures.steps.0 at c.loop-told.invariant.2 in
    together_fault c.loop-told.all.items c.in-Some.told (into_iter_items c.next.new.self) c.args.pieces.items c.in-Err.fault so c.in-Err.is

pub returns : goal.returns
returns g c =
    let ok = c.loop-told.told-iterator.rest.ok in
    let none : into_iter_items c.loop-told.told-iterator ≡ [] = grind (arith, common_steps) in
    together_all c.loop-told.all (into_iter_items c.loop-told.told-iterator) c.args.pieces.items c.loop-told.invariant.2 none
