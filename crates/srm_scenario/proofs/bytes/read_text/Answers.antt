use Rattle.std.proofs.Common.{◌++◌, take, arith, length-append}
use Rattle.std.proofs.lemmas.Grind.{common_steps}
use Rattle.std.proofs.lemmas.List.{length-take}
use Rattle.std.proofs.KnownBytes.{Consumes-trans}
use Rattle.srm_scenario.proofs.bytes.read_text.Goals as goal

-- the text before, and the piece that found no room
pub returns-then-is_err-clause-taken : goal.returns-then-is_err-clause-taken
returns-then-is_err-clause-taken g c =
    let before = c.loop-piece.text.items in
    let piece = take c.in-Ok.count c.feed.new.buf in (
      before ++ piece,
      Consumes-trans _ _ _ before piece c.loop-piece.invariant.given c.in-Ok.ensures.bytes.0,
      omega (
        arith,
        length-append before piece,
        length-take c.min-room.result c.loop-piece.piece,
        c.feed.auto.buf,
        c.min-room.ensures,
        c.in-Ok.ensures.bound.0,
        c.in-Ok.ensures.bound.1,
        c.len-in-loop-piece.ensures,
      ),
    )

pub loop-piece-preserved : goal.loop-piece-preserved
loop-piece-preserved g c = grind (arith, common_steps)
