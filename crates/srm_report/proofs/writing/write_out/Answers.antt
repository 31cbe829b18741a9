use Rattle.std.proofs.Common.{◌∙◌, take, drop, arith, length-drop}
use Rattle.std.proofs.Math.Seq.{take-add}
use Rattle.std.proofs.KnownBytes.{Appends-trans}
use Rattle.srm_report.proofs.TextLemmas.{drop-whole}
use Rattle.srm_report.proofs.writing.write_out.Goals as goal

-- what was taken before, and the front of the rest
pub loop-written-preserved : goal.loop-written-preserved
loop-written-preserved g c =
    let at = c.loop-written.written in
    let text = c.args.text.now in
    let count = c.in-Ok.count in
    let bound = rw (drop-whole at text) at c.in-Ok.ensures.bound in
    let next = rw (drop-whole at text) at c.in-Ok.ensures.bytes in
    record {
      within = omega (arith, bound, length-drop at text);
      unfailed = c.in-Ok.ensures.failures ∙ c.loop-written.invariant.unfailed;
      below = c.loop-written.invariant.below;
      taken = rw (take-add at count text) (Appends-trans _ _ _ (take at text) (take count (drop at text)) c.loop-written.invariant.taken
          next);
    }
