use Rattle.std.proofs.Common.{◌≡◌, ◌∙◌, ◌++◌, ap, length, take, arith}
use Rattle.std.proofs.Math.Seq.{take-length}
use Rattle.srm_engine.proofs.keep_rows.KeepRowsWatchVecRow.add.Goals as goal

pub returns : goal.returns
returns c before was =
    let whole : c.loop-row.row-index ≡ length c.args.rows.now = omega arith in
    c.loop-row.invariant ∙ ap (λ l. l ++ take c.loop-row.row-index c.args.rows.now) was
    ∙ ap (λ l. before ++ l) (ap (λ n. take n c.args.rows.now) whole ∙ take-length c.args.rows.now)
