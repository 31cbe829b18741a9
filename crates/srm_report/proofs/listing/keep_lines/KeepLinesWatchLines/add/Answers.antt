use Rattle.std.proofs.Common.{◌≡◌, ◌∙◌, ◌<◌, ◌++◌, ap, append-nil, sym, length, take, arith}
use Rattle.std.proofs.Math.Seq.{take-length}
use Rattle.srm_report.specs.KeptLines.{lines_of}
use Rattle.srm_report.proofs.ListingLemmas.{kept-more}
use Rattle.std.proofs.lemmas.List.{get_or_default}
use Rattle.srm_report.proofs.listing.keep_lines.KeepLinesWatchLines.add.Goals as goal

pub loop-row-init : goal.loop-row-init
loop-row-init g c before was = c.in_ok-reserve.ensures ∙ was ∙ ap (lines_of g.L.Listing.form) (sym (append-nil before))

pub loop-row-preserved : goal.loop-row-preserved
loop-row-preserved g c before was =
    let rows = c.args.rows.now in
    let i = c.loop-row.row-index in
    let lt : i < length rows = c.loop-row-test.true in
    kept-more g.L.Listing.form before rows i c.row-item.result c.loop-row.kept c.put.new.self lt
    (c.row-item.is ∙ get_or_default rows i _ _ lt) (c.loop-row.invariant before was) c.in_ok-put.ensures

pub returns : goal.returns
returns g c before was =
    let whole : c.loop-row.row-index ≡ length c.args.rows.now = omega arith in
    c.loop-row.invariant before was
    ∙ ap (λ l. lines_of g.L.Listing.form (before ++ l)) (ap (λ n. take n c.args.rows.now) whole ∙ take-length c.args.rows.now)
