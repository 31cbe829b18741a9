use Rattle.std.proofs.Common.{◌∙◌, ap}
use Rattle.std.proofs.lemmas.List.{take_all}
use Rattle.srm_report.specs.KeptLines.{parts_seen, text_at}
use Rattle.srm_report.proofs.TickLemmas.{behind_more, no_part}
use Rattle.srm_report.proofs.listing.in_order.lines_of.Goals as goal

pub loop-part-init : goal.loop-part-init
loop-part-init c t = ap (text_at t) (c.in_ok-reserve.ensures ∙ c.new-lines.ensures)

pub loop-part-preserved : goal.loop-part-preserved
loop-part-preserved c t =
    behind_more c.args.parts.now c.loop-part.part-index no_part c.loop-part.lines c.put_part.new.self c.loop-part-test.true
    c.in_ok-put_part.ensures t (c.loop-part.invariant t)

pub returns : goal.returns
returns c t =
    c.loop-part.invariant t
    ∙ ap (λ l. text_at t (parts_seen l)) (take_all c.loop-part.part-index c.args.parts.now c.loop-part-test.false)
