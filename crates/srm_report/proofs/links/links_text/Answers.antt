use Rattle.std.proofs.Common.{◌≡◌, ◌∙◌, ℕ, List, [], length, arith, subst}
use Rattle.std.specs.Result.{IfOk}
use Rattle.csv.specs.Writing.{fields_text, is_blank}
use Rattle.srm_report.specs.Links.{link_columns}
use Rattle.srm_report.specs.Records.{HasText}
use Rattle.srm_report.proofs.LinkLemmas.{text_more, text_all}
use Rattle.srm_report.proofs.TableLemmas.{table_first}
use Rattle.srm_report.proofs.links.links_text.Goals as goal

pub loop-link-init : goal.loop-link-init
unfolding fields_text is_blank
loop-link-init c = subst (HasText _) (c.in_ok-from_slice.ensures.items ∙ table_first link_columns) c.writer_behind-writer.ensures

pub loop-link-preserved : goal.loop-link-preserved
loop-link-preserved c =
    subst (HasText c.put_link.new.writer)
    (text_more c.links-numbers-items.result.now c.links-numbers-items.ensures.five c.args.totals.now c.links-numbers-items.ensures.numbers
    c.loop-link.link [] (omega arith))
    (c.in_ok-put_link.ensures _ c.loop-link.invariant)

pub returns : goal.returns
returns c =
    let whole : c.loop-link.link ≡ length c.links-numbers-items.result.now = omega arith in
    subst (λ (l : List ℕ). IfOk c.text_of.result (λ text. text.items ≡ l))
    (text_all c.links-numbers-items.result.now c.links-numbers-items.ensures.five c.args.totals.now c.links-numbers-items.ensures.numbers
    c.loop-link.link whole)
    (c.text_of.ensures _ c.loop-link.invariant)
