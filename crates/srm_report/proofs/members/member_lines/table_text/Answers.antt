use Rattle.std.proofs.Common.{◌≡◌, ◌∙◌, ℕ, List, length, arith, subst}
use Rattle.std.specs.Result.{IfOk}
use Rattle.csv.specs.Writing.{fields_text, is_blank}
use Rattle.srm_report.specs.Members.{member_columns}
use Rattle.srm_report.specs.Records.{HasText}
use Rattle.srm_report.proofs.TableLemmas.{table_first}
use Rattle.srm_report.proofs.MemberLemmas.{text_more, text_all}
use Rattle.srm_report.proofs.members.member_lines.table_text.Goals as goal

pub loop-member-init : goal.loop-member-init
unfolding fields_text is_blank
loop-member-init c rows counted =
    subst (HasText _) (c.in_ok-from_slice.ensures.items ∙ table_first member_columns) c.writer_behind-writer.ensures

pub loop-member-preserved : goal.loop-member-preserved
loop-member-preserved c rows counted =
    subst (HasText c.put_member.new.writer)
    (text_more rows c.args.scenario.now.members c.args.counts.now counted
    c.loop-member.member c.member.result.now c.counts_of_member.result c.member.ensures c.counts_of_member.ensures)
    (c.in_ok-put_member.ensures _ (c.loop-member.invariant rows counted))

pub returns : goal.returns
returns c rows counted =
    let whole : c.loop-member.member ≡ length c.args.scenario.now.members = omega arith in
    subst (λ (l : List ℕ). IfOk c.text_of.result (λ text. text.items ≡ l))
    (text_all rows c.args.scenario.now c.loop-member.member whole)
    (c.text_of.ensures _ (c.loop-member.invariant rows counted))
