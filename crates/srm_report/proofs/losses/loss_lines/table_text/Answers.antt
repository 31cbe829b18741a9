use Rattle.std.proofs.Common.{◌≡◌, ◌∙◌, ◌<◌, ℕ, List, None, length, arith, subst}
use Rattle.std.specs.Result.{IfOk}
use Rattle.csv.specs.Writing.{fields_text, is_blank}
use Rattle.srm_report.specs.declared.losses.course.Course.{Course}
use Rattle.srm_report.specs.declared.losses.loss.Loss.{Loss}
use Rattle.srm_report.specs.Losses.{loss_columns}
use Rattle.srm_report.specs.Records.{HasText}
use Rattle.srm_report.proofs.TableLemmas.{table_first}
use Rattle.srm_report.proofs.LossLemmas.{text_next, text_all, next_among}
use Rattle.srm_report.proofs.losses.loss_lines.table_text.Goals as goal

-- in place of an entry that is not there
abbrev none : Loss × Course
none = (record { member = 0; name = record { source = 0; page = 0; number = 0 } }, record { detected = 0; recovered = None })

pub loop-entry-init : goal.loop-entry-init
unfolding fields_text is_blank
loop-entry-init c rows o tell =
    subst (HasText _) (c.in_ok-from_slice.ensures.items ∙ table_first loss_columns) c.writer_behind-writer.ensures

pub put_loss-requires-clause-member : goal.put_loss-requires-clause-member
put_loss-requires-clause-member c =
    let lt : c.loop-entry.entry-index < length c.args.entries.now = c.loop-entry-test.true in
    (next_among c.requires.0 (length c.args.net.now.hosts) c.requires.1 c.args.entries.now c.requires.2 c.loop-entry.entry-index none lt).0

pub put_loss-requires-clause-source : goal.put_loss-requires-clause-source
put_loss-requires-clause-source c =
    let lt : c.loop-entry.entry-index < length c.args.entries.now = c.loop-entry-test.true in
    (next_among c.requires.0 (length c.args.net.now.hosts) c.requires.1 c.args.entries.now c.requires.2 c.loop-entry.entry-index none lt).1

pub loop-entry-preserved : goal.loop-entry-preserved
loop-entry-preserved c rows o tell =
    let lt : c.loop-entry.entry-index < length c.args.entries.now = c.loop-entry-test.true in
    subst (HasText c.put_loss.new.writer)
    (text_next rows (length c.args.net.now.hosts) o c.args.entries.now tell c.args.net.now c.loop-entry.entry-index none lt)
    (c.in_ok-put_loss.ensures _ (c.loop-entry.invariant rows o tell))

pub returns : goal.returns
returns c rows o tell =
    let whole : c.loop-entry.entry-index ≡ length c.args.entries.now = omega arith in
    subst (λ (l : List ℕ). IfOk c.text_of.result (λ text. text.items ≡ l))
    (text_all rows (length c.args.net.now.hosts) o c.args.entries.now tell c.args.net.now c.loop-entry.entry-index whole)
    (c.text_of.ensures _ (c.loop-entry.invariant rows o tell))
