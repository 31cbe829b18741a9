use Rattle.std.proofs.Common.{◌≡◌, ◌∙◌, ◌<◌, ◌++◌, ℕ, List, length, map, take, get_or, ap, arith, subst}
use Rattle.std.proofs.Math.Seq.{take-length}
use Rattle.std.specs.Result.{IfOk}
use Rattle.csv.specs.Writing.{default_writer, fields_text, is_blank, row_text}
use Rattle.srm_net.specs.declared.packet.Name.{Name}
use Rattle.srm_report.specs.Operations.{operation_columns, operation_fields}
use Rattle.srm_report.specs.Records.{HasText}
use Rattle.srm_report.specs.Sendings.{sending_in}
use Rattle.srm_report.specs.Tables.{table_lines}
use Rattle.srm_report.specs.Tallies.{tally_in}
use Rattle.srm_report.proofs.TableLemmas.{mapped_more, table_first}
use Rattle.srm_report.proofs.operations.operation_lines.table_text.Goals as goal

-- in place of a name that is not there
abbrev none : Name
none = record { source = 0; page = 0; number = 0 }

pub loop-name-init : goal.loop-name-init
unfolding fields_text is_blank
loop-name-init c = subst (HasText _) (c.in_ok-from_slice.ensures.items ∙ table_first operation_columns) c.writer_behind-writer.ensures

pub loop-name-preserved : goal.loop-name-preserved
loop-name-preserved c =
    let ns = c.as_slice-name-items.result.now in
    let i = c.loop-name.name-index in
    let lt : i < length ns = c.loop-name-test.true in
    let f = λ (n : Name). operation_fields c.args.net.now n (tally_in c.args.tallies.now n) (sending_in c.args.sent.now n) in
    subst (HasText c.put_operation.new.writer)
    ((λ j. table_lines operation_columns (map f (take i ns))
    ++ row_text default_writer (operation_fields c.args.net.now (get_or ns i none) (c.tally.ensures j) (c.sending.ensures j)))
    ∙ mapped_more operation_columns f ns i none lt)
    (c.in_ok-put_operation.ensures _ c.loop-name.invariant)

pub returns : goal.returns
returns c =
    let ns = c.as_slice-name-items.result.now in
    let whole : c.loop-name.name-index ≡ length ns = omega arith in
    let f = λ (n : Name). operation_fields c.args.net.now n (tally_in c.args.tallies.now n) (sending_in c.args.sent.now n) in
    subst (λ (l : List ℕ). IfOk c.text_of.result (λ text. text.items ≡ l))
    (ap (λ i. table_lines operation_columns (map f (take i ns))) whole
    ∙ ap (λ l. table_lines operation_columns (map f l)) (take-length ns ∙ c.as_slice-name-items.ensures ∙ c.in_ok-names.ensures))
    (c.text_of.ensures _ c.loop-name.invariant)
