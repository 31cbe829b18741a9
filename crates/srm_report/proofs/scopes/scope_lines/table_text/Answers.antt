use Rattle.std.proofs.Common.{◌≡◌, ◌∙◌, ◌+◌, ◌<◌, ◌++◌, ℕ, List, length, get_or, map, take, ap, subst}
use Rattle.std.proofs.lemmas.List.{take_all}
use Rattle.std.specs.Result.{IfOk}
use Rattle.csv.specs.Writing.{default_writer, fields_text, is_blank, row_text}
use Rattle.srm_net.specs.declared.packet.PacketId.{PacketId}
use Rattle.std.specs.Global.{Vec}
use Rattle.csv.specs.declared.writer.Writer.{Writer}
use Rattle.srm_report.specs.declared.scopes.scope_entry.ScopeEntry.{ScopeEntry}
use Rattle.srm_report.specs.KeptScopes.{count_in}
use Rattle.srm_report.specs.Records.{HasText}
use Rattle.srm_report.specs.Scopes.{scope_columns, scope_fields}
use Rattle.srm_report.specs.Tables.{table_lines}
use Rattle.srm_report.proofs.TableLemmas.{mapped_more, table_first}
use Rattle.srm_report.proofs.scopes.scope_lines.table_text.Goals as goal

pub loop-entry-init : goal.loop-entry-init
unfolding fields_text is_blank
loop-entry-init c = subst (HasText _) (c.in_ok-from_slice.ensures.items ∙ table_first scope_columns) c.writer_behind-writer.ensures

-- the fields of each of these entries
abbrev all_fields : List (PacketId × ℕ) → List ScopeEntry → List (List (List ℕ))
all_fields heard es = map (λ e. scope_fields e (count_in heard e.sent)) es

-- the record of one entry more
entry_more : (r : Writer (Vec ℕ)) (es : List ScopeEntry) (heard : List (PacketId × ℕ)) (i : ℕ) (d : ScopeEntry) (n : ℕ) → i < length es
    → HasText r (table_lines scope_columns (all_fields heard (take i es)) ++ row_text default_writer (scope_fields (get_or es i d) n))
    → n ≡ count_in heard (get_or es i d).sent → HasText r (table_lines scope_columns (all_fields heard (take (i + 1) es)))
entry_more r es heard i d n lt put counted =
    subst (HasText r)
    (ap (λ k. table_lines scope_columns (all_fields heard (take i es)) ++ row_text default_writer (scope_fields (get_or es i d) k)) counted
    ∙ mapped_more scope_columns (λ e. scope_fields e (count_in heard e.sent)) es i d lt) put

pub loop-entry-preserved : goal.loop-entry-preserved
loop-entry-preserved c =
    entry_more _ c.args.entries.now c.args.heard.now c.loop-entry.entry-index _ _ c.loop-entry-test.true
    (c.in_ok-put_entry.ensures _ c.loop-entry.invariant) c.of.ensures

pub returns : goal.returns
returns c =
    subst (λ (l : List ℕ). IfOk c.text_of.result (λ text. text.items ≡ l))
    (ap (λ l. table_lines scope_columns (all_fields c.args.heard.now l))
    (take_all c.loop-entry.entry-index c.args.entries.now c.loop-entry-test.false))
    (c.text_of.ensures _ c.loop-entry.invariant)
