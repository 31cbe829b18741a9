use Rattle.std.proofs.lemmas.Bool.{false≢true}
use Rattle.std.proofs.Common.{inr}
use Rattle.toml.specs.View.{table_view}
use Rattle.srm_scenario.proofs.Texts.{text_ok, text_err, not_toml, too_long}
use Rattle.srm_scenario.proofs.reading.scenario_of_text.Goals as goal

pub returns-in-Ok-clause-scenario : goal.returns-in-Ok-clause-scenario
returns-in-Ok-clause-scenario c =
    text_ok c.args.text.now (table_view c.in-Ok.table) c.scenario_of.result c.if-text-gt-LONGEST_TEXT.false c.in-Ok.ensures.ok.0
    c.in-Ok.ensures.ok.1 c.scenario_of.ensures.scenario

pub returns-in-Ok-clause-fault : goal.returns-in-Ok-clause-fault
returns-in-Ok-clause-fault c =
    text_err c.args.text.now (table_view c.in-Ok.table) c.scenario_of.result c.if-text-gt-LONGEST_TEXT.false c.in-Ok.ensures.ok.0
    c.in-Ok.ensures.ok.1 c.scenario_of.ensures.fault

pub returns-else-is_memory-clause-fault : goal.returns-else-is_memory-clause-fault
returns-else-is_memory-clause-fault c =
    inr (not_toml c.args.text.now c.if-text-gt-LONGEST_TEXT.false (c.in-Err.ensures.refused (λ k. false≢true (c.if-is_memory.ensures.1 k))))

pub returns-then-text-gt-LONGEST_TEXT-clause-fault : goal.returns-then-text-gt-LONGEST_TEXT-clause-fault
returns-then-text-gt-LONGEST_TEXT-clause-fault c = inr (too_long c.args.text.now c.if-text-gt-LONGEST_TEXT.true)
