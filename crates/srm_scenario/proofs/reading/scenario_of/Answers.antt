use Rattle.std.proofs.lemmas.Result.{err_from_is_err_and}
use Rattle.toml.specs.View.{table_view}
use Rattle.srm_scenario.proofs.InRanges.{listed_range, listed_pages}
use Rattle.srm_scenario.proofs.TableAnswers.{answer_ok, answer_err, key_answer}
use Rattle.srm_scenario.proofs.reading.scenario_of.Goals as goal

pub returns-in_err-draft-clause-fault : goal.returns-in_err-draft-clause-fault
returns-in_err-draft-clause-fault c =
    let p = err_from_is_err_and c.from_residual.result c.from_residual.ensures.1 in
    rw (p.1, p.2) (key_answer (table_view c.args.table.now) c.in_err-draft.field-0.0 c.in_err-draft.ensures.fault)

pub scenario_from-requires-clause-range : goal.scenario_from-requires-clause-range
scenario_from-requires-clause-range c = listed_range (table_view c.args.table.now) c.in_ok-draft.draft c.in_ok-draft.ensures.draft

pub scenario_from-requires-clause-pages : goal.scenario_from-requires-clause-pages
scenario_from-requires-clause-pages c = listed_pages (table_view c.args.table.now) c.in_ok-draft.draft c.in_ok-draft.ensures.draft

pub returns-clause-scenario : goal.returns-clause-scenario
returns-clause-scenario c =
    answer_ok (table_view c.args.table.now) c.in_ok-draft.draft c.scenario_from.result c.in_ok-draft.ensures.draft
    c.scenario_from.ensures.no_fault c.scenario_from.ensures.plain

pub returns-clause-fault : goal.returns-clause-fault
returns-clause-fault c =
    answer_err (table_view c.args.table.now) c.in_ok-draft.draft c.scenario_from.result c.in_ok-draft.ensures.draft
    c.scenario_from.ensures.fault
