use Rattle.std.proofs.Common.{◌+◌, ◌∙◌, ap, drop, sym}
use Rattle.std.proofs.lemmas.List.{drop_all}
use Rattle.srm_scenario.specs.Plain.{report_marks}
use Rattle.srm_scenario.proofs.ScriptLists.{pushed_at, report_begins, still_within, with_nothing, lists_in}
use Rattle.srm_scenario.proofs.scripts.add_reports.Goals as goal

pub loop-i-preserved : goal.loop-i-preserved
loop-i-preserved c =
    let i = c.loop-i.i in
    let all = c.args.sessions.now in
    pushed_at _ c.from.result _ c.report_mark.result (λ m. report_marks m i (drop i all)) (λ m. report_marks m (i + 1) (drop (i + 1) all))
    (report_begins all i _ c.loop-i-test.true) c.from.ensures c.report_mark.ensures c.loop-i.scripts c.push.new.self
    c.index-scripts-from.result
    (still_within _ _ _ _ c.from.ensures (c.requires.members i _ c.loop-i-test.true) c.loop-i.auto.scripts) c.in_ok-push.ensures.items
    ∙ c.loop-i.invariant

pub returns : goal.returns
returns c =
    let none = drop_all c.loop-i.i c.args.sessions.now c.loop-i-test.false in
    sym (with_nothing (λ m. report_marks m c.loop-i.i (drop c.loop-i.i c.args.sessions.now)) (λ m. ap (report_marks m c.loop-i.i) none) 0
    (lists_in c.loop-i.scripts)) ∙ c.loop-i.invariant
