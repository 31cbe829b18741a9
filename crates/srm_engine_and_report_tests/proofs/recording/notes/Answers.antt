use Rattle.std.proofs.Common.{rules, ◌≡◌, ◌∙◌, ap, take, length, arith, map, ◌++◌, ◌∷◌, [], List}
use Rattle.std.proofs.Math.Seq.{take-length}
use Rattle.srm_engine_and_report_tests.specs.declared.recording.Note.{Note}
use Rattle.srm_engine_and_report_tests.proofs.NoteLemmas.{own_note, notes_more, notes_seen}
use Rattle.srm_engine_and_report_tests.proofs.recording.notes.Goals as goal

pub loop-job-preserved : goal.loop-job-preserved
loop-job-preserved g c =
    let many : c.len.result ≡ length c.job-item.result.cells.items = search rules in
    c.in_ok-push.ensures.ok ∙ ap (λ n. c.loop-job.all ++ record
    { place = c.job-item.result.place; till = c.job-item.result.till; cells = n } ∷ []) many
    ∙ ap (λ (ns : List Note). ns ++ own_note c.job-item.result ∷ []) c.loop-job.invariant
    ∙ notes_more c.args.jobs.now c.loop-job.job-index c.job-item.result c.loop-job-test.true c.job-item.is

pub returns : goal.returns
returns g c =
    let past = c.loop-job-test.false in
    let within = c.loop-job.auto.job-index-end in
    let at : c.loop-job.job-index ≡ length c.args.jobs.now = omega arith in
    c.loop-job.invariant ∙ ap (λ i. map own_note (take i c.args.jobs.now)) at ∙ ap (map own_note) (take-length c.args.jobs.now)
    ∙ notes_seen g.M.Participant.plain c.args.jobs.now
