use Rattle.std.proofs.Common.{◌≡◌, map, take}
use Rattle.srm_engine_and_report_tests.proofs.NoteLemmas.{own_note}
use Rattle.srm_engine_and_report_tests.proofs.recording.notes.Given as goal

abbrev pub invariant-loop-job : goal.invariant-loop-job
invariant-loop-job g l = l.all ≡ map own_note (take l.job-index l.jobs)
