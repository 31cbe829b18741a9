use Rattle.std.proofs.Common.{◌∙◌, ℕ, List, IfSome, sym, subst}
use Rattle.std.specs.Global.{Vec}
use Rattle.srm_member.specs.declared.exit.Exit.{Exit}
use Rattle.srm_cell.specs.Setting.{setting_of}
use Rattle.srm_engine.specs.Kept.{Keeps, KeepsFront}
use Rattle.srm_engine.specs.Outcomes.{MayRefuseRun}
use Rattle.srm_engine.proofs.StreamLemmas.{told_why, run_refused}
use Rattle.srm_engine.proofs.step_run.step_run.Goals as goal

pub unwrap-requires : goal.unwrap-requires
unwrap-requires g c = rw c.run_fault.ensures (told_why (Vec Exit × List ℕ) 0 c.in-Err.fault c.in-Err.ensures.sink.failures)

pub returns-in-Err : goal.returns-in-Err
returns-in-Err g c = λ seed h.
    subst (λ o. IfSome o (MayRefuseRun (setting_of c.args.scenario.now seed)))
    (sym c.run_fault.ensures ∙ c.unwrap.ensures)
    (run_refused Keeps KeepsFront (setting_of c.args.scenario.now seed) c.new-kept.result c.in-Err.fault
    c.step_stream.new.sink (c.in-Err.ensures.refused seed h))
