use Rattle.std.proofs.Common.{◌∙◌, ℕ, List, IfSome, sym, subst}
use Rattle.std.specs.Global.{Vec}
use Rattle.srm_member.specs.declared.exit.Exit.{Exit}
use Rattle.srm_cell.specs.Setting.{setting_of}
use Rattle.srm_engine.specs.Windowed.{MayRefuse, rule_of}
use Rattle.srm_engine.proofs.StreamLemmas.{told_why}
use Rattle.srm_engine.proofs.WindowLemmas.{asked_told}
use Rattle.srm_engine.proofs.window_run.window_run.Goals as goal

pub unwrap-requires : goal.unwrap-requires
unwrap-requires g c = rw c.run_fault.ensures (told_why (Vec Exit × List ℕ) 0 c.in-Err.fault c.in-Err.ensures.sink.failures)

pub returns-in-Err-clause-asked : goal.returns-in-Err-clause-asked
returns-in-Err-clause-asked g c =
    asked_told (Vec Exit × List ℕ) c.args.scenario.now c.args.asked c.in-Err.fault c.unwrap.result
    (sym c.run_fault.ensures ∙ c.unwrap.ensures) c.in-Err.ensures.asked

pub returns-in-Err-clause-refused : goal.returns-in-Err-clause-refused
returns-in-Err-clause-refused g c = λ seed h.
    let s = setting_of c.args.scenario.now seed in
    subst (λ o. IfSome o (λ e. MayRefuse s (rule_of s c.args.scenario.now c.args.asked.width) c.args.asked.cut c.args.crew.now e
    c.window_stream.new.crew)) (sym c.run_fault.ensures ∙ c.unwrap.ensures) (c.in-Err.ensures.windows seed h)
