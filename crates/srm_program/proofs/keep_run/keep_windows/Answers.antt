use Rattle.std.proofs.Common.{ℕ, List}
use Rattle.std.specs.Global.{Vec}
use Rattle.srm_program.proofs.KeptTables.{kept_refused}
use Rattle.srm_program.proofs.keep_run.keep_windows.Goals as goal

pub returns-in-Err : goal.returns-in-Err
returns-in-Err g c =
    let task = c.args.asked.task in
    let p = task.session.scenario.now in
    let keeps = g.W.Watch.keeps c.args.watch in
    let old = c.args.crew.now in
    let new = c.window_watch.new.crew in
    record {
      kept = λ seed h. rw c.fault_of.ensures
          (kept_refused (Vec g.row.K.Denot × List ℕ) (Vec g.row.K.Denot × List ℕ) keeps p seed task.options old new c.in-Err.fault
          c.requires.windows c.in-Err.ensures.asked (c.in-Err.ensures.windows seed h)).0;
      refused = λ seed h. rw c.fault_of.ensures
          (kept_refused (Vec g.row.K.Denot × List ℕ) (Vec g.row.K.Denot × List ℕ) keeps p seed task.options old new c.in-Err.fault
          c.requires.windows c.in-Err.ensures.asked (c.in-Err.ensures.windows seed h)).1;
    }
