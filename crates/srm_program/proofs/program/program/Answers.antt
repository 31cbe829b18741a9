use Rattle.std.proofs.Common.{ℕ, List, [], Option, Some, None, Result, sym, subst, refl, arith}
use Rattle.std.specs.Io.KnownBytes.{Consumes}
use Rattle.srm_options.specs.declared.options.Options.{Options}
use Rattle.srm_command_line.specs.declared.line_fault.LineFault.{LineFault}
use Rattle.srm_program.specs.Program.{CarriesOut, TellsAskedRefusals}
use Rattle.srm_program.proofs.GivenTexts.{refusals_of_given}
use Rattle.srm_program.proofs.program.program.Goals as goal

-- of a feed that is left alone nothing was consumed
consumes-none : (known : Option (List ℕ)) → Consumes known known []
consumes-none None = tt
consumes-none (Some xs) = refl

pub returns-in-Ok-clause-report : goal.returns-in-Ok-clause-report
returns-in-Ok-clause-report g c =
    let told = c.simulate-simulated.ensures in
    let done = c.simulate-simulated.result.done in
    let t = told.taken in (
      done,
      t.0,
      tt,
      t.1,
      t.2,
      subst (λ (r : Result (ℕ × Options) LineFault). CarriesOut r t.0 (g.O.Outlet.taken c.args.outlet.now)
          (g.O.Outlet.taken c.simulate-simulated.new.outlet) (g.F.Feed.remaining c.simulate-simulated.new.feed) done) (sym c.in-Ok.is)
          (t.3, told.end),
      told.read,
      told.failures,
      rw (c.asks_explanation-explains.ensures, c.asks_remarks-remarks.ensures) at (c.conclude.ensures.told t.0 t.4),
      c.conclude.ensures.status,
    )

pub returns-in-Ok-clause-refusals : goal.returns-in-Ok-clause-refusals
returns-in-Ok-clause-refusals g c =
    let told = c.simulate-simulated.ensures in
    let done = c.simulate-simulated.result.done in
    let t = told.taken in (
      done,
      t.0,
      subst (λ (r : Result (ℕ × Options) LineFault). TellsAskedRefusals r t.0 (g.O.Outlet.taken c.args.outlet.now)
          (g.O.Outlet.taken c.simulate-simulated.new.outlet) done) (sym c.in-Ok.is)
          (refusals_of_given c.in-Ok.seed c.in-Ok.options t.0 c.simulate-simulated.result.text.items _ _ done t.4 told.refusals),
      t.1,
      t.2,
      subst (λ (r : Result (ℕ × Options) LineFault). CarriesOut r t.0 (g.O.Outlet.taken c.args.outlet.now)
          (g.O.Outlet.taken c.simulate-simulated.new.outlet) (g.F.Feed.remaining c.simulate-simulated.new.feed) done) (sym c.in-Ok.is)
          (t.3, told.end),
      told.read,
      told.failures,
      rw (c.asks_explanation-explains.ensures, c.asks_remarks-remarks.ensures) at (c.conclude.ensures.told t.0 t.4),
      c.conclude.ensures.status,
    )

pub returns-in-Err-clause-report : goal.returns-in-Err-clause-report
returns-in-Err-clause-report g c =
    let told = c.run_nothing-unread.ensures in
    let done = c.run_nothing-unread.result.done in (
      done,
      [],
      tt,
      consumes-none (g.F.Feed.remaining c.args.feed.now),
      omega arith,
      subst (λ (r : Result (ℕ × Options) LineFault). CarriesOut r [] (g.O.Outlet.taken c.args.outlet.now)
          (g.O.Outlet.taken c.run_nothing-unread.new.outlet) (g.F.Feed.remaining c.args.feed.now) done) (sym c.in-Err.is)
          (refl, told.taken),
      told.read _,
      told.failures,
      rw (c.asks_explanation-explains.ensures, c.asks_remarks-remarks.ensures) at (c.conclude-in-Err.ensures.told [] told.text),
      c.conclude-in-Err.ensures.status,
    )

pub returns-in-Err-clause-refusals : goal.returns-in-Err-clause-refusals
returns-in-Err-clause-refusals g c =
    let told = c.run_nothing-unread.ensures in
    let done = c.run_nothing-unread.result.done in (
      done,
      [],
      subst (λ (r : Result (ℕ × Options) LineFault). TellsAskedRefusals r [] (g.O.Outlet.taken c.args.outlet.now)
          (g.O.Outlet.taken c.run_nothing-unread.new.outlet) done) (sym c.in-Err.is) tt,
      consumes-none (g.F.Feed.remaining c.args.feed.now),
      omega arith,
      subst (λ (r : Result (ℕ × Options) LineFault). CarriesOut r [] (g.O.Outlet.taken c.args.outlet.now)
          (g.O.Outlet.taken c.run_nothing-unread.new.outlet) (g.F.Feed.remaining c.args.feed.now) done) (sym c.in-Err.is)
          (refl, told.taken),
      told.read _,
      told.failures,
      rw (c.asks_explanation-explains.ensures, c.asks_remarks-remarks.ensures) at (c.conclude-in-Err.ensures.told [] told.text),
      c.conclude-in-Err.ensures.status,
    )
