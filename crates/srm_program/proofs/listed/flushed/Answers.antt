use Rattle.std.proofs.Common.{rules, ℕ, List, refl}
use Rattle.srm_cell.specs.Setting.{setting_of}
use Rattle.srm_report.specs.ListingSinks.{outlet_under}
use Rattle.srm_program.proofs.ListedTexts.{flushed_rows, left_rows, refused_rows, unflushed_rows}
use Rattle.srm_program.specs.Runs.{MayBreakOff}
use Rattle.srm_program.proofs.listed.flushed.Goals as goal

pub returns-in-Ok-flush-clause-listed : goal.returns-in-Ok-flush-clause-listed
returns-in-Ok-flush-clause-listed g c task rs first fresh given =
    let p = task.session.scenario.now in
    let handed = rw c.in-Ok.is at given in
    let f = c.in-Ok-flush.ensures.flushed in record {
      failures = search rules;
      table = λ seed h.
          let t = (handed.rows seed h).0 in
          flushed_rows g.O.Outlet.taken g.L.Listing.form first fresh.stage fresh.gathered (setting_of p seed) fresh.written
          fresh.room (outlet_under first) refl (Unit {0}) tt c.args.sink.now c.flush.new.self
          (outlet_under c.flush.new.self) t.2.world t.0 refl t.2.last t.2.trace_is handed.stands t.3 f.0 f.1;
      refused = λ seed h. (handed.rows seed h).1;
      left = λ seed h. tt;
    }

pub returns-in-Ok-clause-listed : goal.returns-in-Ok-clause-listed
returns-in-Ok-clause-listed g c task rs first fresh given =
    let p = task.session.scenario.now in
    let handed = rw c.in-Ok.is at given in
    let f = c.in-Err-flush.ensures.flushed in record {
      failures = search rules;
      table = λ seed h.
          let t = (handed.rows seed h).0 in
          unflushed_rows g.O.Outlet.taken g.L.Listing.form first fresh.stage fresh.gathered (setting_of p seed) fresh.written
          fresh.room (outlet_under first) refl (Unit {0}) c.args.sink.now c.flush.new.self
          (outlet_under c.flush.new.self) t.2.world t.0 _ refl t.2.last.reached t.2.trace_is handed.stands t.3 f.0 f.1;
      refused = λ seed h. (handed.rows seed h).1;
      left = λ seed h. tt;
    }

pub returns-clause-listed : goal.returns-clause-listed
returns-clause-listed g c task rs first fresh given =
    let p = task.session.scenario.now in
    let handed = rw c.in-Err.is at given in record {
      failures = handed.failures;
      table = λ seed h.
          let t = (handed.rows seed h).0 in
          refused_rows g.O.Outlet.taken g.L.Listing.form first fresh.stage fresh.gathered (setting_of p seed) fresh.written
          fresh.room (outlet_under first) refl (List ℕ) (Unit {0}) (MayBreakOff p seed task.options)
          c.args.sink.now (outlet_under c.args.sink.now) c.in-Err.fault refl handed.device t handed.stands;
      refused = λ seed h. (handed.rows seed h).1;
      left = λ seed h.
          left_rows g.O.Outlet.taken g.L.Listing.form first fresh.stage fresh.gathered
          (setting_of p seed) fresh.written fresh.room (outlet_under first) refl (List ℕ) (Unit {0})
          (MayBreakOff p seed task.options) c.args.sink.now
          (outlet_under c.args.sink.now) c.in-Err.fault refl handed.device (handed.rows seed h).0 handed.stands;
    }
