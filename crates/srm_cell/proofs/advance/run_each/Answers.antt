use Rattle.std.proofs.Common.{◌≡◌, ◌∙◌, ◌<◌, ◌+◌, ◌++◌, ◌∷◌, [], ℕ, List, Result, Ok, Err, length, take, drop, get_or, refl, sym, subst}
use Rattle.std.proofs.Common.{ap, arith}
use Rattle.std.proofs.Math.Seq.{take-length}
use Rattle.std.proofs.lemmas.List.{take_more, take_more_set, drop-set-lt, length-set}
use Rattle.std.proofs.lemmas.List.Elements.{All-get_or}
use Rattle.srm_member.specs.Record.{Record}
use Rattle.srm_member.specs.declared.row.Row.{Row}
use Rattle.srm_cell.specs.declared.cell.Cell.{Cell}
use Rattle.srm_cell.specs.declared.fault.CellFault.{CellFault}
use Rattle.srm_cell.specs.Views.{IsSoundCell}
use Rattle.srm_cell.specs.Jobs.{AreSound, AskMemory, RanEach, Runs, TellsFault, TellsRun, own_cells}
use Rattle.srm_cell.proofs.Fronts.{at_front, after_front, about_one}
use Rattle.srm_cell.proofs.Pushes.{pushed_if}
use Rattle.srm_cell.proofs.SoFar.{ran_more, kept_after, fault_after}
use Rattle.srm_cell.proofs.advance.run_each.Goals as goal

-- what the run of a cell tells of the cell as it was at first
told : {M : Type 0} (f : M → Record) (till : ℕ) (first old : List (Cell M)) (i : ℕ) (d after : Cell M) (r : Result (List Row) CellFault)
    → AreSound f first
    → i < length first → i < length old → drop i old ≡ drop i first → Runs f till (get_or old i d) r after
    → TellsRun f till (get_or first i d) r after
told f till first old i d after r h before within same run =
    subst (λ c. Runs f till c r after) (at_front old first i d within before same) run (All-get_or (IsSoundCell f) first i d before h)

pub loop-cell-init : goal.loop-cell-init
loop-cell-init g c = (refl, refl, λ h. subst (λ rs. RanEach g.M.Participant.plain c.args.till [] rs []) (sym c.new-rows.ensures.items) tt)

pub loop-cell-preserved : goal.loop-cell-preserved
loop-cell-preserved g c =
    let f = g.M.Participant.plain in
    let i = c.loop-cell.cell-index in
    let old = c.loop-cell.cells in
    let first = c.args.cells.now in
    let d = c.cell-item.result in
    let after = c.run.new.self in
    let many = c.loop-cell.invariant.0 in
    let test = c.loop-cell-test.true in
    let within : i < length old = omega arith in
    let before : i < length first = omega arith in
    let rows = pushed_if c.push.result (c.loop-cell.rows.items ++ c.in-Ok.new ∷ []) c.loop-cell.rows.items c.push.new.self.items
    (sym c.is_err.ensures.value ∙ c.if-is_err.false) c.push.ensures.items in (
      length-set old i after ∙ many,
      drop-set-lt (i + 1) old i after (omega arith) ∙ after_front old first i d within before c.loop-cell.invariant.1,
      λ h. rw (rows, take_more first i d before, take_more_set old i after within)
          (ran_more f c.args.till (take i first) c.loop-cell.rows.items (take i old) (get_or first i d) c.in-Ok.new after
          (c.loop-cell.invariant.2 h)
          (told f c.args.till first old i d after (Ok c.in-Ok.new) h before within c.loop-cell.invariant.1 c.in-Ok.ensures)),
    )

pub returns-in-Err-clause-many : goal.returns-in-Err-clause-many
returns-in-Err-clause-many g c = length-set c.loop-cell.cells c.loop-cell.cell-index c.run.new.self ∙ c.loop-cell.invariant.0

pub returns-then-is_err-clause-many : goal.returns-then-is_err-clause-many
returns-then-is_err-clause-many g c = length-set c.loop-cell.cells c.loop-cell.cell-index c.run.new.self ∙ c.loop-cell.invariant.0

pub returns-clause-many : goal.returns-clause-many
returns-clause-many g c = c.loop-cell.invariant.0

pub returns-in-Err-clause-runs : goal.returns-in-Err-clause-runs
returns-in-Err-clause-runs g c = λ h.
    let f = g.M.Participant.plain in
    let i = c.loop-cell.cell-index in
    let old = c.loop-cell.cells in
    let first = c.args.cells.now in
    let d = c.cell-item.result in
    let many = c.loop-cell.invariant.0 in
    let test = c.loop-cell-test.true in
    let within : i < length old = omega arith in
    let before : i < length first = omega arith in
    subst (λ cs. TellsFault c.args.till (own_cells f cs) c.in-Err.fault) (about_one first i d before)
    (fault_after f c.args.till (take i first) c.loop-cell.rows.items (take i old) (get_or first i d) c.run.new.self (drop (i + 1) first)
    c.in-Err.fault (c.loop-cell.invariant.2 h)
    (told f c.args.till first old i d c.run.new.self (Err c.in-Err.fault) h before within c.loop-cell.invariant.1 c.in-Err.ensures))

pub returns-then-is_err-clause-runs : goal.returns-then-is_err-clause-runs
returns-then-is_err-clause-runs g c = λ h.
    let f = g.M.Participant.plain in
    let i = c.loop-cell.cell-index in
    let old = c.loop-cell.cells in
    let first = c.args.cells.now in
    let d = c.cell-item.result in
    let many = c.loop-cell.invariant.0 in
    let test = c.loop-cell-test.true in
    let within : i < length old = omega arith in
    let before : i < length first = omega arith in
    subst (λ cs. AskMemory c.args.till (own_cells f cs)) (about_one first i d before)
    (kept_after f c.args.till (take i first) c.loop-cell.rows.items (take i old) (get_or first i d) c.in-Ok.new c.run.new.self
    (drop (i + 1) first) (c.loop-cell.invariant.2 h)
    (told f c.args.till first old i d c.run.new.self (Ok c.in-Ok.new) h before within c.loop-cell.invariant.1 c.in-Ok.ensures))

pub returns-clause-runs : goal.returns-clause-runs
returns-clause-runs g c = λ h.
    let f = g.M.Participant.plain in
    let i = c.loop-cell.cell-index in
    let old = c.loop-cell.cells in
    let first = c.args.cells.now in
    let many = c.loop-cell.invariant.0 in
    let past = c.loop-cell-test.false in
    let within = c.loop-cell.auto.cell-index-end in
    let all : i ≡ length old = omega arith in
    let whole : i ≡ length first = omega arith in
    subst (λ xs. RanEach f c.args.till xs c.loop-cell.rows.items old) (ap (λ n. take n first) whole ∙ take-length first)
    (subst (λ xs. RanEach f c.args.till (take i first) c.loop-cell.rows.items xs) (ap (λ n. take n old) all ∙ take-length old)
    (c.loop-cell.invariant.2 h))
