use Rattle.std.proofs.Common.{◌≡◌, ◌∙◌, ◌<◌, [], None, length, get_or, sym, subst, arith}
use Rattle.srm_report.specs.declared.losses.course.Course.{Course}
use Rattle.srm_report.specs.declared.losses.loss.Loss.{Loss}
use Rattle.srm_report.specs.Tallies.{AreTallies, tallied}
use Rattle.srm_report.proofs.TallyLemmas.{all_tallies, no_tally, one_tally_more}
use Rattle.srm_report.proofs.losses.tallies.tallies.Goals as goal

-- in place of an entry that is not there
abbrev none : Loss × Course
none = (record { member = 0; name = record { source = 0; page = 0; number = 0 } }, record { detected = 0; recovered = None })

pub loop-entry-init : goal.loop-entry-init
loop-entry-init c rows lost gone = subst (AreTallies rows []) (sym c.new-all.ensures) (no_tally rows)

pub loop-entry-preserved : goal.loop-entry-preserved
loop-entry-preserved c rows lost gone =
    let es = c.args.entries.now in
    let i = c.loop-entry.entry-index in
    let lt : i < length es = c.loop-entry-test.true in
    let e = get_or es i none in
    one_tally_more rows c.args.left.now gone es lost i none c.loop-entry.all c.put.new.self c.in-Some.after lt c.in_ok-put.ensures.ok
    (c.in-Some.ensures ∙ (λ k. tallied (c.tally-before.ensures k) e.0 e.1 (c.has_left.ensures k))) (c.loop-entry.invariant rows lost gone)

pub returns : goal.returns
returns c rows lost gone =
    let whole : c.loop-entry.entry-index ≡ length c.args.entries.now = omega arith in
    all_tallies rows c.args.left.now gone c.args.entries.now lost c.loop-entry.entry-index c.loop-entry.all whole
    (c.loop-entry.invariant rows lost gone)
