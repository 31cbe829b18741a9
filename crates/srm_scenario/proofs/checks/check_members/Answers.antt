use Rattle.std.proofs.Common.{ℕ, ◌≡◌, ◌+◌, ◌∙◌, true, arith, slice_set, sym, subst, take}
use Rattle.std.proofs.lemmas.Grind.{common_steps}
use Rattle.srm_scenario.specs.Faults.{fits_member}
use Rattle.srm_scenario.specs.Taken.{MarksNodes}
use Rattle.srm_scenario.proofs.MarkedNodes.{marks_next, node_within}
use Rattle.srm_scenario.proofs.checks.check_members.Goals as goal

pub loop-place-preserved : goal.loop-place-preserved
loop-place-preserved c =
    let until = c.args.until in
    let nodes = c.args.nodes in
    let star = c.args.star in
    let entries = c.args.entries.now in
    let place = c.loop-place.place in
    let taken = c.loop-place.taken.items in
    let e = c.index-entries-place.result in
    let fits : fits_member until nodes star (take place entries) e ≡ true =
    sym (c.fits_member.ensures (take place entries) (subst (MarksNodes (take place entries)) (sym c.deref.ensures.value)
    c.loop-place.invariant.marks)) ∙ c.if-not-fits_member.false in
    let within = node_within until nodes star (take place entries) e fits in
    record {
      faults = grind (arith, common_steps);
      size = grind (arith, common_steps);
      marks = subst (λ (k : ℕ). MarksNodes (take (place + 1) entries) (slice_set taken k true)) (sym c.from-in-loop-place.ensures)
          (marks_next entries place e taken c.loop-place-test.true c.index-entries-place.is
          (omega (arith, within, c.loop-place.invariant.size))
          c.loop-place.invariant.marks);
    }
