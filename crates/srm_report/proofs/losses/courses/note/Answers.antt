use Rattle.std.proofs.Common.{◌≡◌, ◌∙◌, ◌++◌, ◌∷◌, [], Some, None, sym, subst}
use Rattle.srm_report.specs.Courses.{TellLosses, name_fixed}
use Rattle.srm_report.proofs.CourseLemmas.{fixed_none, fixed_some}
use Rattle.srm_report.proofs.LossLemmas.{fix_facts}
use Rattle.srm_report.proofs.losses.courses.note.Goals as goal

pub returns-in-None : goal.returns-in-None
returns-in-None c rows after o was =
    let is : name_fixed c.args.row.now ≡ None = sym c.fixed_name.ensures ∙ c.in-None.is in
    fixed_none rows c.args.row.now c.detect.new.losses (c.in_ok-detect.ensures rows after o was) is

pub returns-in_ok-recover-in-Some : goal.returns-in_ok-recover-in-Some
returns-in_ok-recover-in-Some c rows after o was =
    let is : name_fixed c.args.row.now ≡ Some c.in-Some.name = sym c.fixed_name.ensures ∙ c.in-Some.is in
    let facts = fix_facts rows after c.args.row.now o c.in-Some.name is in
    subst (TellLosses (rows ++ c.args.row.now ∷ [])) (sym c.in_ok-recover-in-Some.ensures)
    (fixed_some rows c.args.row.now c.detect.new.losses (c.in_ok-detect.ensures rows after o was) c.in-Some.name is facts.0 facts.1)
