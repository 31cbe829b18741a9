use Rattle.std.proofs.Common.{◌++◌, ◌∷◌, [], List, ◌∙◌, ap, arith}
use Rattle.srm_member.specs.declared.row.Row.{Row}
use Rattle.srm_cell.proofs.Putting.{last_is}
use Rattle.srm_cell.proofs.cell.Cell.step.Goals as goal

pub returns-in-Ok-true : goal.returns-in-Ok-true
returns-in-Ok-true g c =
    let put = rw c.in-Ok-true.field-0-test at c.in-Ok-true.ensures in
    let one = put.2 ∙ ap (λ (l : List Row). l ++ put.0 ∷ []) c.new-rows.ensures.items in
    rw (last_is _ _ put.0 c.pop.result one (omega (arith, c.step_onto.new.rows.ok.0)) (c.pop.ensures.value put.0)) put.1

pub returns-in-Ok-false : goal.returns-in-Ok-false
returns-in-Ok-false g c = (rw c.in-Ok-false.field-0-test at c.in-Ok-false.ensures).0
