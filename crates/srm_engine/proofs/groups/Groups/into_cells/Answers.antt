use Rattle.std.proofs.Common.{◌∙◌, ◌++◌, sym, ap, append_assoc, append-nil}
use Rattle.std.specs.Vec.Iter.{into_iter_items}
use Rattle.srm_engine.specs.Groups.{all_in}
use Rattle.srm_engine.proofs.SeenLemmas.{no_items}
use Rattle.srm_engine.proofs.groups.Groups.into_cells.Goals as goal

pub loop-group-preserved : goal.loop-group-preserved
loop-group-preserved g c =
    let cells = c.loop-group.cells.items in
    let more = into_iter_items c.next.new.self in (
      tt,
      tt,
      ap (λ l. l ++ all_in more) {y = cells ++ c.in-Some.group.items} c.in_ok-append.ensures.items
          ∙ append_assoc cells c.in-Some.group.items (all_in more)
          ∙ ap (λ gs. cells ++ all_in gs) (sym c.in-Some.ensures.steps.0) ∙ c.loop-group.invariant.2,
    )

pub returns : goal.returns
returns g c =
    let none = no_items c.loop-group.group-iterator c.in-None.ensures.steps.0 in
    sym (append-nil c.loop-group.cells.items) ∙ ap (λ gs. c.loop-group.cells.items ++ all_in gs) (sym none)
    ∙ c.loop-group.invariant.2
