use Rattle.std.proofs.Common.{◌∙◌, ◌++◌, sym, ap, append_assoc, append-nil}
use Rattle.std.specs.Vec.Iter.{into_iter_items}
use Rattle.srm_engine.specs.Groups.{all_in}
use Rattle.srm_engine.proofs.SeenLemmas.{no_items}
use Rattle.srm_engine.proofs.watched_groups.in_one.Goals as goal

pub loop-own-preserved : goal.loop-own-preserved
loop-own-preserved g c =
    let all = c.loop-own.all.items in
    let more = into_iter_items c.next.new.self in (
      tt,
      tt,
      ap (λ l. l ++ all_in more) {y = all ++ c.in-Some.own.items} c.in_ok-append.ensures.items
          ∙ append_assoc all c.in-Some.own.items (all_in more)
          ∙ ap (λ gs. all ++ all_in gs) (sym c.in-Some.ensures.steps.0) ∙ c.loop-own.invariant.2,
    )

pub returns : goal.returns
returns g c =
    let none = no_items c.loop-own.own-iterator c.in-None.ensures.steps.0 in
    sym (append-nil c.loop-own.all.items) ∙ ap (λ gs. c.loop-own.all.items ++ all_in gs) (sym none)
    ∙ c.loop-own.invariant.2
