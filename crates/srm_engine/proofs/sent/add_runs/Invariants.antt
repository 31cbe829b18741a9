use Rattle.std.proofs.Common.{◌≡◌, ◌++◌}
use Rattle.std.specs.Vec.Iter.{into_iter_items}
use Rattle.srm_interfaces.specs.Grouped.{all_in}
use Rattle.srm_engine.proofs.sent.add_runs.Given as goal

-- what is in the lists, in the run and to come
abbrev pub invariant-loop-one : goal.invariant-loop-one
invariant-loop-one l =
    all_in l.lists.items ++ (l.run.items ++ into_iter_items l.one-iterator) ≡ all_in l.fn.lists.items ++ l.fn.sent.items
