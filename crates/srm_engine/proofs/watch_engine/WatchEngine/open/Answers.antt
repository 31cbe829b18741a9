use Rattle.std.proofs.Common.{◌∙◌, ap}
use Rattle.srm_engine.specs.Groups.{all_in, sizes}
use Rattle.srm_interfaces.proofs.WatchLemmas.{none_kept}
use Rattle.srm_engine.proofs.watch_engine.WatchEngine.open.Goals as goal

pub returns-clause-stands : goal.returns-clause-stands
returns-clause-stands g c = record {
  under_way = c.in_ok-engine.ensures.stands;
  each = c.in_ok-kept.ensures.each ∙ ap sizes c.as_slice.ensures.value;
}

pub returns-clause-none : goal.returns-clause-none
returns-clause-none g c = none_kept (g.W.Watch.keeps c.args.watch.now) 0 (all_in c.in_ok-kept.kept.items) c.in_ok-kept.ensures.none
