use Rattle.srm_interfaces.proofs.WatchLemmas.{none_kept}
use Rattle.srm_interfaces.proofs.watch_sink.WatchSink.new.Goals as goal

pub returns-clause-kept : goal.returns-clause-kept
returns-clause-kept g c = none_kept (g.W.Watch.keeps c.args.watch) 0 c.in_ok-kept.kept.items c.in_ok-kept.ensures.none
