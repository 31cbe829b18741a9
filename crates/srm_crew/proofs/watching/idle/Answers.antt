use Rattle.std.proofs.Common.{◌∙◌, ap, length, refl}
use Rattle.srm_ledger.specs.Counts.{nothing_at}
use Rattle.srm_crew.proofs.WatchedCells.{idle_all}
use Rattle.srm_crew.proofs.watching.idle.Goals as goal

pub returns : goal.returns
returns g c =
    let net = c.args.work.now.session.net.now in
    let job = c.args.job in
    idle_all g.M.Participant.plain (g.W.Watch.keeps c.args.work.now.watch) c.args.work.now.session.scenario.now net job
    (g.W.Watch.closes c.args.work.now.watch) (record {
      place = job.place;
      cells = job.cells;
      kept = job.kept;
      sent = c.new.result;
      crossings = c.none.result;
    })
    (g.met.W.Watch.may_stand c.args.work.now.watch) c.requires.job c.requires.sound
    c.requires.idle refl refl refl c.new.ensures.items (c.none.ensures ∙ ap (λ ls. nothing_at (length ls)) c.links.ensures.links)
