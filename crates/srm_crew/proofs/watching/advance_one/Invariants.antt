use Rattle.std.proofs.Common.{◌≡◌, All, length, take, drop}
use Rattle.srm_cell.specs.Hearing.{IsSent}
use Rattle.srm_crew.specs.Watched.{IsOfMember}
use Rattle.srm_crew.proofs.WatchedCells.{CellsSoFar}
use Rattle.srm_crew.proofs.watching.advance_one.Given as goal

-- the cells so far have run, and the watch took in their rows; the others, and what is kept of them, are as they were
abbrev pub invariant-loop-cell : goal.invariant-loop-cell
invariant-loop-cell g l =
    (l.index ≡ l.cell-index)
    × (length l.cell-items ≡ length l.fn.job.kept.items)
    × (length l.kept.items ≡ length l.fn.job.kept.items)
    × (drop l.cell-index l.kept.items ≡ drop l.cell-index l.fn.job.kept.items)
    × All (IsOfMember g.M.Participant.plain (length l.work.session.net.now.hosts)) (drop l.cell-index l.cell-items)
    × CellsSoFar g.M.Participant.plain (g.W.Watch.keeps l.work.watch) l.work.session.scenario.now l.work.session.net.now l.fn.job
    (take l.cell-index l.cell-items) (drop l.cell-index l.cell-items) (take l.cell-index l.fn.job.kept.items)
    (take l.cell-index l.kept.items) l.gathered.sent.items
    × All (λ x. IsSent l.work.session.scenario.now l.work.session.net.now x) l.gathered.sent.items
