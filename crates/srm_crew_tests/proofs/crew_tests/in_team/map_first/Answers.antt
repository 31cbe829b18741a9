use Rattle.srm_crew_tests.proofs.HandedLemmas.{may_watch}
use Rattle.srm_crew_tests.proofs.crew_tests.in_team.map_first.Goals as goal

pub map_by_team-requires-clause-jobs : goal.map_by_team-requires-clause-jobs
map_by_team-requires-clause-jobs g c =
    may_watch _ _ _ _ _ _ c.in_ok-jobs-2.ensures c.in_ok-jobs.ensures c.in_ok-ledger.ensures.links c.counted-seat.ensures
