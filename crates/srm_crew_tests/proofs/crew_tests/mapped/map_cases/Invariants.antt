use Rattle.srm_crew_tests.proofs.crew_tests.mapped.map_cases.Given as goal

abbrev pub invariant-loop-case : goal.invariant-loop-case
invariant-loop-case g l = g.C.BoxCrew.ready l.crew
