use Rattle.srm_crew_tests.proofs.crew_tests.in_team.map_first.Given as goal

-- the history that was just opened
abbrev pub ghosts-map_by_team : goal.ghosts-map_by_team
ghosts-map_by_team g a = record { book = a.history }
