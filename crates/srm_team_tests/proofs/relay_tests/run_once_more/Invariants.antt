use Rattle.srm_team_tests.proofs.relay_tests.run_once_more.Given as goal

-- the history that was just opened
abbrev pub ghosts-run : goal.ghosts-run
ghosts-run g a = record { book = a.opened }
