use Rattle.srm_team_tests.proofs.team_tests.idle_once_more.Given as goal

-- the history that was just opened
abbrev pub ghosts-idle : goal.ghosts-idle
ghosts-idle g a = record { book = a.opened }
