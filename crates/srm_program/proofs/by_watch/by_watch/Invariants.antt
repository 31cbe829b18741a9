use Rattle.srm_program.proofs.by_watch.by_watch.Given as goal

-- the history that was just opened
abbrev pub ghosts-by_team : goal.ghosts-by_team
ghosts-by_team g a = record { book = a.opened }
