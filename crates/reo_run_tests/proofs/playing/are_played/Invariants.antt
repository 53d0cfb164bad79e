use Rattle.reo_run_tests.proofs.playing.are_played.Given as goal

-- The ledger is that of the blank.
abbrev pub ghosts-plays : goal.ghosts-plays
ghosts-plays a = record { name = a.blank.name; parts = a.blank.parts }
