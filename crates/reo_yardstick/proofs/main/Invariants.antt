use Rattle.reo_yardstick.proofs.main.Given as goal

-- The ledger is that of the blank.
abbrev pub ghosts-compare_all : goal.ghosts-compare_all
ghosts-compare_all a = record { name = a.blank.name; parts = a.blank.parts }
