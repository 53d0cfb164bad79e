use Rattle.reo_speed.proofs.main.Given as goal

-- The ledger is that of the blank.
abbrev pub ghosts-answer_all : goal.ghosts-answer_all
ghosts-answer_all a = record { name = a.blank.name; parts = a.blank.parts }
