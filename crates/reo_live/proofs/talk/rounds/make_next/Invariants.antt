use Rattle.reo_live.proofs.talk.rounds.make_next.Given as goal

abbrev pub ghosts-make_counted : goal.ghosts-make_counted
ghosts-make_counted g a = record { name = a.blank.name; parts = a.blank.parts }
