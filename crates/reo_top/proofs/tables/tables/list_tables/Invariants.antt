use Rattle.reo_top.proofs.tables.tables.list_tables.Given as goal

abbrev pub ghosts-list_counted : goal.ghosts-list_counted
ghosts-list_counted a = record { name = a.blank.name; parts = a.blank.parts }
