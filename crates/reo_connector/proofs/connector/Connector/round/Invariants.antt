use Rattle.reo_connector.proofs.connector.Connector.round.Given as goal

abbrev pub ghosts-round_counted : goal.ghosts-round_counted
ghosts-round_counted a = record { name = a.blank.name; parts = a.blank.parts }
