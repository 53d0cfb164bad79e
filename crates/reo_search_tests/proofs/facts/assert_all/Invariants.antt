use Rattle.reo_search_tests.proofs.facts.assert_all.Given as goal

-- The ledger is that of the blank.
abbrev pub ghosts-is_counted : goal.ghosts-is_counted
ghosts-is_counted a c = record { name = c.blank.name; parts = c.blank.parts }
