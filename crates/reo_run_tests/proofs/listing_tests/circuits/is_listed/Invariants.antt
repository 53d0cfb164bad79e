use Rattle.reo_run_tests.proofs.listing_tests.circuits.is_listed.Given as goal

-- The ledger is that of the blank.
abbrev pub ghosts-listing : goal.ghosts-listing
ghosts-listing a = record { name = a.blank.name; parts = a.blank.parts }
