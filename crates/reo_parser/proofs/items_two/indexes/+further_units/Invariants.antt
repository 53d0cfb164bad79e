use Rattle.reo_parser.proofs.items_two.indexes.+further_units.Given as goal

abbrev pub decreases-further_units : goal.decreases-further_units
decreases-further_units l = l.most
