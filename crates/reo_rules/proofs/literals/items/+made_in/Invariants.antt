-- It goes down the type.
use Rattle.reo_values.proofs.Pairs.{levels}
use Rattle.reo_rules.proofs.literals.items.+made_in.Given as goal

abbrev pub decreases-made_in : goal.decreases-made_in
decreases-made_in l = levels l.kindred.now
