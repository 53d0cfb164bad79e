-- The parts of a type have lower numbers.
use Rattle.reo_rules_types.proofs.trees.+tree_of.Given as goal

abbrev pub decreases-tree_of : goal.decreases-tree_of
decreases-tree_of l = l.number
