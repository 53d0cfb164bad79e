-- One level less.
use Rattle.reo_rules_types.proofs.trees.+is_deeper.Given as goal

abbrev pub decreases-is_deeper : goal.decreases-is_deeper
decreases-is_deeper l = l.levels
