-- A pair has no leaf.
use Rattle.reo_rules_types.proofs.Leaves.{no_leaf}
use Rattle.reo_rules_types.proofs.types.leaf_of.Goals as goal

pub returns-in-Pair : goal.returns-in-Pair
returns-in-Pair c types = no_leaf types c.args.cell.now c.in-Pair.field-0 c.in-Pair.field-1 c.in-Pair.is
