-- The items so far.
use Rattle.std.proofs.Common.{◌≡◌, take}
use Rattle.reo_rules.specs.literals.Items.{items_of}
use Rattle.reo_rules.proofs.literals.items.items_of.Given as goal

abbrev pub invariant-loop-literal : goal.invariant-loop-literal
invariant-loop-literal l = l.made ≡ items_of l.kindred (take l.literal-index l.literals)
