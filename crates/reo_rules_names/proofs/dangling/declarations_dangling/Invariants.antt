-- The connectors so far are in the table, and none of them has a break.
use Rattle.std.proofs.Common.{take}
use Rattle.reo_rules.specs.Dangling.{dangling_in}
use Rattle.reo_rules_names.proofs.LoopLemmas.{Keeps}
use Rattle.reo_rules_names.proofs.dangling.declarations_dangling.Given as goal

abbrev pub invariant-loop-declaration : goal.invariant-loop-declaration
invariant-loop-declaration l = Keeps dangling_in (take l.declaration-index l.declarations) l.connectors
