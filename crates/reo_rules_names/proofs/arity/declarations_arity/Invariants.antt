-- The connectors so far are in the table, and no use in them has a break.
use Rattle.std.proofs.Common.{take}
use Rattle.reo_rules.specs.Arity.{arity_in}
use Rattle.reo_rules_names.proofs.LoopLemmas.{Keeps}
use Rattle.reo_rules_names.proofs.arity.declarations_arity.Given as goal

abbrev pub invariant-loop-declaration : goal.invariant-loop-declaration
invariant-loop-declaration l = Keeps arity_in (take l.declaration-index l.declarations) l.connectors
