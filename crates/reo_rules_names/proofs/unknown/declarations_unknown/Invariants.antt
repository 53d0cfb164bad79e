-- The types and the connectors so far are in the tables, and no declaration so far has a break.
use Rattle.std.proofs.Common.{take}
use Rattle.reo_rules_names.proofs.UnknownLemmas.{Knows}
use Rattle.reo_rules_names.proofs.unknown.declarations_unknown.Given as goal

abbrev pub invariant-loop-declaration : goal.invariant-loop-declaration
invariant-loop-declaration l = Knows (take l.declaration-index l.declarations) l.types l.connectors
