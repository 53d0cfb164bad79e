-- The names so far.
use Rattle.std.proofs.Common.{take}
use Rattle.reo_rules_names.specs.SameNames.{SameNames}
use Rattle.reo_rules_names.proofs.types.set_of.Given as goal

abbrev pub invariant-loop-name : goal.invariant-loop-name
invariant-loop-name l = SameNames l.set (take l.name-index l.names)
