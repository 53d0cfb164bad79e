-- The names so far.
use Rattle.std.proofs.Common.{◌≡◌, map, take}
use Rattle.reo_rules_types.proofs.types.names_of.Given as goal

abbrev pub invariant-loop-name : goal.invariant-loop-name
invariant-loop-name l = l.made ≡ map (λ v. v.items) (take l.name-index l.names)
