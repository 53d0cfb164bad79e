-- The names so far.
use Rattle.std.proofs.Common.{◌≡◌, map, take}
use Rattle.reo_rules_types.proofs.types.copied.Given as goal

abbrev pub invariant-loop-name : goal.invariant-loop-name
invariant-loop-name l = map (λ v. v.items) l.made.items ≡ take l.name-index l.names
