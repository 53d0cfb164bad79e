-- The names so far are those that were noted.
use Rattle.std.proofs.Common.{◌≡◌, ℕ, List, map, take}
use Rattle.reo_rules.specs.Lists.{has_name}
use Rattle.reo_rules_types.proofs.types.symbols_of.Given as goal

abbrev pub invariant-loop-name : goal.invariant-loop-name
invariant-loop-name l = (name : List ℕ) → has_name l.symbols name ≡ has_name (map (λ v. v.items) (take l.name-index l.name-items)) name
