use Rattle.std.proofs.Common.{◌≡◌, ℕ, List, take}
use Rattle.std.specs.Prelude.{◌||◌}
use Rattle.reo_rules.specs.Lists.{has_name}
use Rattle.reo_expand.specs.base.Expansion.{has_use, connectors_of}
use Rattle.reo_expand.proofs.programs.noting.note.Given as goal

abbrev pub invariant-loop-declaration : goal.invariant-loop-declaration
invariant-loop-declaration l = (n : List ℕ) → has_name l.uses.names n ≡ (has_name l.initial.uses.names n || has_use (connectors_of (take l.declaration-index l.declarations)) n)
