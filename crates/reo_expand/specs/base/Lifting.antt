-- What lifted programs stand for.
use Rattle.std.specs.Prelude.{◌≡◌, ℕ, nat_lt, cond, Ok, Err, length, flat_map}
use Rattle.reo_trees.specs.declared.programs.Connector.{Connector}
use Rattle.reo_trees.specs.declared.programs.Program.{Program}
use Rattle.reo_expand.specs.declared.base.fault.ExpandFault.TheVariants as faults
use Rattle.reo_expand.specs.base.Expansion.{expansion, connectors_of}
use Rattle.reo_expand.specs.base.Steps.{most_steps, walk_of}
use Rattle.reo_expand.specs.base.Lifted.{lifted}

-- A lifted program stands for the program.
abbrev pub LiftedStandsForItself : Type 0
LiftedStandsForItself = (p : Program) → expansion (lifted p) ≡ p

abbrev pub item_count : Program → ℕ
item_count p = length (flat_map (λ (c : Connector). c.items) (connectors_of p.declarations))

-- It is refused only where it has more than 65,536 items.
abbrev pub LiftedIsWalked : Type 0
LiftedIsWalked = (p : Program) → walk_of (lifted p) ≡ cond (nat_lt most_steps (item_count p)) (Err faults.TooMany) (Ok (item_count p))
