-- The names so far.
use Rattle.std.proofs.Common.{◌≡◌, ◌++◌, List, ℕ, length, map, take}
use Rattle.reo_trees.specs.declared.programs.Parameter.{Parameter}
use Rattle.reo_rules.specs.Scopes.{parameter_names}
use Rattle.reo_flat.specs.Unfolding.{flat_name}
use Rattle.reo_unfold.proofs.names.flat_names.Given as goal

abbrev pub invariant-loop-name : goal.invariant-loop-name
invariant-loop-name l =
    (ps : List Parameter) (rest : List (List ℕ)) → l.names ≡ parameter_names ps ++ rest → length ps ≡ l.parameters → l.made ≡ map (flat_name l.path ps l.arguments) (take l.name-index l.given)
