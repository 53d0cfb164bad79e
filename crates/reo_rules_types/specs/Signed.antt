-- The types of the parameters of connectors, by number.
use Rattle.std.specs.Prelude.{◌≡◌, ℕ, List, [], ◌∷◌, map, Some, slice_get}
use Rattle.reo_values.specs.declared.kindred.Kindred.{Kindred}
use Rattle.reo_trees.specs.declared.programs.Parameter.{Parameter}
use Rattle.reo_trees.specs.declared.programs.Connector.{Connector}
use Rattle.reo_rules.specs.Types.{Typed, resolved}

-- The numbers are those of the types, one by one.
abbrev pub AreOf : List Kindred → List ℕ → List Kindred → Type 0
AreOf types [] [] = Unit {0}
AreOf types (n ∷ ns) (k ∷ ks) = (slice_get types n ≡ Some k) × AreOf types ns ks
AreOf types _ _ = ⊥

-- The types of the parameters of a connector.
abbrev pub parameter_types : List Typed → Connector → List Kindred
parameter_types known c = map (λ (p : Parameter). resolved known p.term.shape) c.parameters
