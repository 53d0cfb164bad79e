-- What is known of the declarations before a place.
use Rattle.std.specs.Prelude.{◌≡◌, ℕ, List, [], ◌∷◌, ◌++◌}
use Rattle.reo_values.specs.declared.kindred.Kindred.{Kindred}
use Rattle.reo_trees.specs.declared.types.Shape.{Shape}
use Rattle.reo_trees.specs.declared.programs.Parameter.{Parameter}
use Rattle.reo_trees.specs.declared.programs.Connector.{Connector}
use Rattle.reo_trees.specs.declared.programs.Declaration.{Declaration}
use Rattle.reo_rules.specs.Types.{Typed, types_of, resolved}
use Rattle.reo_rules.specs.Scopes.{connectors_of, connector_names}
use Rattle.reo_rules_types.specs.declared.known.Known.{Known}
use Rattle.reo_rules_types.specs.Scoped.{typed}
use Rattle.reo_rules_types.specs.Signed.{AreOf, parameter_types}

-- What a written type stands for stays the same, whatever is declared behind.
abbrev pub IsSettled : List Typed → Shape → Type 0
IsSettled known shape = (more : List Typed) → resolved (known ++ more) shape ≡ resolved known shape

abbrev pub AreSettled : List Typed → List Parameter → Type 0
AreSettled known [] = Unit {0}
AreSettled known (p ∷ ps) = IsSettled known p.term.shape × AreSettled known ps

-- The numbers are those of the types of the connectors' parameters, which are settled.
abbrev pub AreSigned : List Kindred → List Typed → List (List ℕ) → List Connector → Type 0
AreSigned types known [] [] = Unit {0}
AreSigned types known (s ∷ ss) (c ∷ cs) = AreOf types s (parameter_types known c) × AreSettled known c.parameters × AreSigned types known ss cs
AreSigned types known _ _ = ⊥

-- What is known is what these declarations declare.
pub record Stands (ds : List Declaration) (types : List Kindred) (known : Known) : Type 0 where
  pub types_are : typed types known.declared ≡ types_of ds
  pub names_are : known.connectors ≡ connector_names ds
  pub signed : AreSigned types (types_of ds) known.signatures (connectors_of ds)
