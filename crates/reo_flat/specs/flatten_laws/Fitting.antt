-- Primitives that fit the types of their nodes.
use Rattle.std.specs.Prelude.{◌≡◌, Some, List, [], ◌∷◌, map}
use Rattle.std.specs.List.{All}
use Rattle.reo_values.specs.declared.value.Value.{Value}
use Rattle.reo_values.specs.declared.kindred.Kindred.{Kindred}
use Rattle.reo_values.specs.Kind.{IsIn}
use Rattle.reo_values.specs.Valid.{IsValid}
use Rattle.reo_exprs.specs.WellFormed.{IsWellFormed}
use Rattle.reo_exprs.specs.Valued.{value_of_expr}
use Rattle.reo_buffers.specs.Stored.{IsBuffer}
use Rattle.reo_kinds.specs.declared.kind.Kind.{Kind}
use Rattle.reo_kinds.specs.declared.kind.Kind.TheVariants as primitives
use Rattle.reo_trees.specs.declared.programs.Program.{Program}
use Rattle.reo_syntax_laws.specs.trees_laws.Spelled.{IsSpelled}
use Rattle.reo_rules.specs.Types.{Typed, type_named}
use Rattle.reo_rules.specs.Scopes.{connectors_of}
use Rattle.reo_flat.specs.Unfolding.{Placed}
use Rattle.reo_flat.specs.Flat.{placed_of}
use Rattle.reo_flat.specs.Refusals.{breaks}
use Rattle.reo_flat.specs.flatten_laws.Plain.{HasPlainNames}
use Rattle.reo_flat.specs.flatten_laws.NodeTypes.{node_types_of}

-- The primitive fits nodes of these types, in the order of its ends: a port and what passes items
-- on have the type of their nodes, what keeps items holds items of it, and a map's value is in the
-- type of its second node for each item of that of its first. Nothing else stands between nodes.
abbrev pub Fits : Kind → List Kindred → Type 0
Fits (primitives.Writer port) (k ∷ []) = port.kindred ≡ k
Fits (primitives.Taker port) (k ∷ []) = Unit {0}
Fits primitives.Sync (x ∷ y ∷ []) = x ≡ y
Fits primitives.Lossy (x ∷ y ∷ []) = x ≡ y
Fits primitives.SyncDrain (x ∷ y ∷ []) = Unit {0}
Fits primitives.AsyncDrain (x ∷ y ∷ []) = Unit {0}
Fits (primitives.Store b) (x ∷ y ∷ []) = (x ≡ y) × All (λ v. IsIn v x) b.items × IsBuffer b
Fits (primitives.Shift b) (x ∷ y ∷ []) = (x ≡ y) × All (λ v. IsIn v x) b.items × IsBuffer b
Fits (primitives.Variable held) (x ∷ y ∷ []) = (x ≡ y) × ((v : Value) → held ≡ Some v → IsIn v x)
Fits (primitives.Quota left) (x ∷ y ∷ []) = x ≡ y
Fits (primitives.Filter rule) (x ∷ y ∷ []) = (x ≡ y) × (rule.of ≡ x) × IsWellFormed rule.expr
Fits (primitives.Map rule) (x ∷ y ∷ []) = (rule.of ≡ x) × IsWellFormed rule.expr × ((v : Value) → IsIn v x → IsIn (value_of_expr rule.expr v) y)
Fits _ _ = ⊥

-- The types of what is placed: those of the nodes that it is at.
abbrev pub kindreds_at : List Typed → Placed → List Kindred
kindreds_at types p = map (type_named types) p.nodes

-- All that is placed fits its nodes, in a program as a text says it that breaks no rule.
abbrev pub PrimitivesFit : Type 0
PrimitivesFit =
    (p : Program) → IsSpelled p → All HasPlainNames (connectors_of p.declarations)
    → breaks p.declarations ≡ []
    → All (λ (q : Placed). Fits q.kind (kindreds_at (node_types_of p.declarations) q)) (placed_of p.declarations)

-- And the types of its nodes are valid.
abbrev pub TypesAreValid : Type 0
TypesAreValid =
    (p : Program) → IsSpelled p → breaks p.declarations ≡ []
    → All (λ (e : Typed). IsValid e.kindred) (node_types_of p.declarations)
