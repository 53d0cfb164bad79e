-- The parts of a type of pairs.
use denote.Hole.Carrier.{hidden}
use Rattle.std.proofs.Common.{◌≡◌, ◌∙◌, ℕ, List, ◌∷◌, ◌++◌, refl, ap}
use Rattle.std.specs.List.{flat_map}
use Rattle.reo_values.specs.declared.kindred.Kindred.TheVariants as kinds
use Rattle.reo_trees.specs.declared.types.Shape.TheBlock.{hidden-the_row-TypePair-0}
use Rattle.reo_trees.specs.declared.types.Shape.TheVariants as shapes
use Rattle.reo_trees.specs.declared.types.TypePair.{TypePair}
use Rattle.reo_trees.specs.declared.types.TypeTerm.{TypeTerm}
use Rattle.reo_rules.specs.declared.fault.FlatFault.{FlatFault}
use Rattle.reo_rules.specs.Types.{Typed, parts_of, resolved}
use Rattle.reo_rules.proofs.AfterLemmas.{flat_map-append}

pub parts_of-Pair : (line : ℕ) (p : TypePair) → parts_of line (shapes.Pair p) ≡ record { line = line; shape = shapes.Pair p } ∷ parts_of p.left.line p.left.shape ++ parts_of p.right.line p.right.shape
unfolding hidden-the_row-TypePair-0 hidden
parts_of-Pair line p = refl

-- The breaks of a pair are its own, and then those of its parts.
pub over_parts-Pair : (f : TypeTerm → List FlatFault) (line : ℕ) (p : TypePair)
    → flat_map f (parts_of line (shapes.Pair p)) ≡ f (record { line = line; shape = shapes.Pair p }) ++ (flat_map f (parts_of p.left.line p.left.shape) ++ flat_map f (parts_of p.right.line p.right.shape))
over_parts-Pair f line p =
    ap (flat_map f) (parts_of-Pair line p)
    ∙ ap (λ fs. f (record { line = line; shape = shapes.Pair p }) ++ fs) (flat_map-append f (parts_of p.left.line p.left.shape) (parts_of p.right.line p.right.shape))

-- What a written pair stands for.
pub resolved-Pair : (known : List Typed) (p : TypePair) → resolved known (shapes.Pair p) ≡ kinds.Pair (record { left = resolved known p.left.shape; right = resolved known p.right.shape })
unfolding hidden-the_row-TypePair-0 hidden
resolved-Pair known p = refl
