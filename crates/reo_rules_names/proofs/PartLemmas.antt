-- The breaks of a pair of types are those of its parts.
use denote.Hole.Carrier.{hidden}
use Rattle.std.proofs.Common.{◌≡◌, ◌∙◌, ℕ, List, [], ◌++◌, refl, ap}
use Rattle.std.specs.List.{flat_map}
use Rattle.reo_trees.specs.declared.types.Shape.TheBlock.{hidden-the_row-TypePair-0}
use Rattle.reo_trees.specs.declared.types.Shape.{Shape}
use Rattle.reo_trees.specs.declared.types.Shape.TheVariants as shapes
use Rattle.reo_trees.specs.declared.types.TypePair.{TypePair}
use Rattle.reo_trees.specs.declared.types.TypeTerm.{TypeTerm}
use Rattle.reo_rules.specs.declared.fault.FlatFault.{FlatFault}
use Rattle.reo_rules.specs.Types.{parts_of}
use Rattle.reo_rules.specs.Twice.{twice_in_part}
use Rattle.reo_rules.specs.Unknown.{unknown_in_part}
use Rattle.reo_rules.proofs.Parts.{over_parts-Pair}

abbrev pub twice_parts : ℕ → Shape → List FlatFault
twice_parts line s = flat_map (λ (part : TypeTerm). twice_in_part part.line part.shape) (parts_of line s)

none_twice : (line : ℕ) (p : TypePair) → twice_in_part line (shapes.Pair p) ≡ []
unfolding hidden-the_row-TypePair-0 hidden
none_twice line p = refl

pub twice_parts-Pair : (line : ℕ) (p : TypePair) → twice_parts line (shapes.Pair p) ≡ twice_parts p.left.line p.left.shape ++ twice_parts p.right.line p.right.shape
twice_parts-Pair line p =
    over_parts-Pair (λ (part : TypeTerm). twice_in_part part.line part.shape) line p
    ∙ ap (λ fs. fs ++ (twice_parts p.left.line p.left.shape ++ twice_parts p.right.line p.right.shape)) (none_twice line p)

abbrev pub unknown_parts : List (List ℕ) → ℕ → Shape → List FlatFault
unknown_parts types line s = flat_map (λ (part : TypeTerm). unknown_in_part types part.line part.shape) (parts_of line s)

none_unknown : (types : List (List ℕ)) (line : ℕ) (p : TypePair) → unknown_in_part types line (shapes.Pair p) ≡ []
unfolding hidden-the_row-TypePair-0 hidden
none_unknown types line p = refl

pub unknown_parts-Pair : (types : List (List ℕ)) (line : ℕ) (p : TypePair) → unknown_parts types line (shapes.Pair p) ≡ unknown_parts types p.left.line p.left.shape ++ unknown_parts types p.right.line p.right.shape
unknown_parts-Pair types line p =
    over_parts-Pair (λ (part : TypeTerm). unknown_in_part types part.line part.shape) line p
    ∙ ap (λ fs. fs ++ (unknown_parts types p.left.line p.left.shape ++ unknown_parts types p.right.line p.right.shape)) (none_unknown types line p)
