-- What a written type of pairs stands for.
use Rattle.std.proofs.Common.{◌≡◌, ◌∙◌, ℕ, List, Some, slice_get, sym, ap}
use Rattle.reo_values.specs.declared.kindred.Kindred.{Kindred}
use Rattle.reo_values.specs.declared.kindred.Kindred.TheVariants as kinds
use Rattle.reo_trees.specs.declared.types.Shape.TheVariants as shapes
use Rattle.reo_trees.specs.declared.types.TypePair.{TypePair}
use Rattle.reo_rules.specs.Types.{resolved}
use Rattle.reo_rules.proofs.Parts.{resolved-Pair}
use Rattle.reo_rules_types.specs.declared.cell.TypeParts.TheVariants as cells
use Rattle.reo_rules_types.specs.Cells.{kindred_of, Keeps}
use Rattle.reo_rules_types.specs.Scoped.{typed, AreKnown}
use Rattle.reo_rules_types.proofs.Kept.{at_told, at_within, kept_at}
use Rattle.reo_rules_types.proofs.Scoped.{typed_kept}

-- The pair of the numbers of its parts.
pub pair_resolved : (old mid new : List Kindred) (es : List (List ℕ × ℕ)) → AreKnown old es → Keeps old mid → Keeps mid new → (p : TypePair) (l r : ℕ)
    → slice_get mid l ≡ Some (resolved (typed old es) p.left.shape) → slice_get new r ≡ Some (resolved (typed mid es) p.right.shape) → kindred_of new (cells.Pair l r) ≡ resolved (typed old es) (shapes.Pair p)
pair_resolved old mid new es known first second p l r left right =
    (λ i. kinds.Pair (record {
      left = (kept_at mid new second l (at_within mid l _ left) ∙ at_told mid l _ left) i;
      right = (at_told new r _ right ∙ ap (λ k. resolved k p.right.shape) (typed_kept old mid first es known)) i;
    }))
    ∙ sym (resolved-Pair (typed old es) p)
