-- Types by name, and what a written type of pairs stands for.
use denote.Hole.Carrier.{hidden}
use Rattle.std.proofs.Common.{Bor, subst, IfSome, option_copied, ◌≡◌, ◌∙◌, ℕ, ◌<◌, ◌≤◌, List, take, Option, Some, None, position, refl, sym, ap, bytes_eq}
use Rattle.std.specs.Prelude.{slice_get, option_map, unwrap_or}
use Rattle.std.proofs.lemmas.Option.{slice_get-map, get_or_from_slice_get, slice_get_within}
use Rattle.std.specs.List.{All}
use Rattle.reo_rules.specs.literals.Items.{HasFewNames}
use Rattle.reo_values.specs.declared.kindred.Kindred.{Kindred}
use Rattle.reo_values.specs.declared.kindred.Kindred.TheVariants as kinds
use Rattle.reo_trees.specs.declared.types.Shape.TheBlock.{hidden-the_row-TypePair-0}
use Rattle.reo_trees.specs.declared.types.Shape.TheVariants as shapes
use Rattle.reo_trees.specs.declared.types.TypePair.{TypePair}
use Rattle.reo_rules.specs.Types.{Typed, type_named}
use Rattle.reo_values.specs.declared.kindred.Kindred.TheBlock.{hidden-the_row-Twins-0}
use Rattle.reo_trees.specs.declared.types.Shape.{Shape}
use Rattle.reo_unfold.specs.Fits.{IsFew}
use Rattle.reo_rules.proofs.Mapped.{position-map}
use Rattle.reo_unfold.specs.declared.types.NamedTypes.{NamedTypes}
use Rattle.reo_unfold.specs.Known.{AreTypes}
use Rattle.reo_unfold.proofs.Positions.{found_before, found_late, found_none}

module _ (ts : List Typed) (types : NamedTypes) (are : AreTypes ts types) (name : List ℕ) where
  number : position (bytes_eq name) types.names ≡ position (λ (e : Typed). bytes_eq name e.name) ts
  number = ap (position (bytes_eq name)) are.names ∙ position-map (λ (e : Typed). e.name) (bytes_eq name) ts

  pub named_before : (known n : ℕ) → position (bytes_eq name) types.names ≡ Some n → n < known → type_named (take known ts) name ≡ unwrap_or (slice_get types.kindreds n) kinds.Unit
  named_before known n is below =
      ap (λ (found : Option Typed). unwrap_or (option_map (λ (e : Typed). e.kindred) found) kinds.Unit) (found_before (λ (e : Typed). bytes_eq name e.name) ts known n (sym number ∙ is) below)
      ∙ ap (λ found. unwrap_or found kinds.Unit) (sym (slice_get-map (λ (e : Typed). e.kindred) ts n) ∙ ap (λ ks. slice_get ks n) (sym are.kindreds))

  pub named_late : (known n : ℕ) → position (bytes_eq name) types.names ≡ Some n → known ≤ n → type_named (take known ts) name ≡ kinds.Unit
  named_late known n is late =
      ap (λ (found : Option Typed). unwrap_or (option_map (λ (e : Typed). e.kindred) found) kinds.Unit) (found_late (λ (e : Typed). bytes_eq name e.name) ts known n (sym number ∙ is) late)

  pub named_none : (known : ℕ) → position (bytes_eq name) types.names ≡ None → type_named (take known ts) name ≡ kinds.Unit
  named_none known is =
      ap (λ (found : Option Typed). unwrap_or (option_map (λ (e : Typed). e.kindred) found) kinds.Unit) (found_none (λ (e : Typed). bytes_eq name e.name) ts known (sym number ∙ is))

-- A type that was read is one of few names, where all are.
pub few_at : (o : Option (Bor Kindred)) (ks : List Kindred) (n : ℕ) → option_copied o ≡ slice_get ks n → All HasFewNames ks → IfSome o (λ k. HasFewNames k.now)
few_at None ks n is all = tt
few_at (Some r) ks n is all =
    subst HasFewNames (get_or_from_slice_get ks n r.now r.now (sym is)) (all n r.now (slice_get_within ks n r.now (sym is)))

-- A written pair has few names where its parts have, and so has a type of pairs.
IsFew-Pair : (p : TypePair) → IsFew (shapes.Pair p) ≡ (IsFew p.left.shape × IsFew p.right.shape)
unfolding hidden-the_row-TypePair-0 hidden
IsFew-Pair p = refl

pub few_shapes : (s : Shape) (p : TypePair) → s ≡ shapes.Pair p → IsFew s → IsFew p.left.shape × IsFew p.right.shape
few_shapes s p is few = rw (is, IsFew-Pair p) at few

HasFewNames-Pair : (l r : Kindred) → (HasFewNames l × HasFewNames r) ≡ HasFewNames (kinds.Pair (record { left = l; right = r }))
unfolding hidden-the_row-Twins-0 hidden
HasFewNames-Pair l r = refl

pub few_pair : (l r : Kindred) → HasFewNames l → HasFewNames r → HasFewNames (kinds.Pair (record { left = l; right = r }))
few_pair l r left right = rw (← HasFewNames-Pair l r) (left, right)
