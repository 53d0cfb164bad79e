-- What cells say of their types.
use Rattle.std.proofs.Common.{arith, ◌≡◌, ◌∙◌, ℕ, ◌<◌, List, length, None, Some, slice_get, refl, ap, subst}
use Rattle.reo_values.specs.declared.kindred.Kindred.{Kindred}
use Rattle.reo_values.specs.declared.kindred.Twins.{Twins}
use Rattle.reo_exprs.specs.Kinds.{twins_of}
use Rattle.reo_exprs.proofs.Twinned.{twins_of-Pair}
use Rattle.reo_rules_types.specs.declared.cell.TypeParts.{TypeParts}
use Rattle.reo_rules_types.specs.declared.cell.TypeParts.TheVariants as cells
use Rattle.reo_rules_types.specs.Cells.{type_at, kindred_of, Fits}
use Rattle.reo_rules_types.proofs.Kept.{at_told, at_within}

module _ (types : List Kindred) (n : ℕ) (c : TypeParts) (is : slice_get types n ≡ Some (kindred_of types c)) where
  -- The type with a number is that of its cell.
  pub of_cell : type_at types n ≡ kindred_of types c
  of_cell = at_told types n (kindred_of types c) is

  -- A pair's parts.
  pub of_pair : (l r : ℕ) → c ≡ cells.Pair l r → twins_of (type_at types n) ≡ Some (record { left = type_at types l; right = type_at types r })
  of_pair l r pair =
      let twins : Twins = record { left = type_at types l; right = type_at types r } in
      ap twins_of (of_cell ∙ ap (kindred_of types) pair) ∙ twins_of-Pair twins

  pub pair_below : Fits n c → (l r : ℕ) → c ≡ cells.Pair l r → (l < length types) × (r < length types)
  pair_below fits l r pair =
      let below = at_within types n (kindred_of types c) is in
      let parts = subst (Fits n) pair fits in
      (omega (arith, parts.0), omega (arith, parts.1))

  -- Another type has none.
  pub of_no_pair : ((l r : ℕ) → c ≡ cells.Pair l r → ⊥) → twins_of (type_at types n) ≡ None
  of_no_pair other = ap twins_of of_cell ∙ none c other
    where
      none : (d : TypeParts) → ((l r : ℕ) → d ≡ cells.Pair l r → ⊥) → twins_of (kindred_of types d) ≡ None
      none cells.Unit not = refl
      none cells.Bool not = refl
      none (cells.Int a b) not = refl
      none (cells.Sym names) not = refl
      none (cells.Text m) not = refl
      none (cells.Pair a b) not = absurd (not a b refl)
