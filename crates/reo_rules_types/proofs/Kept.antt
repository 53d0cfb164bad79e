-- Types that keep their numbers.
use Rattle.std.proofs.Common.{◌≡◌, ℕ, ◌<◌, List, length, Some, slice_get, refl}
use Rattle.std.proofs.lemmas.Option.{slice_get_within, slice_get-get_or, get_or_from_slice_get}
use Rattle.reo_values.specs.declared.kindred.Kindred.{Kindred}
use Rattle.reo_values.specs.declared.kindred.Kindred.TheVariants as kinds
use Rattle.reo_rules_types.specs.declared.cell.TypeParts.{TypeParts}
use Rattle.reo_rules_types.specs.declared.cell.TypeParts.TheVariants as cells
use Rattle.reo_rules_types.specs.Cells.{type_at, kindred_of, Fits, Keeps}

-- The type with a number, told in two ways.
pub at_told : (types : List Kindred) (n : ℕ) (k : Kindred) → slice_get types n ≡ Some k → type_at types n ≡ k
at_told types n k is = get_or_from_slice_get types n k kinds.Unit is

pub at_there : (types : List Kindred) (n : ℕ) → n < length types → slice_get types n ≡ Some (type_at types n)
at_there types n below = slice_get-get_or types n kinds.Unit below

pub at_within : (types : List Kindred) (n : ℕ) (k : Kindred) → slice_get types n ≡ Some k → n < length types
at_within types n k is = slice_get_within types n k is

module _ (old new : List Kindred) (keeps : Keeps old new) where
  pub kept_at : (n : ℕ) → n < length old → type_at new n ≡ type_at old n
  kept_at n below = at_told new n (type_at old n) (keeps n (type_at old n) (at_there old n below))

  pub kept_below : (n : ℕ) → n < length old → n < length new
  kept_below n below = at_within new n (type_at old n) (keeps n (type_at old n) (at_there old n below))

  pub kept_cell : (c : TypeParts) → Fits (length old) c → kindred_of new c ≡ kindred_of old c
  kept_cell cells.Unit p = refl
  kept_cell cells.Bool p = refl
  kept_cell (cells.Int a b) p = refl
  kept_cell (cells.Sym names) p = refl
  kept_cell (cells.Text m) p = refl
  kept_cell (cells.Pair a b) p = λ i. kinds.Pair (record { left = kept_at a p.0 i; right = kept_at b p.1 i })

  pub kept_fits : (c : TypeParts) → Fits (length old) c → Fits (length new) c
  kept_fits cells.Unit p = p
  kept_fits cells.Bool p = p
  kept_fits (cells.Int a b) p = p
  kept_fits (cells.Sym names) p = p
  kept_fits (cells.Text m) p = p
  kept_fits (cells.Pair a b) p = (kept_below a p.0, kept_below b p.1)

pub keeps_both : (a b c : List Kindred) → Keeps a b → Keeps b c → Keeps a c
keeps_both a b c first second n k is = second n k (first n k is)
