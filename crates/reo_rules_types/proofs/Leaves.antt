-- Types that are no pairs.
use Rattle.std.proofs.Common.{◌≡◌, ◌∙◌, ℕ, List, Some, refl, sym, ap}
use denote.Hole.Carrier.{hidden}
use Rattle.std.specs.Prelude.{slice_get}
use Rattle.reo_values.specs.declared.kindred.Kindred as kindred
use Rattle.reo_values.specs.declared.kindred.Kindred.{Kindred}
use Rattle.reo_values.specs.declared.kindred.Kindred.TheVariants as kinds
use Rattle.reo_values.specs.declared.kindred.Kindred.TheBlock.{hidden-the_row-Twins-0}
use Rattle.reo_values.specs.declared.kindred.Twins.{Twins}
use Rattle.reo_rules.specs.Terms.{symbol_in}
use Rattle.reo_rules_types.specs.declared.cell.TypeParts.{TypeParts}
use Rattle.reo_rules_types.specs.declared.cell.TypeParts.TheVariants as cells
use Rattle.reo_rules_types.specs.Cells.{type_at, kindred_of, leaf}
use Rattle.reo_rules_types.proofs.Cells.{of_cell}

-- A pair has no leaf.
pub leaf-Pair : (t : Twins) → leaf (kinds.Pair t) ≡ kinds.Unit
unfolding hidden-the_row-Twins-0 hidden
leaf-Pair t = refl

-- So its cell has none.
pub no_leaf : (types : List Kindred) (c : TypeParts) (l r : ℕ) → c ≡ cells.Pair l r → kinds.Unit ≡ leaf (kindred_of types c)
no_leaf types c l r pair =
    let twins : Twins = record { left = type_at types l; right = type_at types r } in
    sym (ap (λ d. leaf (kindred_of types d)) pair ∙ leaf-Pair twins)

-- Another cell is its own.
own_leaf : (types : List Kindred) (c : TypeParts) → ((l r : ℕ) → c ≡ cells.Pair l r → ⊥) → leaf (kindred_of types c) ≡ kindred_of types c
own_leaf types cells.Unit other = refl
own_leaf types cells.Bool other = refl
own_leaf types (cells.Int a b) other = refl
own_leaf types (cells.Sym names) other = refl
own_leaf types (cells.Text m) other = refl
own_leaf types (cells.Pair l r) other = absurd (other l r refl)

-- So is the type of its number.
pub leaf_is : (types : List Kindred) (n : ℕ) (c : TypeParts) → slice_get types n ≡ Some (kindred_of types c) → ((l r : ℕ) → c ≡ cells.Pair l r → ⊥) → leaf (type_at types n) ≡ type_at types n
leaf_is types n c is other = let here = of_cell types n c is in ap leaf here ∙ own_leaf types c other ∙ sym here

-- The symbols of a type are those of its leaf.
pub same_symbol : (k : Kindred) (name : List ℕ) → symbol_in (leaf k) name ≡ symbol_in k name
unfolding hidden-the_row-Twins-0 hidden
same_symbol kindred.Unit name = refl
same_symbol kindred.Bool name = refl
same_symbol (kindred.Int a b) name = refl
same_symbol (kindred.Sym names) name = refl
same_symbol (kindred.Text m) name = refl
same_symbol (kindred.Pair' m (kindred.more_of-Twins a b kindred.end_of-Twins)) name = refl
