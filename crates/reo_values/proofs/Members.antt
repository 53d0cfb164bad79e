-- What an item of a type is.
use Rattle.std.proofs.Common.{◌≡◌, ◌<◌, ◌≤◌, ℕ, ℤ, List, Bool, length, refl}
use Rattle.std.specs.Prelude.{◌≤ℤ◌}
use Rattle.std.specs.List.{All}
use denote.Hole.Carrier.{hidden}
use Rattle.reo_values.specs.declared.value.Value as value
use Rattle.reo_values.specs.declared.value.Value.{Value}
use Rattle.reo_values.specs.declared.value.Value.TheBlock.{hidden-the_row-Couple-0}
use Rattle.reo_values.specs.declared.kindred.Kindred.TheBlock.{hidden-the_row-Twins-0}
use Rattle.reo_values.specs.declared.value.Couple.{Couple}
use Rattle.reo_values.specs.declared.kindred.Twins.{Twins}
use Rattle.reo_values.specs.declared.value.Value.TheVariants as values
use Rattle.reo_values.specs.declared.kindred.Kindred.TheVariants as kinds
use Rattle.reo_values.specs.Kind.{IsIn, IsPlain}

pub in_unit : (item : Value) → IsIn item kinds.Unit → item ≡ values.Unit
in_unit value.Unit h = refl
in_unit (value.Bool b) h = absurd h
in_unit (value.Int z) h = absurd h
in_unit (value.Sym k) h = absurd h
in_unit (value.Text bytes) h = absurd h
in_unit (value.Pair' m (value.more_of-Couple left right _)) h = absurd h

pub in_bool : (item : Value) → IsIn item kinds.Bool → (b : Bool) × (item ≡ values.Bool b)
in_bool value.Unit h = absurd h
in_bool (value.Bool b) h = (b, refl)
in_bool (value.Int z) h = absurd h
in_bool (value.Sym k) h = absurd h
in_bool (value.Text bytes) h = absurd h
in_bool (value.Pair' m (value.more_of-Couple left right _)) h = absurd h

pub in_int : (low high : ℤ) (item : Value) → IsIn item (kinds.Int low high) → (z : ℤ) × (item ≡ values.Int z) × (low ≤ℤ z) × (z ≤ℤ high)
in_int low high value.Unit h = absurd h
in_int low high (value.Bool b) h = absurd h
in_int low high (value.Int z) h = (z, refl, h.0, h.1)
in_int low high (value.Sym k) h = absurd h
in_int low high (value.Text bytes) h = absurd h
in_int low high (value.Pair' m (value.more_of-Couple left right _)) h = absurd h

pub in_sym : (names : List (List ℕ)) (item : Value) → IsIn item (kinds.Sym names) → (k : ℕ) × (item ≡ values.Sym k) × (k < length names)
in_sym names value.Unit h = absurd h
in_sym names (value.Bool b) h = absurd h
in_sym names (value.Int z) h = absurd h
in_sym names (value.Sym k) h = (k, refl, h)
in_sym names (value.Text bytes) h = absurd h
in_sym names (value.Pair' m (value.more_of-Couple left right _)) h = absurd h

pub in_text : (most : ℕ) (item : Value) → IsIn item (kinds.Text most) → (bytes : List ℕ) × (item ≡ values.Text bytes) × (length bytes ≤ most) × All IsPlain bytes
in_text most value.Unit h = absurd h
in_text most (value.Bool b) h = absurd h
in_text most (value.Int z) h = absurd h
in_text most (value.Sym k) h = absurd h
in_text most (value.Text bytes) h = (bytes, refl, h.0, h.1)
in_text most (value.Pair' m (value.more_of-Couple left right _)) h = absurd h

pub in_pair : (y : Twins) (item : Value) → IsIn item (kinds.Pair y) → (x : Couple) × (item ≡ values.Pair x) × IsIn x.left y.left × IsIn x.right y.right
unfolding hidden-the_row-Couple-0 hidden hidden-the_row-Twins-0
in_pair y value.Unit h = absurd h
in_pair y (value.Bool b) h = absurd h
in_pair y (value.Int z) h = absurd h
in_pair y (value.Sym k) h = absurd h
in_pair y (value.Text bytes) h = absurd h
in_pair y (value.Pair' m (value.more_of-Couple left right value.end_of-Couple)) h = (record { left = left; right = right }, refl, h.0, h.1)
