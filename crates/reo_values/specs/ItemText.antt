-- The text of an item.
use Rattle.std.specs.Prelude.{ℕ, Bool, List, [], ◌∷◌, ◌++◌, codes, slice_index_or, if◌then◌else◌}
use Rattle.std.specs.Fmt.{signed_decimal}
use Rattle.reo_values.specs.Bytes.{opening, comma, closing}
pub use Rattle.reo_values.specs.Quoted.{escape, quoted}
use Rattle.reo_values.specs.declared.value.Value as value
use Rattle.reo_values.specs.declared.kindred.Kindred as kindred
use Rattle.reo_values.specs.declared.value.Value.{Value}
use Rattle.reo_values.specs.declared.kindred.Kindred.{Kindred}

-- a truth value's word
abbrev pub truth_text : Bool → List ℕ
truth_text b = if b then codes "true" else codes "false"

-- the text of an item of the type
abbrev pub text_of : Value → Kindred → List ℕ
text_of value.Unit kindred.Unit = codes "unit"
text_of (value.Bool b) kindred.Bool = truth_text b
text_of (value.Int z) (kindred.Int low high) = signed_decimal z
text_of (value.Sym k) (kindred.Sym names) = slice_index_or names k []
text_of (value.Text bytes) (kindred.Text most) = quoted bytes
text_of (value.Pair' m (value.more_of-Couple x y _)) (kindred.Pair' n (kindred.more_of-Twins a b _)) =
    opening ∷ text_of x a ++ comma ∷ text_of y b ++ closing ∷ []
text_of _ _ = []
