-- What the type of an expression came from.
use Rattle.std.proofs.Common.{Bool, true, false, ◌≡◌, ◌∙◌, Option, Some, None, ap, sym, refl}
use Rattle.std.specs.Prelude.{option_and_then, option_map, unwrap_or, if◌then◌else◌}
use Rattle.reo_values.specs.declared.kindred.Kindred.{Kindred}
use Rattle.reo_exprs.specs.Kinds.{is_within}
use Rattle.reo_exprs.specs.Typing.{provided, within}
pub use Rattle.std.proofs.lemmas.Bool.{and_from as to_both}

-- equal options have equal values
pub some_same : {T : Type 0} (x y : T) → Some x ≡ Some y → x ≡ y
some_same x y e = ap (λ o. unwrap_or o x) e

-- a value after two steps has one between them
pub from_and_then : {T U : Type 0} (f : T → Option U) (o : Option T) (y : U) → option_and_then f o ≡ Some y → (x : T) × (o ≡ Some x) × (f x ≡ Some y)
from_and_then f None y e = absurd (cc)
from_and_then f (Some x) y e = (x, refl, e)

-- a value of a map is that of a value
pub from_map : {T U : Type 0} (f : T → U) (o : Option T) (y : U) → option_map f o ≡ Some y → (x : T) × (o ≡ Some x) × (f x ≡ y)
from_map f None y e = absurd (cc)
from_map f (Some x) y e = (x, refl, some_same (f x) y e)

-- a type that a test let through is as it was, and the test is true
pub from_provided : (test : Bool) (k t : Kindred) → provided test k ≡ Some t → (test ≡ true) × (k ≡ t)
from_provided true k t e = (refl, some_same k t e)
from_provided false k t e = absurd (cc)

-- and so it is with any option
pub from_if : {T : Type 0} (test : Bool) (o : Option T) (t : T) → (if test then o else None) ≡ Some t → (test ≡ true) × (o ≡ Some t)
from_if true o t e = (refl, e)
from_if false o t e = absurd (cc)

-- a type that `within` let through is as it was, and near
pub from_within : (k t : Kindred) → within k ≡ Some t → (is_within t ≡ true) × (k ≡ t)
from_within k t e = let x = from_provided (is_within k) k t e in (sym (ap is_within x.1) ∙ x.0, x.1)
