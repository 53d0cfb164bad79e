-- Cases of numbers and of options.
use Rattle.std.proofs.Common.{◌≡◌, ◌⊎◌, inl, inr, Bool, true, false, cond, refl}
use Rattle.std.specs.Prelude.{Option, Some, None}

pub option_cases : {X : Type 0} (o : Option X) → (o ≡ None) ⊎ ((x : X) × (o ≡ Some x))
option_cases None = inl refl
option_cases (Some x) = inr (x, refl)

pub none_either : {X : Type 0} (b : Bool) → ◌≡◌ {A = Option X} (cond b None None) None
none_either true = refl
none_either false = refl
