-- Results and options that are one thing.
use Rattle.std.proofs.Common.{◌≡◌}
use Rattle.std.specs.Prelude.{Option, Some, None, Result, Ok, Err}

pub ok_is : {A E : Type 0} (a b : A) (x y : Result A E) → x ≡ Ok a → y ≡ Ok b → x ≡ y → a ≡ b
ok_is a b x y of_x of_y e = cc

pub ok_is_no_fault : {A E : Type 0} (a : A) (f : E) (x y : Result A E) → x ≡ Ok a → y ≡ Err f → x ≡ y → ⊥
ok_is_no_fault a f x y of_x of_y e = cc

pub fault_is : {A E : Type 0} (f g : E) (x y : Result A E) → x ≡ Err f → y ≡ Err g → x ≡ y → f ≡ g
fault_is f g x y of_x of_y e = cc

pub some_is : {A : Type 0} (a b : A) (x y : Option A) → x ≡ Some a → y ≡ Some b → x ≡ y → a ≡ b
some_is a b x y of_x of_y e = cc

pub none_is_some : {A : Type 0} (a : A) (o : Option A) → o ≡ None → o ≡ Some a → ⊥
none_is_some a o none some = cc
