-- Units.
use Rattle.std.proofs.Common.{ℕ, ◌≡◌, Result, Ok, Err, IfOk, List, [], ◌∷◌, length, replicate, refl, ap, ◌∙◌, sym}
use Rattle.reo_values.specs.declared.value.Value.{Value}
use Rattle.reo_values.specs.declared.value.Value.TheVariants.{Unit}
use Rattle.reo_buffers.specs.Stored.{Stored, stored}
use Rattle.reo_open.specs.Opened.{units, unit_stored}

pub units_are : (items : List Value) → units items ≡ replicate (length items) Unit
units_are [] = refl
units_are (i ∷ is) = ap (λ (rest : List Value). Unit ∷ rest) (units_are is)

pub unit_buffer_is : {E : Type 0} (b : Stored) (made : Result Stored E) (some : List Value) (count size : ℕ) → some ≡ replicate count Unit → count ≡ length b.items → size ≡ b.size
    → IfOk made (λ (m : Stored). m ≡ stored size some) → IfOk made (λ (m : Stored). m ≡ unit_stored b)
unit_buffer_is b (Err e) some count size some_is count_is size_is is = is
unit_buffer_is b (Ok m) some count size some_is count_is size_is is =
    is ∙ ap (λ (n : ℕ). stored n some) size_is ∙ ap (λ (items : List Value). stored b.size items) (some_is ∙ ap (λ (n : ℕ). replicate n Unit) count_is ∙ sym (units_are b.items))
