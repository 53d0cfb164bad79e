-- What filters and maps do with an item of their type, and with another.
use Rattle.std.proofs.Common.{◌≡◌, Bool, true, false, refl, IsTrue, ◌↔◌, sym, ◌∙◌}
use Rattle.std.proofs.lemmas.Bool.Decides.{same_from_decides}
use Rattle.reo_values.specs.declared.value.Value.{Value}
use Rattle.reo_values.specs.declared.value.Value.TheVariants as values
use Rattle.reo_values.specs.declared.kindred.Kindred.{Kindred}
use Rattle.reo_values.specs.Kind.{IsIn}
use Rattle.reo_exprs.specs.Valued.{value_of_expr}
use Rattle.reo_kinds.specs.declared.kind.FilterRule.{FilterRule}
use Rattle.reo_kinds.specs.declared.kind.MapRule.{MapRule}
use Rattle.reo_values.specs.Kind.{is_item}
use Rattle.reo_kinds.specs.Rules.{accepts, image}
use Rattle.reo_values.proofs.Tests.{is_item-is}

-- The program's test of an item is the definition's.
test_is : (item : Value) (of : Kindred) (is : Bool) → (IsTrue is ↔ IsIn item of) → is ≡ is_item item of
test_is item of is exact = same_from_decides _ _ exact (is_item-is item of)

-- A filter.
pub accepts_inside : (rule : FilterRule) (item : Value) (is answer : Bool) → (IsTrue is ↔ IsIn item rule.of) → is ≡ true
    → value_of_expr rule.expr item ≡ values.Bool answer → answer ≡ accepts rule item
accepts_inside rule item is answer exact inside value = rw (sym (test_is item rule.of is exact) ∙ inside, value) refl

pub accepts_outside : (rule : FilterRule) (item : Value) (is : Bool) → (IsTrue is ↔ IsIn item rule.of) → is ≡ false → is ≡ accepts rule item
accepts_outside rule item is exact outside = rw (sym (test_is item rule.of is exact) ∙ outside, outside) refl

-- A map.
pub image_inside : (rule : MapRule) (item : Value) (is : Bool) → (IsTrue is ↔ IsIn item rule.of) → is ≡ true → image rule item ≡ value_of_expr rule.expr item
image_inside rule item is exact inside = rw (sym (test_is item rule.of is exact) ∙ inside) refl

pub image_outside : (rule : MapRule) (item : Value) (is : Bool) → (IsTrue is ↔ IsIn item rule.of) → is ≡ false → image rule item ≡ values.Unit
image_outside rule item is exact outside = rw (sym (test_is item rule.of is exact) ∙ outside) refl
