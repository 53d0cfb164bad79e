-- What can be told of marks, items and values.
use Rattle.std.proofs.Common.{◌≡◌, inl, inr, Bool, true, false, Option, None, Some, refl, ap, sym, ◌∙◌}
use Rattle.std.specs.Ordering.{int_eq}
use Rattle.std.specs.Prelude.{bytes_eq, Decides}
use Rattle.std.proofs.lemmas.Bool.{cases_eq, cases_Bool}
use Rattle.std.proofs.lemmas.Bool.Decides.{Decides-int_eq}
use Rattle.std.proofs.lemmas.Slice.Eq.{bytes_eq-Decides}
use Rattle.reo_values.specs.declared.value.Value as value
use Rattle.reo_values.specs.declared.value.Value.{Value}
use Rattle.reo_values.specs.Pair.{left_of, right_of}
use Rattle.reo_net_base.specs.declared.mark.Mark.{Mark}
use Rattle.reo_net_base.specs.declared.mark.Mark.TheVariants.{F, G, R, J}
use Rattle.reo_net_laws.proofs.Search.{Decided, both_or}
use Rattle.reo_joint_values.specs.declared.value.JointValue.{JointValue}
use Rattle.reo_joint_values.specs.Values.{value_eq}
use Rattle.reo_refute_base.proofs.Narrowing.{value_same, same_value}

module _ {A B : Type 0} where
  -- What can be told where something holds that can be told, can be told with it as a premise.
  pub given_told : Decided A → (A → Decided B) → Decided (A → B)
  given_told (inl a) d = elim (d a) [
    | inl b ↦ inl (λ h. b)
    | inr not_b ↦ inr (λ h. not_b (h a))
  ]
  given_told (inr a) d = inl (λ h. absurd (a h))

  -- What is so exactly where something holds that can be told, can be told.
  pub same_told : (A → B) → (B → A) → Decided A → Decided B
  same_told there back (inl a) = inl (there a)
  same_told there back (inr a) = inr (λ b. a (back b))

by_test : {A : Type 0} → (b : Bool) → Decides b A → Decided A
by_test true d = inl (d.0 refl)
by_test false d = inr (λ h. let wrong : false ≡ true = d.1 h in cc)

truths_told : (a b : Bool) → Decided (a ≡ b)
truths_told true true = inl refl
truths_told false false = inl refl
truths_told true false = inr (λ e. cc)
truths_told false true = inr (λ e. cc)

pub items_told : (x y : Value) → Decided (x ≡ y)
items_told value.Unit value.Unit = inl refl
items_told (value.Bool a) (value.Bool b) = same_told (λ e. ap value.Bool e) (λ e. cc) (truths_told a b)
items_told (value.Int a) (value.Int b) = same_told (λ e. ap value.Int e) (λ e. cc) (by_test (int_eq a b) (Decides-int_eq a b))
items_told (value.Sym a) (value.Sym b) = same_told (λ e. ap value.Sym e) (λ e. cc) (cases_eq a b)
items_told (value.Text a) (value.Text b) = same_told (λ e. ap value.Text e) (λ e. cc) (by_test (bytes_eq a b) (bytes_eq-Decides a b))
items_told (value.Pair' m (value.more_of-Couple a b value.end_of-Couple)) (value.Pair' n (value.more_of-Couple c d value.end_of-Couple)) =
    same_told (λ h. let left = h.0 in let right = h.1 in (λ i. value.Pair' m (value.more_of-Couple (left i) (right i) value.end_of-Couple))) (λ e. (ap left_of e, ap right_of e))
    (both_or (a ≡ c) (b ≡ d) (items_told a c) (items_told b d))
items_told x y = inr (λ e. cc)

pub marks_told : (a b : Mark) → Decided (a ≡ b)
marks_told F F = inl refl
marks_told G G = inl refl
marks_told R R = inl refl
marks_told J J = inl refl
marks_told a b = inr (λ e. cc)

pub options_told : {A : Type 0} → ((x y : A) → Decided (x ≡ y)) → (a b : Option A) → Decided (a ≡ b)
options_told d None None = inl refl
options_told d (Some x) (Some y) = same_told (λ e. ap Some e) (λ e. cc) (d x y)
options_told d a b = inr (λ e. cc)

pub values_told : (v w : JointValue) → Decided (v ≡ w)
values_told v w = elim (cases_Bool (value_eq v w)) [
  | inl same ↦ inl (same_value v w same)
  | inr other ↦ inr (λ e. let wrong : true ≡ false = sym (value_same v) ∙ ap (value_eq v) e ∙ other in cc)
]
