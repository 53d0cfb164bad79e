-- The items that literals are.
use Rattle.std.proofs.Common.{arith, lit≤, suc, ◌≡◌, ◌≤◌, Bool, true, false, cond, ◌||◌, Option, Some, None, List, [], ◌∷◌, length, map, refl, ap, subst}
use Rattle.std.specs.Prelude.{is_none}
use Rattle.std.specs.List.{AllByRecursion, list_any, cons_option}
use Rattle.reo_values.specs.declared.value.Value.{Value}
use Rattle.reo_values.specs.declared.kindred.Kindred.{Kindred}
use Rattle.reo_values.specs.Kind.{IsIn, is_item}
use Rattle.reo_values.proofs.Tests.{is_item-is}
use Rattle.reo_exprs.proofs.Options.{some_same, from_and_then}
use Rattle.reo_trees.specs.declared.literals.Literal.{Literal}
use Rattle.reo_rules.specs.literals.Items.{value_of, item_of, items_of}

-- Where each literal is an item, none is dropped.
pub items_all : (k : Kindred) (ls : List Literal) → list_any (λ (l : Literal). is_none (item_of k l)) ls ≡ false → map (λ v. Some v) (items_of k ls) ≡ map (item_of k) ls
items_all k [] none = refl
items_all k (l ∷ ls) none = step (item_of k l) none (items_all k ls) where
  step : (o : Option Value) → (is_none o || list_any (λ (m : Literal). is_none (item_of k m)) ls) ≡ false
      → (list_any (λ (m : Literal). is_none (item_of k m)) ls ≡ false → map (λ v. Some v) (items_of k ls) ≡ map (item_of k) ls)
      → map (λ v. Some v) (cons_option o (items_of k ls)) ≡ o ∷ map (item_of k) ls
  step None h rest = absurd (cc)
  step (Some v) h rest = ap (λ os. Some v ∷ os) (rest h)

item_told : (v w : Value) (b : Bool) → cond b (Some v) None ≡ Some w → (b ≡ true) × (v ≡ w)
item_told v w true h = (refl, some_same v w h)
item_told v w false h = absurd (cc)

-- Each is of the type.
pub item_in : (k : Kindred) (l : Literal) (v : Value) → item_of k l ≡ Some v → IsIn v k
item_in k l v h =
    let from = from_and_then (λ w. cond (is_item w k) (Some w) None) (value_of l.constant k) v h in
    let test = item_told from.0 v (is_item from.0 k) from.2 in
    subst (λ w. IsIn w k) test.1 ((is_item-is from.0 k).0 test.0)

pub items_in : (k : Kindred) (ls : List Literal) → AllByRecursion (λ v. IsIn v k) (items_of k ls)
items_in k [] = tt
items_in k (l ∷ ls) = step (item_of k l) (λ v h. item_in k l v h) (items_in k ls) where
  step : (o : Option Value) → ((v : Value) → o ≡ Some v → IsIn v k) → AllByRecursion (λ v. IsIn v k) (items_of k ls) → AllByRecursion (λ v. IsIn v k) (cons_option o (items_of k ls))
  step None here rest = rest
  step (Some v) here rest = (here v refl, rest)

-- There are no more of them.
pub few_items : (k : Kindred) (ls : List Literal) → length (items_of k ls) ≤ length ls
few_items k [] = lit≤ tt
few_items k (l ∷ ls) = step (item_of k l) (few_items k ls) where
  step : (o : Option Value) → length (items_of k ls) ≤ length ls → length (cons_option o (items_of k ls)) ≤ suc (length ls)
  step None rest = omega arith
  step (Some v) rest = omega arith
