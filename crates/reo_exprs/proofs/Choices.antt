-- The types of pairs, of numbers and of a choice.
use Rattle.std.proofs.Common.{Bool, true, false, ◌&&◌, ◌≡◌, ◌∙◌, ℤ, Some, None, ap, sym, refl, arith}
use Rattle.std.proofs.lemmas.Bool.{and_parts}
use Rattle.std.specs.Prelude.{IsTrue, option_and_then, option_map, if◌then◌else◌}
use Rattle.std.specs.Int.{int_min, int_max}
use Rattle.std.proofs.lemmas.Int.{ints, clamps}
use denote.Hole.Carrier.{hidden}
use Rattle.reo_values.specs.declared.kindred.Kindred.{Kindred}
use Rattle.reo_values.specs.declared.kindred.Kindred.TheVariants as kinds
use Rattle.reo_values.specs.declared.kindred.Kindred.TheBlock.{hidden-the_row-Twins-0}
use Rattle.reo_values.specs.declared.kindred.Twins.{Twins}
use Rattle.reo_values.specs.declared.operator.Binary.TheVariants as binary
use Rattle.reo_values.specs.declared.operator.Binary.{Binary}
use Rattle.reo_exprs.specs.declared.interval.Interval.{Interval}
use Rattle.reo_exprs.specs.Interval.{is_near, is_near_interval, near, arithmetic}
use Rattle.reo_exprs.specs.Kinds.{kind_of, joins, join_of, is_within, is_bool, interval_of}
use Rattle.reo_exprs.specs.Typing.{provided, within, int_type, may_stand_right, numbers_within, binary_kind, binary_within, if_kind, if_within}
use Rattle.reo_exprs.proofs.JoinCases.{where_joined}
use Rattle.reo_exprs.proofs.Shapes.{is_number}
use Rattle.reo_exprs.proofs.Near.{near_bounds, near_from}
use Rattle.reo_exprs.proofs.Twinned.{kind_of-Pair, within-Pair, Twins_of-equal}

-- the type of an interval that a test let through
within_told : (b : Bool) (x made : Interval) → Some made ≡ (if b then Some x else None) → Some (int_type made) ≡ (if b then Some (int_type x) else None)
within_told true x made e = ap (λ o. option_map int_type o) e
within_told false x made e = absurd (cc)

-- an `if` whose test is true gives its first value
chosen_by : {T : Type 0} (b : Bool) (x y : T) → true ≡ b → (if b then x else y) ≡ x
chosen_by true x y e = refl
chosen_by false x y e = absurd (cc)

-- the type of an operator's numbers
pub numbers_told : (op : Binary) (k l : Kindred) (x y made : Interval) → Some x ≡ interval_of k → Some y ≡ interval_of l → true ≡ may_stand_right op (int_type y)
    → Some made ≡ near (arithmetic op x y) → Some (int_type made) ≡ numbers_within op k l
numbers_told op k l x y made p q s e =
    let f = is_number k x (sym p) in
    let g = is_number l y (sym q) in
    within_told (is_near_interval (arithmetic op x y)) (arithmetic op x y) made e
    ∙ sym (chosen_by (may_stand_right op (int_type y)) (within (int_type (arithmetic op x y))) None s)
    ∙ sym (λ i. numbers_within op (f i) (g i))

-- the kind of a pair of kinds
pub pair_kinded : (op : Binary) (x y : Kindred) (made : Twins) → op ≡ binary.Pair → made ≡ record { left = x; right = y } → kind_of x ≡ x → kind_of y ≡ y
    → Some (kinds.Pair made) ≡ binary_kind op x y
pair_kinded op x y made p e f g =
    let twins : Twins = record { left = x; right = y } in
    ap (λ t. Some (kinds.Pair t)) e ∙ sym (ap Some (kind_of-Pair twins ∙ Twins_of-equal (record { left = kind_of x; right = kind_of y }) twins f g)) ∙ sym (ap (λ o. binary_kind o x y) p)

-- the type of a pair, where the types of its parts are near
pub pair_typed : (op : Binary) (x y : Kindred) (made : Twins) → op ≡ binary.Pair → made ≡ record { left = x; right = y } → IsTrue (is_within x) → IsTrue (is_within y)
    → Some (kinds.Pair made) ≡ binary_within op x y
pair_typed op x y made p e f g =
    let twins : Twins = record { left = x; right = y } in
    let both : is_within (kinds.Pair twins) ≡ true = within-Pair twins ∙ (λ i. f i && g i) in
    ap (λ t. Some (kinds.Pair t)) e ∙ sym (chosen_by (is_within (kinds.Pair twins)) (Some (kinds.Pair twins)) None (sym both)) ∙ sym (ap (λ o. binary_within o x y) p)

-- the less of two near numbers is near
near_least : (a b : ℤ) → is_near a ≡ true → is_near b ≡ true → is_near (int_min a b) ≡ true
near_least a b f g = let p = near_bounds a f in let q = near_bounds b g in near_from (int_min a b) (omega (arith, ints, clamps)) (omega (arith, ints, clamps))

-- and the greater
near_greatest : (a b : ℤ) → is_near a ≡ true → is_near b ≡ true → is_near (int_max a b) ≡ true
near_greatest a b f g = let p = near_bounds a f in let q = near_bounds b g in near_from (int_max a b) (omega (arith, ints, clamps)) (omega (arith, ints, clamps))

-- a join is of the kind of its left type
pub join_kind : (s t : Kindred) → joins s t ≡ true → kind_of (join_of s t) ≡ kind_of s
unfolding hidden-the_row-Twins-0 hidden
join_kind s t e =
    where_joined (λ a b. kind_of (join_of a b) ≡ kind_of a) (record {
      units = refl;
      truths = refl;
      numbers = λ a b c d. refl;
      names = λ xs ys p. refl;
      texts = λ m n. refl;
      pairs = λ x y l r. Twins_of-equal (record { left = kind_of (join_of x.left y.left); right = kind_of (join_of x.right y.right) }) (record { left = kind_of x.left; right = kind_of x.right }) l r;
    }) s t e

-- and its intervals are near where those of both are
join_near : (s t : Kindred) → joins s t ≡ true → is_within s ≡ true → is_within t ≡ true → is_within (join_of s t) ≡ true
unfolding hidden-the_row-Twins-0 hidden
join_near s t e =
    where_joined (λ a b. is_within a ≡ true → is_within b ≡ true → is_within (join_of a b) ≡ true) (record {
      units = λ f g. refl;
      truths = λ f g. refl;
      numbers = λ a b c d f g. let h = and_parts (is_near a) (is_near b) f in let k = and_parts (is_near c) (is_near d) g in λ i. near_least a c h.0 k.0 i && near_greatest b d h.1 k.1 i;
      names = λ xs ys p f g. refl;
      texts = λ m n f g. refl;
      pairs = λ x y l r f g. let h = and_parts (is_within x.left) (is_within x.right) f in let k = and_parts (is_within y.left) (is_within y.right) g in λ i. l h.0 k.0 i && r h.1 k.1 i;
    }) s t e

-- the kind of a type that a test lets through
kind_if : (b : Bool) (x y : Kindred) → (b ≡ true → kind_of x ≡ y) → (if b then Some y else None) ≡ option_map kind_of (provided b x)
kind_if true x y h = ap Some (sym (h refl))
kind_if false x y h = refl

-- the kind of a choice is that of its first type, where the types join
pub choice_kinded : (c x y : Kindred) → kind_of x ≡ x → provided (is_bool c && joins x y) x ≡ if_kind c x y
choice_kinded c x y f = kind_if (is_bool c && joins x y) (join_of x y) x (λ h. join_kind x y (and_parts (is_bool c) (joins x y) h).1 ∙ f)

-- the type of a choice is the join, which is near
pub choice_typed : (c x y made : Kindred) → true ≡ (is_bool c && joins x y) → IsTrue (is_within x) → IsTrue (is_within y) → made ≡ join_of x y → Some made ≡ if_within c x y
choice_typed c x y made p f g e =
    let both : (is_bool c && joins x y) ≡ true = sym p in
    let q = (and_parts (is_bool c) (joins x y) both).1 in
    ap Some e ∙ sym (chosen_by (is_within (join_of x y)) (Some (join_of x y)) None (sym (join_near x y q f g)))
    ∙ sym (ap (λ b. option_and_then within (provided b (join_of x y))) both)
