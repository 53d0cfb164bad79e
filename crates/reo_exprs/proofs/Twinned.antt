-- What definitions by cases say of types of pairs.
use Rattle.std.proofs.Common.{ℤ, true, false, ◌&&◌, ◌≡◌, Some, None, ap, refl}
use denote.Hole.Carrier.{hidden}
use Rattle.reo_values.specs.declared.value.Value as value
use Rattle.reo_values.specs.declared.value.Value.{Value}
use Rattle.reo_values.specs.declared.value.Value.TheVariants as values
use Rattle.reo_values.specs.declared.value.Value.TheBlock.{hidden-the_row-Couple-0}
use Rattle.reo_values.specs.declared.value.Couple.{Couple}
use Rattle.reo_values.specs.declared.kindred.Kindred as kindred
use Rattle.reo_values.specs.declared.kindred.Kindred.{Kindred}
use Rattle.reo_values.specs.declared.kindred.Kindred.TheVariants as kinds
use Rattle.reo_values.specs.declared.kindred.Kindred.TheBlock.{hidden-the_row-Twins-0}
use Rattle.reo_values.specs.declared.kindred.Twins.{Twins}
use Rattle.reo_exprs.specs.Kinds.{kind_of, joins, join_of, LiesInside, is_within, twins_of}
use Rattle.reo_exprs.specs.Valued.{same_value}

-- two types of pairs join where both parts do
pub joins-Pair : (x y : Twins) → joins (kinds.Pair x) (kinds.Pair y) ≡ (joins x.left y.left && joins x.right y.right)
unfolding hidden-the_row-Twins-0 hidden
joins-Pair x y = refl

-- their join is the pair of the joins
pub join_of-Pair : (x y : Twins) → join_of (kinds.Pair x) (kinds.Pair y) ≡ kinds.Pair (record { left = join_of x.left y.left; right = join_of x.right y.right })
unfolding hidden-the_row-Twins-0 hidden
join_of-Pair x y = refl

-- one lies inside the other where both parts do
pub inside-Pair : (x y : Twins) → LiesInside (kinds.Pair x) (kinds.Pair y) ≡ (LiesInside x.left y.left × LiesInside x.right y.right)
unfolding hidden-the_row-Twins-0 hidden
inside-Pair x y = refl

-- the intervals of a type of pairs are near where those of both parts are
pub within-Pair : (x : Twins) → is_within (kinds.Pair x) ≡ (is_within x.left && is_within x.right)
unfolding hidden-the_row-Twins-0 hidden
within-Pair x = refl

-- its kind is the pair of the kinds
pub kind_of-Pair : (x : Twins) → kind_of (kinds.Pair x) ≡ kinds.Pair (record { left = kind_of x.left; right = kind_of x.right })
unfolding hidden-the_row-Twins-0 hidden
kind_of-Pair x = refl

-- and its parts are those that it was made of
pub twins_of-Pair : (x : Twins) → twins_of (kinds.Pair x) ≡ Some x
unfolding hidden-the_row-Twins-0 hidden
twins_of-Pair x = refl

-- a type of pairs joins no other type
pub joins_Pair-other : (x : Twins) (k : Kindred) → ((y : Twins) → k ≡ kinds.Pair y → ⊥) → joins (kinds.Pair x) k ≡ false
unfolding hidden-the_row-Twins-0 hidden
joins_Pair-other x kindred.Unit other = refl
joins_Pair-other x kindred.Bool other = refl
joins_Pair-other x (kindred.Int a b) other = refl
joins_Pair-other x (kindred.Sym a) other = refl
joins_Pair-other x (kindred.Text a) other = refl
joins_Pair-other x (kindred.Pair' m (kindred.more_of-Twins a b kindred.end_of-Twins)) other = absurd (other (record { left = a; right = b }) refl)

-- its join with one is itself
pub join_of_Pair-other : (x : Twins) (k : Kindred) → ((y : Twins) → k ≡ kinds.Pair y → ⊥) → join_of (kinds.Pair x) k ≡ kinds.Pair x
unfolding hidden-the_row-Twins-0 hidden
join_of_Pair-other x kindred.Unit other = refl
join_of_Pair-other x kindred.Bool other = refl
join_of_Pair-other x (kindred.Int a b) other = refl
join_of_Pair-other x (kindred.Sym a) other = refl
join_of_Pair-other x (kindred.Text a) other = refl
join_of_Pair-other x (kindred.Pair' m (kindred.more_of-Twins a b kindred.end_of-Twins)) other = absurd (other (record { left = a; right = b }) refl)

-- it lies inside none
pub inside_Pair-other : (x : Twins) (k : Kindred) → ((y : Twins) → k ≡ kinds.Pair y → ⊥) → LiesInside (kinds.Pair x) k → ⊥
unfolding hidden-the_row-Twins-0 hidden
inside_Pair-other x kindred.Unit other h = h
inside_Pair-other x kindred.Bool other h = h
inside_Pair-other x (kindred.Int a b) other h = h
inside_Pair-other x (kindred.Sym a) other h = h
inside_Pair-other x (kindred.Text a) other h = h
inside_Pair-other x (kindred.Pair' m (kindred.more_of-Twins a b kindred.end_of-Twins)) other h = absurd (other (record { left = a; right = b }) refl)

-- and another type has no parts
pub twins_of-other : (k : Kindred) → ((y : Twins) → k ≡ kinds.Pair y → ⊥) → twins_of k ≡ None
unfolding hidden-the_row-Twins-0 hidden
twins_of-other kindred.Unit other = refl
twins_of-other kindred.Bool other = refl
twins_of-other (kindred.Int a b) other = refl
twins_of-other (kindred.Sym a) other = refl
twins_of-other (kindred.Text a) other = refl
twins_of-other (kindred.Pair' m (kindred.more_of-Twins a b kindred.end_of-Twins)) other = absurd (other (record { left = a; right = b }) refl)

-- a type of neither numbers nor pairs has no interval in it
pub within-other : (k : Kindred) → ((a b : ℤ) → k ≡ kinds.Int a b → ⊥) → ((y : Twins) → k ≡ kinds.Pair y → ⊥) → is_within k ≡ true
unfolding hidden-the_row-Twins-0 hidden
within-other kindred.Unit number other = refl
within-other kindred.Bool number other = refl
within-other (kindred.Int a b) number other = absurd (number a b refl)
within-other (kindred.Sym a) number other = refl
within-other (kindred.Text a) number other = refl
within-other (kindred.Pair' m (kindred.more_of-Twins a b kindred.end_of-Twins)) number other = absurd (other (record { left = a; right = b }) refl)

-- types of pairs of equal parts are equal
pub Twins_of-equal : (x y : Twins) → x.left ≡ y.left → x.right ≡ y.right → kinds.Pair x ≡ kinds.Pair y
Twins_of-equal x y left right = ap kinds.Pair (λ i. record { left = left i; right = right i })

-- two pairs are equal where both parts are
pub same-Pair : (x y : Couple) → same_value (values.Pair x) (values.Pair y) ≡ (same_value x.left y.left && same_value x.right y.right)
unfolding hidden-the_row-Couple-0 hidden
same-Pair x y = refl

-- and a pair equals no item that is no pair
pub same_Pair-other : (x : Couple) (v : Value) → ((y : Couple) → v ≡ values.Pair y → ⊥) → same_value (values.Pair x) v ≡ false
unfolding hidden-the_row-Couple-0 hidden
same_Pair-other x value.Unit other = refl
same_Pair-other x (value.Bool a) other = refl
same_Pair-other x (value.Int a) other = refl
same_Pair-other x (value.Sym a) other = refl
same_Pair-other x (value.Text a) other = refl
same_Pair-other x (value.Pair' m (value.more_of-Couple a b value.end_of-Couple)) other = absurd (other (record { left = a; right = b }) refl)
