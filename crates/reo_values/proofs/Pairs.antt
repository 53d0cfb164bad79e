-- What definitions by cases say of pairs.
use Rattle.std.proofs.Common.{ℕ, zero, suc, max, List, None, get_or, ◌∷◌, ◌++◌, [], ◌≡◌, ◌∙◌, ap, sym, refl}
use Rattle.std.specs.Prelude.{slice_get}
use denote.Hole.Carrier.{hidden}
use Rattle.reo_values.specs.declared.kindred.Kindred as kindred
use Rattle.reo_values.specs.declared.value.Value.TheBlock.{hidden-the_row-Couple-0}
use Rattle.reo_values.specs.declared.kindred.Kindred.TheBlock.{hidden-the_row-Twins-0}
use Rattle.reo_values.specs.declared.value.Couple.{Couple}
use Rattle.reo_values.specs.declared.kindred.Twins.{Twins}
use Rattle.reo_values.specs.declared.value.Value.TheVariants as values
use Rattle.reo_values.specs.declared.kindred.Kindred.TheVariants as kinds
use Rattle.reo_values.specs.declared.kindred.Kindred.{Kindred}
use Rattle.reo_values.specs.ItemText.{text_of}
use Rattle.reo_values.specs.Kind.{IsIn}
use Rattle.reo_values.specs.Valid.{IsValid}
use Rattle.reo_values.specs.Pair.{left_of, right_of}

-- a pair is of a type of pairs where its parts are of the parts
pub IsIn-Pair : (x : Couple) (y : Twins) → IsIn (values.Pair x) (kinds.Pair y) ≡ (IsIn x.left y.left × IsIn x.right y.right)
unfolding hidden-the_row-Couple-0 hidden hidden-the_row-Twins-0
IsIn-Pair x y = refl

-- and of no other type
pub IsIn_Pair-other : (x : Couple) (k : Kindred) → ((y : Twins) → k ≡ kinds.Pair y → ⊥) → IsIn (values.Pair x) k → ⊥
unfolding hidden-the_row-Couple-0 hidden hidden-the_row-Twins-0
IsIn_Pair-other x kindred.Unit other h = h
IsIn_Pair-other x kindred.Bool other h = h
IsIn_Pair-other x (kindred.Int a b) other h = h
IsIn_Pair-other x (kindred.Sym a) other h = h
IsIn_Pair-other x (kindred.Text a) other h = h
IsIn_Pair-other x (kindred.Pair' m (kindred.more_of-Twins a b kindred.end_of-Twins)) other h = other (record { left = a; right = b }) refl

-- a type of pairs is valid where its parts are
pub IsValid-Pair : (y : Twins) → IsValid (kinds.Pair y) ≡ (IsValid y.left × IsValid y.right)
unfolding hidden-the_row-Twins-0 hidden
IsValid-Pair y = refl

-- how deep pairs are nested in a type
abbrev pub levels : Kindred → ℕ
levels kindred.Unit = 0
levels kindred.Bool = 0
levels (kindred.Int a b) = 0
levels (kindred.Sym a) = 0
levels (kindred.Text a) = 0
levels (kindred.Pair' m (kindred.more_of-Twins a b _)) = suc (max (levels a) (levels b))

pub levels-Pair : (y : Twins) → levels (kinds.Pair y) ≡ suc (max (levels y.left) (levels y.right))
unfolding hidden-the_row-Twins-0 hidden
levels-Pair y = refl

-- pairs of equal parts are equal
pub Pair_of-equal : (x y : Couple) → x.left ≡ y.left → x.right ≡ y.right → values.Pair x ≡ values.Pair y
Pair_of-equal x y left right = ap values.Pair (λ i. record { left = left i; right = right i })

-- and the parts of equal pairs are equal
pub left_of-Pair : (x : Couple) → left_of (values.Pair x) ≡ x.left
unfolding hidden-the_row-Couple-0 hidden
left_of-Pair x = refl

pub right_of-Pair : (x : Couple) → right_of (values.Pair x) ≡ x.right
unfolding hidden-the_row-Couple-0 hidden
right_of-Pair x = refl

pub Pair-injective : (x y : Couple) → values.Pair x ≡ values.Pair y → (x.left ≡ y.left) × (x.right ≡ y.right)
Pair-injective x y e = (sym (left_of-Pair x) ∙ ap left_of e ∙ left_of-Pair y, sym (right_of-Pair x) ∙ ap right_of e ∙ right_of-Pair y)

-- the text of a pair is made of those of its parts
pub text_of-Pair : (x : Couple) (y : Twins) → text_of (values.Pair x) (kinds.Pair y) ≡ 40 ∷ text_of x.left y.left ++ 44 ∷ text_of x.right y.right ++ 41 ∷ []
unfolding hidden-the_row-Couple-0 hidden hidden-the_row-Twins-0
text_of-Pair x y = refl

pub text_of_Pair-other : (x : Couple) (k : Kindred) → ((y : Twins) → k ≡ kinds.Pair y → ⊥) → text_of (values.Pair x) k ≡ []
unfolding hidden-the_row-Couple-0 hidden hidden-the_row-Twins-0
text_of_Pair-other x kindred.Unit other = refl
text_of_Pair-other x kindred.Bool other = refl
text_of_Pair-other x (kindred.Int a b) other = refl
text_of_Pair-other x (kindred.Sym a) other = refl
text_of_Pair-other x (kindred.Text a) other = refl
text_of_Pair-other x (kindred.Pair' m (kindred.more_of-Twins a b kindred.end_of-Twins)) other = absurd (other (record { left = a; right = b }) refl)

-- where there is no name the default is read
pub get_or-none : (xs : List (List ℕ)) (k : ℕ) → None ≡ slice_get xs k → get_or xs k [] ≡ []
get_or-none [] k e = refl
get_or-none (x ∷ xs) zero e = absurd (cc)
get_or-none (x ∷ xs) (suc k) e = get_or-none xs k e
