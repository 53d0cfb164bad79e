-- Types of numbers, of texts and of pairs, by what they have.
use Rattle.std.proofs.Common.{ℕ, ◌≡◌, Some, ap}
use Rattle.std.specs.Prelude.{option_map}
use denote.Hole.Carrier.{hidden}
use Rattle.reo_values.specs.declared.kindred.Kindred as kindred
use Rattle.reo_values.specs.declared.kindred.Kindred.{Kindred}
use Rattle.reo_values.specs.declared.kindred.Kindred.TheVariants as kinds
use Rattle.reo_values.specs.declared.kindred.Kindred.TheBlock.{hidden-the_row-Twins-0}
use Rattle.reo_values.specs.declared.kindred.Twins.{Twins}
use Rattle.reo_exprs.specs.declared.interval.Interval.{Interval}
use Rattle.reo_exprs.specs.Kinds.{interval_of, most_of, twins_of}
use Rattle.reo_exprs.specs.Typing.{int_type, on_numbers}
use Rattle.reo_exprs.proofs.Options.{some_same, from_and_then, from_map}

-- a type with an interval is one of numbers
pub is_number : (k : Kindred) (x : Interval) → interval_of k ≡ Some x → k ≡ int_type x
is_number kindred.Unit x e = absurd (cc)
is_number kindred.Bool x e = absurd (cc)
is_number (kindred.Int a b) x e = ap int_type (some_same (record { low = a; high = b }) x e)
is_number (kindred.Sym names) x e = absurd (cc)
is_number (kindred.Text most) x e = absurd (cc)
is_number (kindred.Pair' n (kindred.more_of-Twins a b kindred.end_of-Twins)) x e = absurd (cc)

-- a type with a length is one of texts
pub is_text : (k : Kindred) (n : ℕ) → most_of k ≡ Some n → k ≡ kinds.Text n
is_text kindred.Unit j e = absurd (cc)
is_text kindred.Bool j e = absurd (cc)
is_text (kindred.Int a b) j e = absurd (cc)
is_text (kindred.Sym names) j e = absurd (cc)
is_text (kindred.Text most) j e = ap kinds.Text (some_same most j e)
is_text (kindred.Pair' n (kindred.more_of-Twins a b kindred.end_of-Twins)) j e = absurd (cc)

-- a type with parts is one of pairs
pub is_pair : (k : Kindred) (t : Twins) → twins_of k ≡ Some t → k ≡ kinds.Pair t
unfolding hidden-the_row-Twins-0 hidden
is_pair kindred.Unit t e = absurd (cc)
is_pair kindred.Bool t e = absurd (cc)
is_pair (kindred.Int a b) t e = absurd (cc)
is_pair (kindred.Sym names) t e = absurd (cc)
is_pair (kindred.Text most) t e = absurd (cc)
is_pair (kindred.Pair' n (kindred.more_of-Twins a b kindred.end_of-Twins)) t e = ap kinds.Pair (some_same (record { left = a; right = b }) t e)

-- a type made of two intervals came from two types of numbers
pub from_numbers : (f : Interval → Interval → Kindred) (a b t : Kindred) → on_numbers f a b ≡ Some t → (x : Interval) × (y : Interval) × (a ≡ int_type x) × (b ≡ int_type y) × (f x y ≡ t)
from_numbers f a b t e =
    let h = from_and_then (λ x. option_map (λ y. f x y) (interval_of b)) (interval_of a) t e in
    let g = from_map (λ y. f h.0 y) (interval_of b) t h.2 in
    (h.0, g.0, is_number a h.0 h.1, is_number b g.0 g.1, g.2)
