-- Intervals of whole numbers.
use Rattle.std.specs.Prelude.{Bool, Option, Some, None, ◌&&◌, ◌^◌, ◌*ℤ◌, ◌+ℤ◌, ◌-ℤ◌, neg_ℤ, ℤ, pos, int_le, int_div, if◌then◌else◌}
use Rattle.std.specs.Int.{int_min, int_max}
use Rattle.reo_values.specs.declared.operator.Binary.TheVariants as binary
use Rattle.reo_values.specs.declared.operator.Binary.{Binary}
use Rattle.reo_exprs.specs.declared.interval.Interval.{Interval}

-- the greatest number, and the negated least, that an interval in an expression may have
abbrev pub reach : ℤ
reach = pos (10 ^ 18)

-- the number is neither below nor above what an expression may have
abbrev pub is_near : ℤ → Bool
is_near z = int_le (neg_ℤ reach) z && int_le z reach

-- the number, where it is such
abbrev pub near_number : ℤ → Option ℤ
near_number z = if is_near z then Some z else None

-- whether both bounds of an interval are such, and the interval where they are
abbrev pub is_near_interval : Interval → Bool
is_near_interval x = is_near x.low && is_near x.high

abbrev pub near : Interval → Option Interval
near x = if is_near_interval x then Some x else None

-- the least and the greatest of four numbers
abbrev pub least : ℤ → ℤ → ℤ → ℤ → ℤ
least a b c d = int_min (int_min a b) (int_min c d)

abbrev pub greatest : ℤ → ℤ → ℤ → ℤ → ℤ
greatest a b c d = int_max (int_max a b) (int_max c d)

-- the least interval with all results of an operation that is greatest and least at bounds
abbrev pub corners : (ℤ → ℤ → ℤ) → Interval → Interval → Interval
corners f x y =
    let a = f x.low y.low in
    let b = f x.low y.high in
    let c = f x.high y.low in
    let d = f x.high y.high in
    record { low = least a b c d; high = greatest a b c d }

-- the numbers of an interval, negated
abbrev pub negated : Interval → Interval
negated x = record { low = neg_ℤ x.high; high = neg_ℤ x.low }

-- the sums, differences and products of the numbers of two intervals
abbrev pub sum : Interval → Interval → Interval
sum x y = record { low = x.low +ℤ y.low; high = x.high +ℤ y.high }

abbrev pub difference : Interval → Interval → Interval
difference x y = record { low = x.low -ℤ y.high; high = x.high -ℤ y.low }

abbrev pub product : Interval → Interval → Interval
product x y = corners (λ a b. a *ℤ b) x y

-- their quotients, rounded towards zero, where the divisor is at least 1
abbrev pub quotient : Interval → Interval → Interval
quotient x y = corners int_div x y

-- the least and the greatest remainder of numbers from the low bound or to the high one, by numbers up to the divisor
abbrev pub least_rest : ℤ → ℤ → ℤ
least_rest low divisor = if int_le (pos 0) low then pos 0 else int_max low (pos 1 -ℤ divisor)

abbrev pub greatest_rest : ℤ → ℤ → ℤ
greatest_rest high divisor = if int_le high (pos 0) then pos 0 else int_min high (divisor -ℤ pos 1)

-- and their remainders, each with the sign of the number that is divided
abbrev pub remainder : Interval → Interval → Interval
remainder x y = record { low = least_rest x.low y.high; high = greatest_rest x.high y.high }

-- the least interval that contains two
abbrev pub hull : Interval → Interval → Interval
hull x y = record { low = int_min x.low y.low; high = int_max x.high y.high }

-- the numbers that an operator gives
abbrev pub arithmetic : Binary → Interval → Interval → Interval
arithmetic binary.Add x y = sum x y
arithmetic binary.Sub x y = difference x y
arithmetic binary.Mul x y = product x y
arithmetic binary.Div x y = quotient x y
arithmetic op x y = remainder x y
