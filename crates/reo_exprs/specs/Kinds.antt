-- Kinds of types, and types that join.
use Rattle.std.specs.Prelude.{ℕ, Bool, true, false, ◌&&◌, ◌≡◌, ◌≤◌, ◌≤ℤ◌, pos, max, Option, Some, None, bytes_eq}
use Rattle.std.specs.Cmp.Lexicographic.{pointwise}
use Rattle.reo_values.specs.declared.kindred.Kindred as kindred
use Rattle.reo_values.specs.declared.kindred.Kindred.{Kindred}
use Rattle.reo_values.specs.declared.kindred.Kindred.TheVariants as kinds
use Rattle.reo_values.specs.declared.kindred.Twins.{Twins}
use Rattle.reo_exprs.specs.declared.interval.Interval.{Interval}
use Rattle.reo_exprs.specs.Interval.{is_near, hull}

-- the kind of a type: the type with each bound and each length forgotten
abbrev pub kind_of : Kindred → Kindred
kind_of (kindred.Int low high) = kinds.Int (pos 0) (pos 0)
kind_of (kindred.Text most) = kinds.Text 0
kind_of (kindred.Pair' n (kindred.more_of-Twins a b _)) = kinds.Pair (record { left = kind_of a; right = kind_of b })
kind_of k = k

-- whether two types join: their kinds are equal
abbrev pub joins : Kindred → Kindred → Bool
joins kindred.Unit kindred.Unit = true
joins kindred.Bool kindred.Bool = true
joins (kindred.Int low high) (kindred.Int low2 high2) = true
joins (kindred.Sym names) (kindred.Sym names2) = pointwise bytes_eq names names2
joins (kindred.Text most) (kindred.Text most2) = true
joins (kindred.Pair' m (kindred.more_of-Twins a b _)) (kindred.Pair' n (kindred.more_of-Twins c d _)) = joins a c && joins b d
joins _ _ = false

-- the join of two types that join: the least interval that contains both, and the greater length
abbrev pub join_of : Kindred → Kindred → Kindred
join_of (kindred.Int low high) (kindred.Int low2 high2) =
    let both = hull (record { low = low; high = high }) (record { low = low2; high = high2 }) in
    kinds.Int both.low both.high
join_of (kindred.Text most) (kindred.Text most2) = kinds.Text (max most most2)
join_of (kindred.Pair' m (kindred.more_of-Twins a b _)) (kindred.Pair' n (kindred.more_of-Twins c d _)) = kinds.Pair (record { left = join_of a c; right = join_of b d })
join_of k _ = k

-- the first type lies inside the second: they join, and so do its intervals and lengths
abbrev pub LiesInside : Kindred → Kindred → Type 0
LiesInside kindred.Unit kindred.Unit = Unit {0}
LiesInside kindred.Bool kindred.Bool = Unit {0}
LiesInside (kindred.Int low high) (kindred.Int low2 high2) = (low2 ≤ℤ low) × (high ≤ℤ high2)
LiesInside (kindred.Sym names) (kindred.Sym names2) = names ≡ names2
LiesInside (kindred.Text most) (kindred.Text most2) = most ≤ most2
LiesInside (kindred.Pair' m (kindred.more_of-Twins a b _)) (kindred.Pair' n (kindred.more_of-Twins c d _)) = LiesInside a c × LiesInside b d
LiesInside _ _ = ⊥

-- whether each interval in the type has both bounds from -10^18 to 10^18
abbrev pub is_within : Kindred → Bool
is_within (kindred.Int low high) = is_near low && is_near high
is_within (kindred.Pair' n (kindred.more_of-Twins a b _)) = is_within a && is_within b
is_within k = true

-- the interval of a type of numbers
abbrev pub interval_of : Kindred → Option Interval
interval_of (kindred.Int low high) = Some (record { low = low; high = high })
interval_of k = None

-- the length of a type of texts
abbrev pub most_of : Kindred → Option ℕ
most_of (kindred.Text most) = Some most
most_of k = None

-- the types of the parts of a type of pairs
abbrev pub twins_of : Kindred → Option Twins
twins_of (kindred.Pair' n (kindred.more_of-Twins a b _)) = Some (record { left = a; right = b })
twins_of k = None

-- whether a type is that of truth values
abbrev pub is_bool : Kindred → Bool
is_bool kindred.Bool = true
is_bool k = false
