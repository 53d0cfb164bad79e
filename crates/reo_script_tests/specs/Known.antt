-- The ports of the tests.
use Rattle.std.specs.Prelude.{ℕ, pos, List, [], ◌∷◌}
use Rattle.reo_values.specs.declared.kindred.Kindred.TheVariants as kindreds
use Rattle.reo_net_base.specs.declared.port.Port.{Port}
use Rattle.reo_net_base.specs.declared.port.Way.{Way}
use Rattle.reo_net_base.specs.declared.port.Way.TheVariants.{In, Out}

-- A port with a name of one byte, whose items are 0 to 99.
abbrev pub known : ℕ → Way → Port
known name way = record { name = name ∷ []; way = way; kindred = kindreds.Int (pos 0) (pos 99) }

-- The names are a, b, c and d.
abbrev pub all_known : List Port
all_known = known 97 In ∷ known 98 Out ∷ known 99 In ∷ known 100 Out ∷ []
