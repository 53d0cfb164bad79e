-- The ports of the tests that read traces and proof texts.
use Rattle.std.specs.Prelude.{ℕ, pos, List, [], ◌∷◌}
use Rattle.reo_values.specs.declared.kindred.Kindred.{Kindred}
use Rattle.reo_values.specs.declared.kindred.Kindred.TheVariants.{Int, Text}
use Rattle.reo_net_base.specs.declared.port.Port.{Port}
use Rattle.reo_net_base.specs.declared.port.Way.{Way}
use Rattle.reo_net_base.specs.declared.port.Way.TheVariants.{In, Out}

-- A port with a name of one byte.
abbrev pub told_port : ℕ → Way → Kindred → Port
told_port name way kindred = record { name = name ∷ []; way = way; kindred = kindred }

-- The names are a, b and c.
abbrev pub all_told : List Port
all_told = told_port 97 In (Int (pos 0) (pos 9)) ∷ told_port 98 Out (Int (pos 0) (pos 9)) ∷ told_port 99 Out (Text 9) ∷ []
