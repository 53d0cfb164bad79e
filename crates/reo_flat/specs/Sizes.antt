-- A program without `main`, and one that unfolds to too much.
use Rattle.std.specs.Prelude.{Bool, ◌||◌, nat_lt, is_none, List, length, codes}
use Rattle.reo_trees.specs.declared.programs.Declaration.{Declaration}
use Rattle.reo_rules.specs.declared.fault.FlatFault.{FlatFault}
use Rattle.reo_rules.specs.declared.fault.FlatFault.TheVariants as faults
use Rattle.reo_rules.specs.Lists.{where_true}
use Rattle.reo_flat.specs.Unfolding.{Meaning, meaning_named, meanings_of}
use Rattle.reo_flat.specs.Flat.{main_of, primitives_of}

abbrev pub no_main : List Declaration → List FlatFault
no_main ds = where_true (is_none (main_of ds)) faults.NoMain

-- More than 4,096 primitives, more than 65,536 uses, or uses nested more than 64 deep.
abbrev pub is_too_many : List Declaration → Meaning → Bool
is_too_many ds m = nat_lt 4096 (length (primitives_of ds)) || nat_lt 65536 m.uses || nat_lt 64 m.depth

abbrev pub too_many : List Declaration → List FlatFault
too_many ds = where_true (is_too_many ds (meaning_named (meanings_of ds) (codes "main"))) faults.TooMany
