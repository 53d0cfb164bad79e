use Rattle.std.proofs.Common.{◌≡◌, take}
use Rattle.std.specs.List.{flat_map}
use Rattle.reo_values.specs.Quoted.{quoted}
use Rattle.reo_values.proofs.symbols.text_of_names.Given as goal

abbrev pub invariant-loop-name : goal.invariant-loop-name
invariant-loop-name l = l.text ≡ flat_map quoted (take l.name-index l.names)
