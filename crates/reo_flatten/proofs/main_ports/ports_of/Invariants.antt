-- Those so far.
use Rattle.std.proofs.Common.{◌≡◌, List, map, take}
use Rattle.reo_rules.specs.Types.{Typed}
use Rattle.reo_flat.specs.Flat.{port_of}
use Rattle.reo_unfold.specs.Known.{AreTypes}
use Rattle.reo_flatten.proofs.main_ports.ports_of.Given as goal

abbrev pub invariant-loop-parameter : goal.invariant-loop-parameter
invariant-loop-parameter l = (ts : List Typed) → AreTypes ts l.types → l.made ≡ map (port_of ts) (take l.parameter-index l.parameters)
