-- Those so far.
use Rattle.std.proofs.Common.{◌≡◌, map, take}
use Rattle.reo_net_base.specs.declared.port.Port.{Port}
use Rattle.reo_flat.specs.Flat.{port_placed}
use Rattle.reo_flatten.proofs.main_ports.port_kinds.Given as goal

abbrev pub invariant-loop-port : goal.invariant-loop-port
invariant-loop-port l = l.made ≡ map (λ (p : Port). (port_placed p).kind) (take l.port-index l.ports)
