use Rattle.std.proofs.Common.{◌≡◌, map, take}
use Rattle.reo_net_base.specs.declared.port.Port.{Port}
use Rattle.reo_script.proofs.script.names_of.Given as goal

abbrev pub invariant-loop-port : goal.invariant-loop-port
invariant-loop-port l = l.names ≡ map (λ (p : Port). p.name) (take l.port-index l.ports)
