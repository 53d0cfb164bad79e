use Rattle.std.proofs.Common.{◌≡◌, take}
use Rattle.reo_trace_reader.proofs.ports.copy_ports.Given as goal

abbrev pub invariant-loop-port : goal.invariant-loop-port
invariant-loop-port l = l.list ≡ take l.port-index l.ports.list
