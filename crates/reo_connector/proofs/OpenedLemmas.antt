-- What an engine asks for of a circuit that was read.
use Rattle.std.proofs.Common.{List, map}
use Rattle.reo_runs.proofs.at_ports.Begun.{just_ports}
use Rattle.reo_command.specs.ReadSteps.{HasItsPorts}
use Rattle.reo_kinds.specs.Kinds.{port_state_of}
use Rattle.reo_kinds.specs.declared.kind.Kind.{Kind}
use Rattle.reo_net_base.specs.Net.{Wiring}
use Rattle.reo_net_base.specs.declared.port.Port.{Port}
use Rattle.reo_rounds.specs.Offering.{AreJustPorts}

-- Exactly its ports have a way.
pub just : (w : Wiring Kind) (ports : List Port) → HasItsPorts w ports → AreJustPorts (map port_state_of w.primitives) w.ports
just w ports its = just_ports (map port_state_of w.primitives) w.ports ports its.count its.has
