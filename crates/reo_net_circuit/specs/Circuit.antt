-- What holds of every circuit and its tables.
use Rattle.std.specs.Prelude.{◌<◌, ◌^◌, length, map}
use Rattle.reo_net_base.specs.Behaviour.{Behaviour}
use Rattle.reo_net_base.specs.Net.{Wiring, net_of}
use Rattle.reo_net_base.specs.Wired.{IsWired, IsOrder, ArePorts}
use Rattle.reo_net_circuit.specs.declared.checked.CircuitTables.{CircuitTables}
use Rattle.reo_net_circuit.specs.Layout.{IsLaidOut}
use Rattle.reo_net_circuit.specs.CircuitTables.{AreMouths, ArePortJoints}

-- A circuit of fewer than 2^31 primitives and fewer than 2^31 joints, with its tables. The order of its joints tells
-- that it has no directed cycle of sides.
pub record IsCircuit {P : Type 0} (behaviour : P → Behaviour) (w : Wiring P) (tables : CircuitTables)
    : Type 0 where
  pub few_primitives : length w.primitives < 2 ^ 31
  pub few_joints : length w.joints < 2 ^ 31
  pub wired : IsWired (net_of behaviour w)
  pub are_ports : ArePorts (map behaviour w.primitives) w.ports
  pub ordered : IsOrder (net_of behaviour w) tables.order
  pub laid_out : IsLaidOut (map behaviour w.primitives) tables.firsts tables.owners
  pub mouths : AreMouths (net_of behaviour w) tables.mouths
  pub port_joints : ArePortJoints (net_of behaviour w) tables.port_joints
