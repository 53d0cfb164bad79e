-- What a run asks of a circuit, its ports and a script.
use Rattle.std.specs.Prelude.{ℕ, ◌≡◌, List, length, map}
use Rattle.reo_net_base.specs.declared.port.Port.{Port}
use Rattle.reo_net_base.specs.PortState.{PortState}
use Rattle.reo_script.specs.declared.scripts.action.Component.{Component}
use Rattle.reo_players.specs.Written.{written_out}
use Rattle.reo_runs.specs.run_premises.Fitting.{FitPorts}
use Rattle.reo_runs.specs.run_premises.PortsOf.{HasPorts, AreFree}

-- The ports are the circuit's and no offer is pending, and the actions of the components fit the ports.
pub record CanRun (states : List PortState) (count : ℕ) (ports : List Port) (components : List Component) : Type 0 where
  pub count_is : count ≡ length ports
  pub ports_are : HasPorts states ports
  pub free : AreFree states
  pub fit : FitPorts ports (map written_out components)
