-- The ports of flat circuits.
use Rattle.std.specs.Prelude.{◌≡◌, [], map}
use Rattle.std.specs.List.{All}
use Rattle.reo_values.specs.Valid.{AreDistinct}
use Rattle.reo_net_base.specs.declared.port.Port.{Port}
use Rattle.reo_rules.specs.literals.Items.{HasFewNames}
use Rattle.reo_kinds.specs.Kinds.{port_state_of}
use Rattle.reo_trees.specs.declared.programs.Program.{Program}
use Rattle.reo_syntax_laws.specs.trees_laws.Spelled.{IsSpelled}
use Rattle.reo_flat.specs.Flat.{ports_of, primitives_of}
use Rattle.reo_flat.specs.Refusals.{breaks}
use Rattle.reo_runs.specs.run_premises.PortsOf.{HasPorts, AreFree}

-- What a run asks of a circuit and its ports: the first primitives are the ports, no offer is pending, no two ports have
-- one name, and no port's type has too many symbols.
pub record ArePorts (p : Program) : Type 0 where
  pub ports : HasPorts (map port_state_of (primitives_of p.declarations)) (ports_of p.declarations)
  pub free : AreFree (map port_state_of (primitives_of p.declarations))
  pub distinct : AreDistinct (map (λ (port : Port). port.name) (ports_of p.declarations))
  pub few : All (λ (port : Port). HasFewNames port.kindred) (ports_of p.declarations)

-- So it is in a program as a text says it that breaks no rule.
abbrev pub FlatPortsFit : Type 0
FlatPortsFit = (p : Program) → IsSpelled p → breaks p.declarations ≡ [] → ArePorts p
