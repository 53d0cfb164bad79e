-- The circuit of a program.
use Rattle.std.specs.Prelude.{◌≡◌, ◌≤◌, List, [], length}
use Rattle.std.specs.List.{All}
use Rattle.reo_net_base.specs.Wired.{ArePorts}
use Rattle.reo_net_circuit.specs.Parts.{AreJoints}
use Rattle.reo_net_circuit.specs.Fault.{AllJoined, AllRight}
use Rattle.reo_trees.specs.declared.programs.Declaration.{Declaration}
use Rattle.reo_rules.specs.Scopes.{connectors_of}
use Rattle.reo_flat.specs.Flat.{primitives_of, joints_in, ports_of, net_of_program}
use Rattle.reo_flat.specs.Refusals.{breaks}
use Rattle.reo_flat.specs.flatten_laws.Plain.{HasPlainNames}

-- What a circuit is made from, with no fault in it but a cycle.
pub record IsMade (ds : List Declaration) : Type 0 where
  pub ports : ArePorts (net_of_program ds).primitives (length (ports_of ds))
  pub ends : AreJoints (net_of_program ds)
  pub joined : AllJoined (net_of_program ds)
  pub right : AllRight (net_of_program ds)

-- So it is where no rule is broken and no name has the byte `@`.
abbrev pub CircuitsAreMade : Type 0
CircuitsAreMade =
    (ds : List Declaration) → All HasPlainNames (connectors_of ds) → breaks ds ≡ [] → IsMade ds

-- And there are few joints and few primitives.
abbrev pub CircuitsAreSmall : Type 0
CircuitsAreSmall =
    (ds : List Declaration) → All HasPlainNames (connectors_of ds) → breaks ds ≡ []
    → (length (joints_in ds) ≤ 16384) × (length (primitives_of ds) ≤ 4096)
