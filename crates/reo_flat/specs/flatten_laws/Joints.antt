-- The joints of a program.
use Rattle.std.specs.Prelude.{◌≡◌, List, []}
use Rattle.std.specs.List.{All}
use Rattle.reo_net_circuit.specs.Parts.{AreJoints}
use Rattle.reo_net_circuit.specs.Fault.{AllJoined, AllRight}
use Rattle.reo_trees.specs.declared.programs.Declaration.{Declaration}
use Rattle.reo_rules.specs.Scopes.{connectors_of}
use Rattle.reo_rules.specs.Twice.{twice}
use Rattle.reo_rules.specs.Unknown.{unknown}
use Rattle.reo_rules.specs.Arity.{arity}
use Rattle.reo_flat.specs.Flat.{nodes_of, placed_of, net_of_program}
use Rattle.reo_flat.specs.flatten_laws.Plain.{HasPlainNames}
use Rattle.reo_flat.specs.flatten_laws.Nodes.{IsServed}

-- Each end of each primitive is in exactly one joint, where names are right and nodes have their
-- ends.
abbrev pub EndsAreJoined : Type 0
EndsAreJoined =
    (ds : List Declaration) → All HasPlainNames (connectors_of ds)
    → twice ds ≡ [] → unknown ds ≡ [] → arity ds ≡ []
    → All (IsServed (placed_of ds)) (nodes_of ds) → AllJoined (net_of_program ds)

-- Joints are between ends that there are, from one that gives to one that takes in.
abbrev pub JointsGoRight : Type 0
JointsGoRight =
    (ds : List Declaration) → All (IsServed (placed_of ds)) (nodes_of ds)
    → AllRight (net_of_program ds) × AreJoints (net_of_program ds)
