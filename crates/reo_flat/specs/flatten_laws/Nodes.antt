-- The nodes of a program.
use Rattle.std.specs.Prelude.{ℕ, ◌≡◌, ◌<◌, ◌≤◌, true, List, [], length}
use Rattle.std.specs.List.{All}
use Rattle.reo_values.specs.Valid.{AreDistinct}
use Rattle.reo_trees.specs.declared.programs.Declaration.{Declaration}
use Rattle.reo_rules.specs.Lists.{has_name}
use Rattle.reo_rules.specs.Scopes.{connectors_of}
use Rattle.reo_rules.specs.Twice.{twice}
use Rattle.reo_rules.specs.Unknown.{unknown}
use Rattle.reo_rules.specs.Arity.{arity}
use Rattle.reo_flat.specs.Unfolding.{Placed}
use Rattle.reo_flat.specs.Ends.{incoming, outgoing}
use Rattle.reo_flat.specs.Flat.{nodes_of, placed_of}
use Rattle.reo_flat.specs.Refusals.{breaks}
use Rattle.reo_flat.specs.flatten_laws.Plain.{HasPlainNames}

-- What is placed is at nodes that there are, where no name is unknown and each use has an argument
-- for each parameter.
abbrev pub NodesAreKnown : Type 0
NodesAreKnown =
    (ds : List Declaration) → unknown ds ≡ [] → arity ds ≡ []
    → All (λ (p : Placed). All (λ n. has_name (nodes_of ds) n ≡ true) p.nodes) (placed_of ds)

-- No two nodes have one flat name, where no name stands twice and none has the byte `@`.
abbrev pub NodesAreDistinct : Type 0
NodesAreDistinct =
    (ds : List Declaration) → All HasPlainNames (connectors_of ds) → twice ds ≡ []
    → AreDistinct (nodes_of ds)

-- The node has an incoming and an outgoing end, and no more than a merger or a replicator can have.
pub record IsServed (placed : List Placed) (node : List ℕ) : Type 0 where
  pub incoming_some : 0 < length (incoming placed node)
  pub outgoing_some : 0 < length (outgoing placed node)
  pub incoming_few : length (incoming placed node) ≤ 8192
  pub outgoing_few : length (outgoing placed node) ≤ 8192

-- Each node is, where no rule is broken.
abbrev pub NodesAreServed : Type 0
NodesAreServed =
    (ds : List Declaration) → breaks ds ≡ [] → All (IsServed (placed_of ds)) (nodes_of ds)
