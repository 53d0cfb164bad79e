-- The ports of a program.
use Rattle.std.specs.Prelude.{◌≡◌, List, [], length, map, take}
use Rattle.reo_values.specs.Valid.{AreDistinct}
use Rattle.reo_net_base.specs.declared.port.Port.{Port}
use Rattle.reo_trees.specs.declared.programs.Declaration.{Declaration}
use Rattle.reo_rules.specs.Twice.{twice}
use Rattle.reo_flat.specs.Flat.{ports_of, port_kind, nodes_of, primitives_of}

-- No two ports have one name, where no name stands twice.
abbrev pub PortsDiffer : Type 0
PortsDiffer = (ds : List Declaration) → twice ds ≡ [] → AreDistinct (map (λ (p : Port). p.name) (ports_of ds))

-- The first primitives are the ports, each a writer of its type or a taker, and the first nodes
-- are theirs.
pub record AreFirst (ds : List Declaration) : Type 0 where
  pub primitives : take (length (ports_of ds)) (primitives_of ds) ≡ map (λ (p : Port). port_kind p.way p.kindred) (ports_of ds)
  pub nodes : take (length (ports_of ds)) (nodes_of ds) ≡ map (λ (p : Port). p.name) (ports_of ds)

abbrev pub PortsAreFirst : Type 0
PortsAreFirst = (ds : List Declaration) → AreFirst ds
