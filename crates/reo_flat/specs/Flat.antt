-- The flat circuit of a program.
use Rattle.std.specs.Prelude.{ℕ, suc, ◌+◌, ◌≡◌, nat_le, Bool, true, false, refl, Option, None, List, [], ◌∷◌, ◌++◌, length, map, replicate, codes}
use Rattle.std.specs.Option.{option_map_or}
use Rattle.std.specs.List.{flat_map}
use Rattle.std.proofs.lemmas.Bool.{leb-true}
use Rattle.reo_values.specs.declared.kindred.Kindred.{Kindred}
use Rattle.reo_net_base.specs.declared.joint.Joint.{Joint}
use Rattle.reo_net_base.specs.declared.port.Port.{Port}
use Rattle.reo_net_base.specs.declared.port.Way.{Way}
use Rattle.reo_net_base.specs.declared.port.Way.TheVariants.{In, Out}
use Rattle.reo_net_base.specs.Net.{Net, Wiring, net_of}
use Rattle.reo_kinds.specs.declared.kind.Kind.{Kind}
use Rattle.reo_kinds.specs.declared.kind.Kind.TheVariants as primitives
use Rattle.reo_net_base.specs.declared.branches.Branches.{Branches}
use Rattle.reo_kinds.specs.Kinds.{behaviour_of}
use Rattle.reo_trees.specs.declared.programs.Parameter.{Parameter}
use Rattle.reo_trees.specs.declared.programs.Connector.{Connector}
use Rattle.reo_trees.specs.declared.programs.Declaration.{Declaration}
use Rattle.reo_rules.specs.Lists.{where_true}
use Rattle.reo_rules.specs.Types.{Typed, types_of, resolved}
use Rattle.reo_rules.specs.Scopes.{connectors_of, connector_named, parameter_names}
use Rattle.reo_flat.specs.Unfolding.{Placed, meaning_named, meanings_of}
use Rattle.reo_flat.specs.Ends.{incoming, outgoing}
use Rattle.reo_flat.specs.Joints.{joints_of, many, is_many}

-- So many branches, where a merger or replicator can have as many; else a `sync`, which no accepted program has for it.
abbrev pub branched_with : (Branches → Kind) → (n : ℕ) (a b : Bool) → nat_le 2 n ≡ a → nat_le n 8192 ≡ b → Kind
branched_with made n true true some few = made (record { count = n; some = leb-true 2 n some; few = leb-true n 8192 few })
branched_with made n a b some few = primitives.Sync

abbrev pub branched : (Branches → Kind) → ℕ → Kind
branched made n = branched_with made n (nat_le 2 n) (nat_le n 8192) refl refl

abbrev pub way_of : Bool → Way
way_of true = In
way_of false = Out

abbrev pub port_kind : Way → Kindred → Kind
port_kind In kindred = primitives.Writer (record { kindred = kindred; offer = None; fitting = refl })
port_kind Out kindred = primitives.Taker (record { pending = false })

-- The connector that is unfolded.
abbrev pub main_of : List Declaration → Option Connector
main_of ds = connector_named (connectors_of ds) (codes "main")

abbrev pub main_parameters : List Declaration → List Parameter
main_parameters ds = option_map_or (λ (c : Connector). c.parameters) (main_of ds) []

-- The ports, as users see them.
abbrev pub port_of : List Typed → Parameter → Port
port_of types p = record { name = p.name; way = way_of p.inward; kindred = resolved types p.term.shape }

abbrev pub ports_of : List Declaration → List Port
ports_of ds = map (port_of (types_of ds)) (main_parameters ds)

abbrev pub port_placed : Port → Placed
port_placed p = record { kind = port_kind p.way p.kindred; nodes = p.name ∷ [] }

-- The nodes: those of the ports, and then those that `main` declares.
abbrev pub nodes_of : List Declaration → List (List ℕ)
nodes_of ds = parameter_names (main_parameters ds) ++ (meaning_named (meanings_of ds) (codes "main")).nodes []

-- What is placed between nodes: a port for each, and then the channels.
abbrev pub placed_of : List Declaration → List Placed
placed_of ds = map port_placed (ports_of ds) ++ (meaning_named (meanings_of ds) (codes "main")).channels [] (parameter_names (main_parameters ds))

-- A node's merger, where it has two incoming ends or more, and its replicator, where it has two outgoing ends or more.
abbrev pub own_kinds : List Placed → List ℕ → List Kind
own_kinds placed node =
    where_true (is_many (incoming placed node)) (branched primitives.Merger (length (incoming placed node)))
    ++ where_true (is_many (outgoing placed node)) (branched primitives.Replicator (length (outgoing placed node)))

-- The joints at nodes, whose own primitives begin at a number.
abbrev pub joints_at : List Placed → ℕ → List (List ℕ) → List Joint
joints_at placed at [] = []
joints_at placed at (n ∷ ns) =
    joints_of (incoming placed n) (outgoing placed n) at ++ joints_at placed (at + (many (incoming placed n) + many (outgoing placed n))) ns

-- The node of each of these joints, by its number.
abbrev pub homes_at : List Placed → ℕ → ℕ → List (List ℕ) → List ℕ
homes_at placed i at [] = []
homes_at placed i at (n ∷ ns) =
    replicate (length (joints_of (incoming placed n) (outgoing placed n) at)) i ++ homes_at placed (suc i) (at + (many (incoming placed n) + many (outgoing placed n))) ns

-- All primitives: what is placed, and then what nodes have of their own.
abbrev pub primitives_of : List Declaration → List Kind
primitives_of ds = map (λ (p : Placed). p.kind) (placed_of ds) ++ flat_map (own_kinds (placed_of ds)) (nodes_of ds)

abbrev pub joints_in : List Declaration → List Joint
joints_in ds = joints_at (placed_of ds) (length (placed_of ds)) (nodes_of ds)

abbrev pub homes_in : List Declaration → List ℕ
homes_in ds = homes_at (placed_of ds) 0 (length (placed_of ds)) (nodes_of ds)

-- The circuit: its primitives, of which the first are its ports, and its joints.
abbrev pub wiring_of_program : List Declaration → Wiring Kind
wiring_of_program ds = record { primitives = primitives_of ds; ports = length (ports_of ds); joints = joints_in ds }

-- The circuit as mathematics.
abbrev pub net_of_program : List Declaration → Net
net_of_program ds = net_of behaviour_of (wiring_of_program ds)
