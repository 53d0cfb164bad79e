-- The nodes that joints are at.
use Rattle.std.specs.Prelude.{ℕ, ◌≡◌, ◌<◌, ◌≤◌, List, [], length, slice_index, slice_index_or}
use Rattle.std.specs.List.{All}
use Rattle.reo_net_base.specs.declared.joint.End.{End}
use Rattle.reo_net_base.specs.declared.joint.Joint.{Joint}
use Rattle.reo_trees.specs.declared.programs.Declaration.{Declaration}
use Rattle.reo_flat.specs.Unfolding.{Placed}
use Rattle.reo_net_base.specs.Net.{from_sides, to_sides}
use Rattle.reo_net_base.specs.Wired.{OnCycle}
use Rattle.reo_flat.specs.Flat.{nodes_of, placed_of, joints_in, homes_in, net_of_program}
use Rattle.reo_flat.specs.Refusals.{IsOnCycleFirst}

-- There are as many homes as joints.
abbrev pub HomesFit : Type 0
HomesFit = (ds : List Declaration) → length (homes_in ds) ≡ length (joints_in ds)

-- Each home is the number of a node.
abbrev pub HomesAreNodes : Type 0
HomesAreNodes = (ds : List Declaration) → All (λ h. h < length (nodes_of ds)) (homes_in ds)

-- The homes rise with the numbers of the joints.
abbrev pub HomesRise : Type 0
HomesRise = (ds : List Declaration) (j k : ℕ) → j ≤ k → k < length (homes_in ds)
    → slice_index (homes_in ds) j ≤ slice_index (homes_in ds) k

-- The node of the least joint on a directed cycle is the first node that lies on one: no joint on a cycle has an
-- earlier home.
abbrev pub FirstNodeOnCycle : Type 0
FirstNodeOnCycle = (ds : List Declaration) (node : List ℕ) (c : IsOnCycleFirst ds node) (k : ℕ)
    → OnCycle (from_sides (net_of_program ds)) (to_sides (net_of_program ds)) k
    → slice_index (homes_in ds) c.joint ≤ slice_index (homes_in ds) k

-- An end of what is placed is at this node; the ends of mergers and replicators are at the node
-- that has them.
abbrev pub IsAtNode : List Placed → List ℕ → End → Type 0
IsAtNode placed node e =
    (d : Placed) → e.primitive < length placed
    → slice_index_or (slice_index_or placed e.primitive d).nodes e.end [] ≡ node

-- The node that a joint is at.
abbrev pub home_name : List Declaration → ℕ → List ℕ
home_name ds j = slice_index_or (nodes_of ds) (slice_index (homes_in ds) j) []

-- Both ends of each joint are at its home.
abbrev pub EndsAreAtHome : Type 0
EndsAreAtHome =
    (ds : List Declaration) (j : ℕ) (d : Joint) → j < length (joints_in ds)
    → IsAtNode (placed_of ds) (home_name ds j) (slice_index_or (joints_in ds) j d).giver
    × IsAtNode (placed_of ds) (home_name ds j) (slice_index_or (joints_in ds) j d).taker
