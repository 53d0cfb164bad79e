-- The ends at a node.
use Rattle.std.specs.Prelude.{ℕ, suc, Bool, true, false, ◌&&◌, List, [], ◌∷◌, ◌++◌, bytes_eq}
use Rattle.reo_net_base.specs.declared.joint.End.{End}
use Rattle.reo_net_base.specs.Behaviour.{Behaviour}
use Rattle.reo_net_base.specs.Net.{end_of}
use Rattle.reo_kinds.specs.Kinds.{behaviour_of}
use Rattle.reo_rules.specs.Lists.{where_true}
use Rattle.reo_rules.specs.Touches.{bool_eq}
use Rattle.reo_flat.specs.Unfolding.{Placed}

-- The ends of one primitive, from this one on, that are at a node and take in, or give.
abbrev pub ends_in : Behaviour → Bool → List ℕ → ℕ → ℕ → List (List ℕ) → List End
ends_in b takes node i end [] = []
ends_in b takes node i end (n ∷ ns) = where_true (bytes_eq node n && bool_eq (b.takes_in end) takes) (end_of i end) ++ ends_in b takes node i (suc end) ns

-- The ends of primitives, from this number on, in order.
abbrev pub ends_from : Bool → List ℕ → ℕ → List Placed → List End
ends_from takes node i [] = []
ends_from takes node i (p ∷ ps) = ends_in (behaviour_of p.kind) takes node i 0 p.nodes ++ ends_from takes node (suc i) ps

-- The ends that give items to a node, and those that take items from it.
abbrev pub incoming : List Placed → List ℕ → List End
incoming placed node = ends_from false node 0 placed

abbrev pub outgoing : List Placed → List ℕ → List End
outgoing placed node = ends_from true node 0 placed
