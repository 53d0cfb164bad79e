-- Those of the nodes so far.
use Rattle.std.proofs.Common.{◌≡◌, ◌++◌, List, ℕ, take}
use Rattle.std.specs.List.{flat_map}
use Rattle.reo_flat.specs.Unfolding.{Placed}
use Rattle.reo_flat.specs.Flat.{own_kinds}
use Rattle.reo_flatten.specs.NodeEnds.{AreEnds}
use Rattle.reo_flatten.proofs.nodes.all_own.Given as goal

abbrev pub invariant-loop-node : goal.invariant-loop-node
invariant-loop-node l =
    (names : List (List ℕ)) (placed : List Placed) → AreEnds names placed l.ends → l.kinds ≡ l.initial.kinds ++ flat_map (own_kinds placed) (take l.node names)
