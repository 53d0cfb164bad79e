-- Those of the nodes so far.
use Rattle.std.proofs.Common.{◌≡◌, ◌≤◌, ◌+◌, ◌*◌, List, ℕ, take}
use Rattle.reo_flat.specs.Unfolding.{Placed}
use Rattle.reo_flat.specs.Flat.{joints_at, homes_at}
use Rattle.reo_flatten.specs.NodeEnds.{AreEnds}
use Rattle.reo_flatten.proofs.WiringLemmas.{after}
use Rattle.reo_flatten.proofs.nodes.all_joints.Given as goal

abbrev pub invariant-loop-node : goal.invariant-loop-node
invariant-loop-node l = record {
  bound : l.at ≤ l.first + 2 * l.node;
  at : (names : List (List ℕ)) (placed : List Placed) → AreEnds names placed l.ends → l.at ≡ after placed l.first (take l.node names);
  joints : (names : List (List ℕ)) (placed : List Placed) → AreEnds names placed l.ends → l.made.joints ≡ joints_at placed l.first (take l.node names);
  homes : (names : List (List ℕ)) (placed : List Placed) → AreEnds names placed l.ends → l.made.homes ≡ homes_at placed 0 l.first (take l.node names);
}
