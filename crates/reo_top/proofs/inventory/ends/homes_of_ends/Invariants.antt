use Rattle.std.proofs.Common.{◌≡◌, ℕ, ◌<◌, ◌≤◌, length, drop, get_or}
use Rattle.reo_net_base.specs.Net.{end_of}
use Rattle.reo_top.specs.inventory.Ends.{home_of}
use Rattle.reo_top.proofs.inventory.ends.homes_of_ends.Given as goal

abbrev pub invariant-loop-left : goal.invariant-loop-left
invariant-loop-left l = (l.left ≤ length l.joints) × (length l.table.items ≡ l.count) × ((i : ℕ) → i < l.count → get_or l.table.items i 0 ≡ home_of (drop l.left l.joints) (drop l.left l.homes) (end_of i l.number))

abbrev pub decreases-loop-left : goal.decreases-loop-left
decreases-loop-left l = l.left
