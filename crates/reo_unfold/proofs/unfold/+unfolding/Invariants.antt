-- A use is of a connector before, and the items so far.
use Rattle.std.proofs.Common.{◌≡◌, ◌+◌, ◌*◌, take, count_by}
use Rattle.reo_trees.specs.declared.items.Item.{Item}
use Rattle.reo_flat.specs.Unfolding.{is_use}
use Rattle.reo_unfold.specs.Frames.{AddsItems}
use Rattle.reo_unfold.proofs.unfold.+unfolding.Given as goal

abbrev pub decreases-connector : goal.decreases-connector
decreases-connector l = 4 * l.number + 3

abbrev pub decreases-items : goal.decreases-items
decreases-items l = 4 * l.frame.now.number + 2

abbrev pub decreases-item : goal.decreases-item
decreases-item l = 4 * l.frame.now.number + 1

abbrev pub decreases-used : goal.decreases-used
decreases-used l = 4 * l.frame.now.number

abbrev pub invariant-items-loop-one : goal.invariant-items-loop-one
invariant-items-loop-one l = record {
  made : AddsItems l.frame l.initial.path (take l.one-index l.frame.connector.now.items) l.initial.made l.made;
  path : l.path ≡ l.initial.path;
  uses : count_by (λ (i : Item). is_use i.form) (take l.one-index l.frame.connector.now.items) ≡ l.uses;
  items : l.one-items ≡ l.frame.connector.now.items;
}
