use Rattle.std.proofs.Common.{◌≡◌, map, take}
use Rattle.reo_expand.specs.base.Lifted.{lifted_item}
use Rattle.reo_expand.proofs.base.lifting.lift_items.Given as goal

abbrev pub invariant-loop-item : goal.invariant-loop-item
invariant-loop-item l = l.lifts ≡ map lifted_item (take l.item-index l.items)
