-- No item so far has a break.
use Rattle.std.proofs.Common.{◌≡◌, List, [], take}
use Rattle.std.specs.List.{flat_map}
use Rattle.reo_trees.specs.declared.items.Item.{Item}
use Rattle.reo_rules.specs.Touches.{Touch}
use Rattle.reo_rules_names.specs.EndsAtNames.{AreEnds}
use Rattle.reo_rules.specs.Dangling.{dangling_in_item}
use Rattle.reo_rules_names.proofs.dangling.items_dangling.Given as goal

abbrev pub invariant-loop-item : goal.invariant-loop-item
invariant-loop-item l =
    (touches : List Touch) → AreEnds touches l.ends → flat_map (λ (i : Item). dangling_in_item touches i.line i.form) (take l.item-index l.items) ≡ []
