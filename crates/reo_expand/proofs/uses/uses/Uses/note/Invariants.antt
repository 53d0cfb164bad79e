use Rattle.std.proofs.Common.{◌≡◌, ℕ, List, take}
use Rattle.std.specs.Prelude.{◌||◌}
use Rattle.std.specs.List.{list_any}
use Rattle.reo_trees.specs.declared.items.Item.{Item}
use Rattle.reo_rules.specs.Lists.{has_name}
use Rattle.reo_expand.specs.base.Expansion.{is_use_of}
use Rattle.reo_expand.proofs.uses.uses.Uses.note.Given as goal

abbrev pub invariant-loop-item : goal.invariant-loop-item
invariant-loop-item l = (n : List ℕ) → has_name l.self.names n ≡ (has_name l.initial.self.names n || list_any (λ (i : Item). is_use_of n i.form) (take l.item-index l.items))
