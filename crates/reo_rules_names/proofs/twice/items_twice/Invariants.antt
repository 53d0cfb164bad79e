-- The parameters and the nodes so far were seen, and nothing stands twice in them.
use Rattle.std.proofs.Common.{◌≡◌, ◌++◌, [], take}
use Rattle.reo_trees.specs.declared.items.Item.{Item}
use Rattle.reo_rules.specs.Lists.{each_after}
use Rattle.reo_rules.specs.Scopes.{parameter_names, node_names}
use Rattle.reo_rules.specs.Twice.{twice_in_item}
use Rattle.reo_rules_names.proofs.twice.items_twice.Given as goal

abbrev pub invariant-loop-item : goal.invariant-loop-item
invariant-loop-item l =
    (l.seen ≡ parameter_names l.parameters ++ node_names (take l.item-index l.items))
    × (each_after (λ before (i : Item). twice_in_item l.parameters before i.line i.form) [] (take l.item-index l.items) ≡ [])
