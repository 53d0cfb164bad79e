use Rattle.std.proofs.Common.{◌≡◌, ◌++◌, map, take}
use Rattle.reo_trees.specs.declared.items.ItemForm.TheVariants as forms
use Rattle.reo_expand.specs.base.Expansion.{on_line}
use Rattle.reo_expand.proofs.items.arrays.put_nodes.Given as goal

abbrev pub invariant-loop-name : goal.invariant-loop-name
invariant-loop-name l = l.out ≡ l.initial.out ++ map (λ n. on_line l.line (forms.Node n l.term)) (take l.name-index l.names)
