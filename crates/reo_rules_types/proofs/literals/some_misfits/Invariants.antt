-- All literals so far are items.
use Rattle.std.proofs.Common.{◌≡◌, false, take}
use Rattle.std.specs.Prelude.{is_none}
use Rattle.std.specs.List.{list_any}
use Rattle.reo_trees.specs.declared.literals.Literal.{Literal}
use Rattle.reo_rules.specs.literals.Items.{item_of}
use Rattle.reo_rules_types.specs.Cells.{type_at}
use Rattle.reo_rules_types.proofs.literals.some_misfits.Given as goal

abbrev pub invariant-loop-literal : goal.invariant-loop-literal
invariant-loop-literal l = list_any (λ (x : Literal). is_none (item_of (type_at l.types l.number) x)) (take l.literal-index l.literals) ≡ false
