use Rattle.std.proofs.Common.{◌≡◌, ◌++◌, take}
use Rattle.reo_syntax.specs.two.ItemText.{lines_text}
use Rattle.reo_syntax.proofs.two.items.+lines.Given as goal

abbrev pub invariant-append_items-loop-item : goal.invariant-append_items-loop-item
invariant-append_items-loop-item l = l.out ≡ l.initial.out ++ lines_text l.indent (take l.item-index l.items)
