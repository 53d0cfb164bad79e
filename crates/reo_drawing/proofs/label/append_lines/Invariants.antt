use Rattle.std.proofs.Common.{◌≡◌, ◌++◌, take}
use Rattle.reo_drawing.specs.Labels.{lines_text}
use Rattle.reo_drawing.proofs.label.append_lines.Given as goal

abbrev pub invariant-loop-item : goal.invariant-loop-item
invariant-loop-item l = l.text ≡ l.initial.text ++ lines_text (take l.item-index l.items)
