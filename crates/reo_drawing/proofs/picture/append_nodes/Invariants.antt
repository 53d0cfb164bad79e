use Rattle.std.proofs.Common.{◌≡◌, ◌++◌, take}
use Rattle.reo_drawing.specs.Pictures.{node_lines}
use Rattle.reo_drawing.proofs.picture.append_nodes.Given as goal

abbrev pub invariant-loop-number : goal.invariant-loop-number
invariant-loop-number l = l.text ≡ l.initial.text ++ node_lines (take l.number l.names)
