use Rattle.std.proofs.Common.{◌≡◌, ◌++◌, take}
use Rattle.reo_drawing.specs.Pictures.{primitive_lines}
use Rattle.reo_drawing.proofs.picture.append_primitives.Given as goal

abbrev pub invariant-loop-number : goal.invariant-loop-number
invariant-loop-number l = l.text ≡ l.initial.text ++ primitive_lines l.ports l.lost (take l.number l.kinds)
