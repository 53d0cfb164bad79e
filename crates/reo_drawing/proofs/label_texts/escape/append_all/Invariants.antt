use Rattle.std.proofs.Common.{◌≡◌, ◌++◌, take}
use Rattle.std.specs.List.{flat_map}
use Rattle.reo_drawing.specs.label_texts.Escape.{escape}
use Rattle.reo_drawing.proofs.label_texts.escape.append_all.Given as goal

abbrev pub invariant-loop-byte : goal.invariant-loop-byte
invariant-loop-byte l = l.text ≡ l.initial.text ++ flat_map escape (take l.byte-index l.bytes)
