use Rattle.std.proofs.Common.{◌≡◌, take}
use Rattle.reo_top.specs.inventory.Parts.{lines_from}
use Rattle.reo_top.proofs.inventory.text.parts_text.Given as goal

abbrev pub invariant-loop-number : goal.invariant-loop-number
invariant-loop-number l = l.text ≡ lines_from l.joints l.homes l.names 0 (take l.number l.primitives)
